-- What is live of a URL, however it is listed: whether something is, and which language comes first.
use Rattle.std.proofs.Common.{◌≡◌, ◌≢◌, ℕ, Bool, true, false, cond, ◌&&◌, ◌||◌, List, [], ◌∷◌, map, Option, Some, None, refl, sym, ap, subst, ◌∙◌, inl, inr}
use Rattle.std.specs.Prelude.{◌⊎◌, find, filter, T}
use Rattle.std.specs.List.{list_any}
use Rattle.std.specs.Cmp.{both_ways, eq_by_cmp_equiv}
use Rattle.std.specs.Ordering.{eq_by_cmp, is_eq, is_lt, ordering_reverse, match_ordering}
use Rattle.std.specs.declared.cmp.Ordering.{Ordering}
use Rattle.std.specs.declared.cmp.Ordering.TheVariants.{Less, Equal, Greater}
use Rattle.std.specs.FinMap as fin
use Rattle.std.specs.FinMap.Entries.{below_all, is_sorted}
use Rattle.std.proofs.lemmas.Bool.{and_parts}
use Rattle.std.proofs.lemmas.Cmp.{nat_list_cmp_total, tied_itself}
use Rattle.std.proofs.lemmas.Map.Lookups.{exact_bytes}
use Rattle.std.proofs.lemmas.Option.{none-some, same_Some}
use Rattle.slp_text.proofs.KeySets.{bytes_same}
use Rattle.slp_text.specs.Words.{bytes_eq, bytes_cmp, texts_eq}
use Rattle.registry_core.specs.declared.entry.Entry.{Entry}
use Rattle.registry_core.specs.Entries.{Pair, Entries, pair_cmp, pair_eq, pair_of, is_of, is_of_url, is_registered, outlives, passing_entries, IsDistinct, IsListing}
use Rattle.registry_core.proofs.Lists.{pair_total, pair_exact, pair_eq-true, pair_eq-same, get-passing_entries}
use Rattle.directory_judge.specs.Judgements.{Grounds, concerned_entries, earlier_entry, first_from, first_of, entries_in, is_kept}
use Rattle.directory_judge.specs.Walks.{is_concerned, is_kept_back}
use Rattle.directory_judge.proofs.Maps.{if_kept-some, some-if_kept}

-- ---- members of a list

abbrev pub IsIn : Entry → List Entry → Type 0
IsIn e [] = ⊥
IsIn e (x ∷ xs) = (x ≡ e) ⊎ IsIn e xs

false_true : false ≡ true → ⊥
false_true h = cc

pub or_true : (b : Bool) → (b || true) ≡ true
or_true true = refl
or_true false = refl

IsIn-filtered : (p : Entry → Bool) (e : Entry) (xs : List Entry) → IsIn e (filter p xs) → IsIn e xs × (p e ≡ true)
IsIn-filtered p e [] = λ h. absurd h
IsIn-filtered p e (x ∷ xs) =
    elim (p x) as (λ b. p x ≡ b → IsIn e (cond b (x ∷ filter p xs) (filter p xs)) → IsIn e (x ∷ xs) × (p e ≡ true)) [
      | true ↦ λ t h. elim h [
        | inl same ↦ (inl same, ap p (sym same) ∙ t)
        | inr later ↦ let k = IsIn-filtered p e xs later in (inr k.0, k.1)
      ]
      | false ↦ λ t h. let k = IsIn-filtered p e xs h in (inr k.0, k.1)
    ] refl

IsIn-filter : (p : Entry → Bool) (e : Entry) (xs : List Entry) → p e ≡ true → IsIn e xs → IsIn e (filter p xs)
IsIn-filter p e [] t h = h
IsIn-filter p e (x ∷ xs) t h =
    elim (p x) as (λ b. p x ≡ b → IsIn e (cond b (x ∷ filter p xs) (filter p xs))) [
      | true ↦ λ y. elim h [
        | inl same ↦ inl same
        | inr later ↦ inr (IsIn-filter p e xs t later)
      ]
      | false ↦ λ n. elim h [
        | inl same ↦ absurd (false_true (sym n ∙ ap p same ∙ t))
        | inr later ↦ IsIn-filter p e xs t later
      ]
    ] refl

any-IsIn : (p : Entry → Bool) (xs : List Entry) → list_any p xs ≡ true → (e : Entry) × IsIn e xs × (p e ≡ true)
any-IsIn p [] = λ h. absurd (false_true h)
any-IsIn p (x ∷ xs) =
    elim (p x) as (λ b. p x ≡ b → (b || list_any p xs) ≡ true → (e : Entry) × IsIn e (x ∷ xs) × (p e ≡ true)) [
      | true ↦ λ t h. (x, inl refl, t)
      | false ↦ λ t h. let k = any-IsIn p xs h in (k.0, inr k.1, k.2)
    ] refl

IsIn-any : (p : Entry → Bool) (e : Entry) (xs : List Entry) → p e ≡ true → IsIn e xs → list_any p xs ≡ true
IsIn-any p e [] t h = absurd h
IsIn-any p e (x ∷ xs) t h = elim h [
  | inl same ↦ ap (λ b. b || list_any p xs) (ap p same ∙ t)
  | inr later ↦ ap (λ b. p x || b) (IsIn-any p e xs t later) ∙ or_true (p x)
]

-- ---- which language comes first

itself : (e : Entry) → bytes_cmp e.language e.language ≢ Less
itself e h = let k : Equal ≡ Less = sym (tied_itself nat_list_cmp_total e.language) ∙ h in cc

-- what comes before the first comes before all
before-through : (e f y : List ℕ) → bytes_cmp e f ≡ Less → bytes_cmp y f ≢ Less → bytes_cmp e y ≡ Less
before-through e f y less not_less =
    elim (bytes_cmp f y) as (λ o. bytes_cmp f y ≡ o → bytes_cmp e y ≡ Less) [
      | Less ↦ λ l. nat_list_cmp_total.trans e f y less l
      | Equal ↦ λ q. subst (λ z. bytes_cmp e z ≡ Less) (exact_bytes f y q) less
      | Greater ↦ λ g. absurd (not_less (nat_list_cmp_total.antisymm y f ∙ ap ordering_reverse g))
    ] refl

earlier_entry-one : (o : Option Entry) (x : Entry) → (o ≡ Some (earlier_entry o x)) ⊎ (x ≡ earlier_entry o x)
earlier_entry-one None x = inr refl
earlier_entry-one (Some f) x = elim (bytes_cmp x.language f.language) as (λ c. (Some f ≡ Some (match_ordering c x f f)) ⊎ (x ≡ match_ordering c x f f)) [
  | Less ↦ inr refl
  | Equal ↦ inl refl
  | Greater ↦ inl refl
]

earlier_entry-first : (f x : Entry) → (bytes_cmp f.language (earlier_entry (Some f) x).language ≢ Less) × (bytes_cmp x.language (earlier_entry (Some f) x).language ≢ Less)
earlier_entry-first f x =
    elim (bytes_cmp x.language f.language) as (λ c. bytes_cmp x.language f.language ≡ c → (bytes_cmp f.language (match_ordering c x f f).language ≢ Less) × (bytes_cmp x.language (match_ordering c x f f).language ≢ Less)) [
      | Less ↦ λ l. ((λ h. let k : Greater ≡ Less = sym (nat_list_cmp_total.antisymm f.language x.language ∙ ap ordering_reverse l) ∙ h in cc), itself x)
      | Equal ↦ λ q. (itself f, (λ h. let k : Equal ≡ Less = sym q ∙ h in cc))
      | Greater ↦ λ g. (itself f, (λ h. let k : Greater ≡ Less = sym g ∙ h in cc))
    ] refl

earlier_entry-least : (o : Option Entry) (x e : Entry) → (o ≡ Some e) ⊎ (x ≡ e) → bytes_cmp e.language (earlier_entry o x).language ≢ Less
earlier_entry-least None x e (inl so) = absurd (none-some e so)
earlier_entry-least None x e (inr so) = subst (λ z. bytes_cmp z.language x.language ≢ Less) so (itself x)
earlier_entry-least (Some f) x e (inl so) = subst (λ z. bytes_cmp z.language (earlier_entry (Some f) x).language ≢ Less) (same_Some f e so) (earlier_entry-first f x).0
earlier_entry-least (Some f) x e (inr so) = subst (λ z. bytes_cmp z.language (earlier_entry (Some f) x).language ≢ Less) so (earlier_entry-first f x).1

-- one of the list, or the first so far
abbrev IsFrom : Option Entry → Entry → List Entry → Type 0
IsFrom o e xs = (o ≡ Some e) ⊎ IsIn e xs

first-least : (o : Option Entry) (xs : List Entry) (f : Entry) → first_from o xs ≡ Some f → IsFrom o f xs × ((e : Entry) → IsFrom o e xs → bytes_cmp e.language f.language ≢ Less)
first-least o [] f is = (
  inl is,
  λ e h. elim h [
    | inl so ↦ subst (λ z. bytes_cmp e.language z.language ≢ Less) (same_Some e f (sym so ∙ is)) (itself e)
    | inr nowhere ↦ absurd nowhere
  ],
)
first-least o (x ∷ xs) f is =
    let y = earlier_entry o x in
    let k = first-least (Some y) xs f is in
    let not_after : (e : Entry) → (o ≡ Some e) ⊎ (x ≡ e) → bytes_cmp e.language f.language ≢ Less = λ e h less. earlier_entry-least o x e h (before-through e.language f.language y.language less (k.1 y (inl refl))) in (
      elim k.0 [
        | inl so ↦ let same : y ≡ f = same_Some y f so in elim (earlier_entry-one o x) [
          | inl held ↦ inl (held ∙ so)
          | inr new ↦ inr (inl (new ∙ same))
        ]
        | inr later ↦ inr (inr later)
      ],
      (λ e h. elim h [
        | inl so ↦ not_after e (inl so)
        | inr there ↦ elim there [
          | inl so ↦ not_after e (inr so)
          | inr later ↦ k.1 e (inr later)
        ]
      ]),
    )

first-some : (f : Entry) (xs : List Entry) → first_from (Some f) xs ≢ None
first-some f [] h = none-some f (sym h)
first-some f (x ∷ xs) h = first-some (earlier_entry (Some f) x) xs h

first-none : (xs : List Entry) (e : Entry) → first_of xs ≡ None → IsIn e xs → ⊥
first-none [] e none h = h
first-none (x ∷ xs) e none h = first-some x xs none

first-in : (xs : List Entry) (f : Entry) → first_of xs ≡ Some f → IsIn f xs × ((e : Entry) → IsIn e xs → bytes_cmp e.language f.language ≢ Less)
first-in xs f is =
    let k = first-least None xs f is in (
      elim k.0 [
        | inl so ↦ absurd (none-some f so)
        | inr there ↦ there
      ],
      (λ e h. k.1 e (inr h)),
    )

-- lists of the same entries, told apart by their languages, have the same first one
module _ (xs ys : List Entry) (to : (e : Entry) → IsIn e xs → IsIn e ys) (from : (e : Entry) → IsIn e ys → IsIn e xs) (apart : (e f : Entry) → IsIn e xs → IsIn f xs → e.language ≡ f.language → e ≡ f) where
  same_firsts : (a b : Option Entry) → first_of xs ≡ a → first_of ys ≡ b → a ≡ b
  same_firsts None None x y = refl
  same_firsts None (Some f) x y = absurd (first-none xs f x (from f (first-in ys f y).0))
  same_firsts (Some e) None x y = absurd (first-none ys e y (to e (first-in xs e x).0))
  same_firsts (Some e) (Some f) x y =
      let a = first-in xs e x in
      let b = first-in ys f y in
      elim (bytes_cmp e.language f.language) as (λ o. bytes_cmp e.language f.language ≡ o → Some e ≡ Some f) [
        | Less ↦ λ l. absurd (b.1 e (to e a.0) l)
        | Equal ↦ λ q. ap Some (apart e f a.0 (from f b.0) (exact_bytes e.language f.language q))
        | Greater ↦ λ g. absurd (a.1 f (from f b.0) (nat_list_cmp_total.antisymm f.language e.language ∙ ap ordering_reverse g))
      ] refl

  same_first : first_of xs ≡ first_of ys
  same_first = same_firsts (first_of xs) (first_of ys) refl refl

-- ---- the entries of a map

and_so : (a b : Bool) → T (a && b) → T a × T b
and_so true b h = (tt, h)
and_so false b h = absurd h

so_less : (o : Ordering) → T (is_lt o) → o ≡ Less
so_less Less h = refl
so_less Equal h = absurd h
so_less Greater h = absurd h

so_equal : (o : Ordering) → is_eq o ≡ true → o ≡ Equal
so_equal Less h = cc
so_equal Equal h = refl
so_equal Greater h = cc

tied : (p q : Pair) → eq_by_cmp pair_cmp p q ≡ true → p ≡ q
tied p q h = pair_exact p q (so_equal (pair_cmp p q) h)

below-found : (x q : Pair) (es : List (Pair × Entry)) (e : Entry) → T (below_all pair_cmp x es) → fin.find pair_cmp q es ≡ Some e → pair_cmp x q ≡ Less
below-found x q [] e below = λ is. absurd (none-some e is)
below-found x q (y ∷ es) e below =
    let parts = and_so (is_lt (pair_cmp x y.0)) (below_all pair_cmp x es) below in
    elim (eq_by_cmp pair_cmp q y.0) as (λ b. eq_by_cmp pair_cmp q y.0 ≡ b → cond b (Some y.1) (fin.find pair_cmp q es) ≡ Some e → pair_cmp x q ≡ Less) [
      | true ↦ λ t is. subst (λ z. pair_cmp x z ≡ Less) (sym (tied q y.0 t)) (so_less (pair_cmp x y.0) parts.0)
      | false ↦ λ t is. below-found x q es e parts.1 is
    ] refl

not_tied : (x q : Pair) → pair_cmp x q ≡ Less → eq_by_cmp pair_cmp q x ≡ false
not_tied x q less =
    elim (eq_by_cmp pair_cmp q x) as (λ b. eq_by_cmp pair_cmp q x ≡ b → b ≡ false) [
      | true ↦ λ t. let k : Equal ≡ Less = sym (tied_itself pair_total x) ∙ subst (λ z. pair_cmp x z ≡ Less) (tied q x t) less in cc
      | false ↦ λ t. refl
    ] refl

-- the entries are those that are found at some pair
found-of : (es : List (Pair × Entry)) (e : Entry) → T (is_sorted pair_cmp es) → IsIn e (map (λ p. p.1) es) → (q : Pair) × (fin.find pair_cmp q es ≡ Some e)
found-of [] e sorted h = absurd h
found-of (x ∷ es) e sorted h =
    let parts = and_so (below_all pair_cmp x.0 es) (is_sorted pair_cmp es) sorted in
    elim h [
      | inl same ↦ (x.0, ap (λ b. cond b (Some x.1) (fin.find pair_cmp x.0 es)) ((eq_by_cmp_equiv pair_total).refl x.0) ∙ ap Some same)
      | inr later ↦
          let k = found-of es e parts.1 later in
          (k.0, ap (λ b. cond b (Some x.1) (fin.find pair_cmp k.0 es)) (not_tied x.0 k.0 (below-found x.0 k.0 es e parts.0 k.1)) ∙ k.1)
    ]

of-found : (es : List (Pair × Entry)) (q : Pair) (e : Entry) → fin.find pair_cmp q es ≡ Some e → IsIn e (map (λ p. p.1) es)
of-found [] q e = λ is. absurd (none-some e is)
of-found (x ∷ es) q e =
    elim (eq_by_cmp pair_cmp q x.0) as (λ b. cond b (Some x.1) (fin.find pair_cmp q es) ≡ Some e → IsIn e (map (λ p. p.1) (x ∷ es))) [
      | true ↦ λ is. inl (same_Some x.1 e is)
      | false ↦ λ is. inr (of-found es q e is)
    ]

pair-of : (m : Entries) (e : Entry) → IsIn e (entries_in m) → (q : Pair) × (fin.get m q ≡ Some e)
pair-of m e h = let k = found-of (fin.entries m) e (fin.entries_sorted m) h in (k.0, fin.get-entries m k.0 ∙ k.1)

in-map : (m : Entries) (q : Pair) (e : Entry) → fin.get m q ≡ Some e → IsIn e (entries_in m)
in-map m q e is = of-found (fin.entries m) q e (sym (fin.get-entries m q) ∙ is)

-- ---- a list of distinct entries

find-in : (q : Pair) (xs : List Entry) (e : Entry) → find (is_of q) xs ≡ Some e → IsIn e xs
find-in q [] e = λ is. absurd (none-some e is)
find-in q (x ∷ xs) e =
    elim (is_of q x) as (λ b. cond b (Some x) (find (is_of q) xs) ≡ Some e → IsIn e (x ∷ xs)) [
      | true ↦ λ is. inl (same_Some x e is)
      | false ↦ λ is. inr (find-in q xs e is)
    ]

in-find : (xs : List Entry) (e : Entry) → IsDistinct xs → IsIn e xs → find (is_of (pair_of e)) xs ≡ Some e
in-find [] e d h = absurd h
in-find (x ∷ xs) e d h = elim h [
  | inl same ↦ ap (λ b. cond b (Some x) (find (is_of (pair_of e)) xs)) (ap (λ z. pair_eq (pair_of e) (pair_of z)) same ∙ pair_eq-same (pair_of e)) ∙ ap Some same
  | inr later ↦
      let k = in-find xs e d.1 later in
      elim (is_of (pair_of e) x) as (λ b. is_of (pair_of e) x ≡ b → cond b (Some x) (find (is_of (pair_of e)) xs) ≡ Some e) [
        | true ↦ λ t. absurd (none-some e (sym (ap (λ q. find (is_of q) xs) (pair_eq-true (pair_of e) (pair_of x) t) ∙ d.0) ∙ k))
        | false ↦ λ t. k
      ] refl
]

-- ---- what a registry lists of a URL, and what is live

module _ (m : Entries) (url : List ℕ) (rest : List Entry) (listing : IsListing (is_of_url url) m rest) where
  in-rest : (e : Entry) → IsIn e rest → (fin.get m (pair_of e) ≡ Some e) × (is_of_url url e ≡ true)
  in-rest e h = if_kept-some (is_of_url url) (fin.get m (pair_of e)) e (sym (listing.each (pair_of e)) ∙ in-find rest e listing.once h)

  rest-in : (q : Pair) (e : Entry) → fin.get m q ≡ Some e → is_of_url url e ≡ true → IsIn e rest
  rest-in q e is of = find-in q rest e (listing.each q ∙ some-if_kept (is_of_url url) (fin.get m q) e is of)

  -- the entries of a URL are told apart by their languages
  apart-by_language : (e f : Entry) → IsIn e rest → IsIn f rest → e.language ≡ f.language → e ≡ f
  apart-by_language e f a b language =
      let x = in-rest e a in
      let y = in-rest f b in
      let url_same : e.url ≡ f.url = bytes_same e.url url x.1 ∙ sym (bytes_same f.url url y.1) in
      let pair : pair_of e ≡ pair_of f = λ i. (url_same i, language i) in
      same_Some e f (sym x.0 ∙ ap (fin.get m) pair ∙ y.0)

  module _ (alive : Entry → Bool) where
    live-in : (e : Entry) → IsIn e rest → alive e ≡ true → IsIn e (entries_in (passing_entries alive m)) × (is_of_url url e ≡ true)
    live-in e h t =
        let k = in-rest e h in
        (in-map (passing_entries alive m) (pair_of e) e (get-passing_entries alive m (pair_of e) ∙ some-if_kept alive (fin.get m (pair_of e)) e k.0 t), k.1)

    in-live : (e : Entry) → IsIn e (entries_in (passing_entries alive m)) → is_of_url url e ≡ true → IsIn e rest × (alive e ≡ true)
    in-live e h of =
        let at = pair-of (passing_entries alive m) e h in
        let k = if_kept-some alive (fin.get m at.0) e (sym (get-passing_entries alive m at.0) ∙ at.1) in
        (rest-in at.0 e k.0 of, k.1)

    pub any-live : list_any alive rest ≡ list_any (is_of_url url) (entries_in (passing_entries alive m))
    any-live = both_ways (list_any alive rest) (list_any (is_of_url url) (entries_in (passing_entries alive m)))
        (λ h. let k = any-IsIn alive rest h in let l = live-in k.0 k.1 k.2 in IsIn-any (is_of_url url) k.0 (entries_in (passing_entries alive m)) l.1 l.0)
        (λ h. let k = any-IsIn (is_of_url url) (entries_in (passing_entries alive m)) h in let l = in-live k.0 k.1 k.2 in IsIn-any alive k.0 rest l.1 l.0)

    -- the first of those that are live and asked for
    module _ (p r : Entry → Bool) (to : (e : Entry) → p e ≡ true → (alive e ≡ true) × (is_of_url url e ≡ true → r e ≡ true)) (from : (e : Entry) → r e ≡ true → (is_of_url url e ≡ true) × (alive e ≡ true → p e ≡ true)) where
      asked-in : (e : Entry) → IsIn e (filter p rest) → IsIn e (filter r (entries_in (passing_entries alive m)))
      asked-in e h =
          let a = IsIn-filtered p e rest h in
          let t = to e a.1 in
          let l = live-in e a.0 t.0 in
          IsIn-filter r e (entries_in (passing_entries alive m)) (t.1 l.1) l.0

      in-asked : (e : Entry) → IsIn e (filter r (entries_in (passing_entries alive m))) → IsIn e (filter p rest)
      in-asked e h =
          let a = IsIn-filtered r e (entries_in (passing_entries alive m)) h in
          let t = from e a.1 in
          let l = in-live e a.0 t.0 in
          IsIn-filter p e rest (t.1 l.1) l.0

      pub first-live : first_of (filter p rest) ≡ first_of (filter r (entries_in (passing_entries alive m)))
      first-live = same_first (filter p rest) (filter r (entries_in (passing_entries alive m))) asked-in in-asked
          (λ e f a b. apart-by_language e f (IsIn-filtered p e rest a).0 (IsIn-filtered p f rest b).0)

-- ---- what a withdrawal asks for

filter-filter : (p q : Entry → Bool) (xs : List Entry) → filter q (filter p xs) ≡ filter (λ e. p e && q e) xs
filter-filter p q [] = refl
filter-filter p q (x ∷ xs) =
    elim (p x) as (λ b. filter q (cond b (x ∷ filter p xs) (filter p xs)) ≡ cond (b && q x) (x ∷ filter (λ e. p e && q e) xs) (filter (λ e. p e && q e) xs)) [
      | true ↦ ap (λ ys. cond (q x) (x ∷ ys) ys) (filter-filter p q xs)
      | false ↦ filter-filter p q xs
    ]

and_all : (a b : Bool) → a ≡ true → b ≡ true → (a && b) ≡ true
and_all a b x y = ap (λ c. c && b) x ∙ y

module _ (g : Grounds) (m : Entries) (live : g.live ≡ passing_entries (outlives g.now) m) (url : List ℕ) (rest : List Entry) (listing : IsListing (is_of_url url) m rest) where
  pub any-of_url : list_any (outlives g.now) rest ≡ list_any (is_of_url url) (entries_in g.live)
  any-of_url = any-live m url rest listing (outlives g.now) ∙ ap (λ l. list_any (is_of_url url) (entries_in l)) (sym live)

  module _ (scopes : List (List ℕ)) where
    pub first-concerned : first_of (filter (is_concerned g scopes) rest) ≡ first_of (concerned_entries g url scopes)
    first-concerned =
        first-live m url rest listing (outlives g.now) (is_concerned g scopes) (is_registered url scopes)
        (λ e h.
        let l = and_parts (outlives g.now e) (texts_eq e.scopes scopes) h in
        (l.0, λ of. and_all (bytes_eq e.url url) (texts_eq e.scopes scopes) of l.1))
        (λ e h.
        let k = and_parts (bytes_eq e.url url) (texts_eq e.scopes scopes) h in
        (k.0, λ alive. and_all (outlives g.now e) (texts_eq e.scopes scopes) alive k.1))
        ∙ ap (λ l. first_of (filter (is_registered url scopes) (entries_in l))) (sym live)

    pub first-kept : first_of (filter (is_kept_back g scopes) rest) ≡ first_of (filter (is_kept g.rules g.asker) (concerned_entries g url scopes))
    first-kept =
        first-live m url rest listing (outlives g.now) (is_kept_back g scopes) (λ e. is_registered url scopes e && is_kept g.rules g.asker e)
        (λ e h.
        let k = and_parts (is_concerned g scopes e) (is_kept g.rules g.asker e) h in
        let l = and_parts (outlives g.now e) (texts_eq e.scopes scopes) k.0 in
        (l.0, λ of. and_all (is_registered url scopes e) (is_kept g.rules g.asker e) (and_all (bytes_eq e.url url) (texts_eq e.scopes scopes) of l.1) k.1))
        (λ e h.
        let k = and_parts (is_registered url scopes e) (is_kept g.rules g.asker e) h in
        let l = and_parts (bytes_eq e.url url) (texts_eq e.scopes scopes) k.0 in
        (l.0, λ alive. and_all (is_concerned g scopes e) (is_kept g.rules g.asker e) (and_all (outlives g.now e) (texts_eq e.scopes scopes) alive l.1) k.1))
        ∙ ap first_of (sym (filter-filter (is_registered url scopes) (is_kept g.rules g.asker) (entries_in (passing_entries (outlives g.now) m))))
        ∙ ap (λ l. first_of (filter (is_kept g.rules g.asker) (filter (is_registered url scopes) (entries_in l)))) (sym live)

-- the first of all does not pass where none does
pub none-passes : (p : Entry → Bool) (xs : List Entry) (e : Entry) → first_of xs ≡ Some e → first_of (filter p xs) ≡ None → p e ≡ false
none-passes p xs e is none =
    elim (p e) as (λ b. p e ≡ b → b ≡ false) [
      | true ↦ λ t. absurd (first-none (filter p xs) e none (IsIn-filter p e xs t (first-in xs e is).0))
      | false ↦ λ t. refl
    ] refl
