-- What is open in the state of a history, of a type or of a URL.
use Rattle.std.proofs.Common.{◌≡◌, ℕ, max, Bool, true, false, cond, not, List, [], ◌∷◌, map, Some, refl, sym, ap, ap₂, subst, ◌∙◌, arith, inl, inr}
use Rattle.std.specs.Prelude.{◌&&◌, ◌||◌, ◌↔◌, filter, find, Contains, IsTrue}
use Rattle.std.specs.List.{list_any, All}
use Rattle.std.specs.FinMap as fin
use Rattle.std.proofs.lemmas.Bool.{and_parts}
use Rattle.std.proofs.lemmas.List.Elements.{All-nil, All-cons, All-weaker, All-contains, All-contains_itself, All-filter, filter_passes}
use Rattle.std.proofs.lemmas.Map.Text.{is_eq-slice_cmp}
use Rattle.std.proofs.lemmas.Option.{none-some, same_Some}
use Rattle.slp_text.proofs.KeySets.{bytes_same, member_cases}
use borrow.Author.Tests.{ltb-true, lt-ltb}
use Rattle.access_rules.specs.Deciding.{SiteRules, deciding, deed}
use Rattle.access_rules.specs.declared.rule.Action.TheVariants.{See}
use Rattle.registry_core.specs.declared.entry.Entry.{Entry}
use Rattle.registry_core.specs.Entries.{Entries, pair_of, is_of, outlives, has_scope, IsDistinct, IsListing}
use Rattle.registry_core.proofs.Lists.{pair_eq-true, pair_eq-same}
use Rattle.slp_text.specs.Words.{bytes_eq}
use Rattle.directory_questions.specs.Calls.{Opening, standpoint}
use Rattle.directory_questions.specs.Items.{IsOpenNow, Matches}
use Rattle.directory_questions.specs.Sights.{asked_scopes, seen_entry}
use Rattle.directory_judge.specs.History.{History, now}
use Rattle.directory_judge.specs.Judgements.{supports}
use Rattle.directory_judge.specs.Meaning.{rules}
use Rattle.directory_judge.specs.Sites.{Site}
use Rattle.attr_list.specs.Lists.{Attributes}
use Rattle.directory_state.specs.Folds.{Fold}
use Rattle.directory_state.specs.Searches.{is_allowed, is_open, is_seen, seen_of, HasOneOfEachPair, IsIn}
use Rattle.directory_state.specs.Viewers.{IsViewerOf}
use Rattle.directory_state.specs.declared.asked.Viewer.{Viewer}
use Rattle.directory_state.specs.State.{State}
use Rattle.directory_state.proofs.Folds.{if_kept-some, some-if_kept}
use Rattle.directory_state.proofs.Joins.{is_same-itself}
use Rattle.directory_state.proofs.SeenUrls.{here, there, no_other}

bytes_eq-same : (a : List ℕ) → bytes_eq a a ≡ true
bytes_eq-same a = sym (is_eq-slice_cmp a a) ∙ is_same-itself a

-- ---- a test that some element passes

or-first : (a b : Bool) → a ≡ true → (a || b) ≡ true
or-first true b h = refl
or-first false b h = let k : true ≡ false = sym h in cc

or-second : (a b : Bool) → b ≡ true → (a || b) ≡ true
or-second true b h = refl
or-second false b h = h

module _ {A : Type 0} (p : A → Bool) where
  list_any-some : (xs : List A) → list_any p xs ≡ true → (x : A) × Contains xs x × (p x ≡ true)
  list_any-some [] h = cc
  list_any-some (x ∷ xs) h =
      elim (p x) as (λ b. p x ≡ b → (b || list_any p xs) ≡ true → (y : A) × Contains (x ∷ xs) y × (p y ≡ true)) [
        | true ↦ λ t _. (x, here x xs, t)
        | false ↦ λ _ rest. let k = list_any-some xs rest in (k.0, there x k.0 xs k.1, k.2)
      ] refl h

  pub some-list_any : (xs : List A) (x : A) → Contains xs x → p x ≡ true → list_any p xs ≡ true
  some-list_any [] x has is = absurd (omega (arith, has.1))
  some-list_any (y ∷ ys) x has is = elim (member_cases y x ys has) [
    | inl same ↦ or-first (p y) (list_any p ys) (ap p same ∙ is)
    | inr in_rest ↦ or-second (p y) (list_any p ys) (some-list_any ys x in_rest is)
  ]

  pub any-none : (xs : List A) → filter p xs ≡ [] → list_any p xs ≡ false
  any-none [] h = refl
  any-none (x ∷ xs) h = elim (p x) as (λ b. cond b (x ∷ filter p xs) (filter p xs) ≡ [] → (b || list_any p xs) ≡ false) [ true ↦ λ k. cc | false ↦ λ k. any-none xs k ] h

  pub any-some : (xs : List A) (y : A) (ys : List A) → filter p xs ≡ y ∷ ys → list_any p xs ≡ true
  any-some [] y ys h = cc
  any-some (x ∷ xs) y ys h = elim (p x) as (λ b. cond b (x ∷ filter p xs) (filter p xs) ≡ y ∷ ys → (b || list_any p xs) ≡ true) [ true ↦ λ k. refl | false ↦ λ k. any-some xs y ys k ] h

  -- ---- what is filtered

  kept_all : (xs : List A) → All (λ x. p x ≡ true → Contains (filter p xs) x) xs
  kept_all [] = All-nil (λ x. p x ≡ true → Contains (filter p []) x)
  kept_all (x ∷ xs) =
      elim (p x) as (λ b. p x ≡ b → All (λ y. p y ≡ true → Contains (cond b (x ∷ filter p xs) (filter p xs)) y) (x ∷ xs)) [
        | true ↦ λ t. All-cons (λ y. p y ≡ true → Contains (x ∷ filter p xs) y) x xs (λ _. here x (filter p xs))
            (All-weaker (λ y. p y ≡ true → Contains (filter p xs) y) (λ y. p y ≡ true → Contains (x ∷ filter p xs) y) (λ y in' t. there x y (filter p xs) (in' t)) xs (kept_all xs))
        | false ↦ λ f. All-cons (λ y. p y ≡ true → Contains (filter p xs) y) x xs (λ t. absurd (no_other (p x) t f)) (kept_all xs)
      ] refl

  pub Contains-filter : (xs : List A) (x : A) → Contains xs x → p x ≡ true → Contains (filter p xs) x
  Contains-filter xs x h t = All-contains (λ x. p x ≡ true → Contains (filter p xs) x) xs x (kept_all xs) h t

  pub from-filter : (xs : List A) (x : A) → Contains (filter p xs) x → Contains xs x
  from-filter xs x has = All-contains (Contains xs) (filter p xs) x (All-filter p (Contains xs) xs (All-contains_itself xs)) has

  pub passes-filter : (xs : List A) (x : A) → Contains (filter p xs) x → p x ≡ true
  passes-filter xs x has = All-contains (λ x. p x ≡ true) (filter p xs) x (filter_passes p xs) has

-- ---- scopes

list_any-contains : (xs : List (List ℕ)) (s : List ℕ) → list_any (λ k. bytes_eq k s) xs ≡ true → Contains xs s
list_any-contains xs s h = let k = list_any-some (λ k. bytes_eq k s) xs h in subst (Contains xs) (bytes_same k.0 s k.2) k.1

contains-list_any : (xs : List (List ℕ)) (s : List ℕ) → Contains xs s → list_any (λ k. bytes_eq k s) xs ≡ true
contains-list_any xs s h = some-list_any (λ k. bytes_eq k s) xs s h (bytes_eq-same s)

module _ (site : Site) (scopes : List (List ℕ)) where
  abbrev is_asked : List ℕ → Bool
  is_asked s = list_any (λ k. bytes_eq k s) scopes

  -- what is supported is asked for, where something is
  supported-asked : (asked_scopes site scopes ≡ [] → ⊥) → list_any (supports site) scopes ≡ true
  supported-asked some =
      elim (asked_scopes site scopes) as (λ xs. asked_scopes site scopes ≡ xs → (xs ≡ [] → ⊥) → list_any (supports site) scopes ≡ true) [
        | [] ↦ λ _ k. absurd (k refl)
        | s ∷ xs ↦ λ is _.
            let has : Contains (asked_scopes site scopes) s = subst (λ ys. Contains ys s) (sym is) (here s xs) in
            some-list_any (supports site) scopes s (list_any-contains scopes s (passes-filter is_asked site.scopes s has)) (contains-list_any site.scopes s (from-filter is_asked site.scopes s has))
      ] refl some

  unsupported-asked : asked_scopes site scopes ≡ [] → list_any (supports site) scopes ≡ false
  unsupported-asked none =
      elim (list_any (supports site) scopes) as (λ b. list_any (supports site) scopes ≡ b → b ≡ false) [
        | true ↦ λ t.
            let k = list_any-some (supports site) scopes t in
            let has = Contains-filter is_asked site.scopes k.0 (list_any-contains site.scopes k.0 k.2) (contains-list_any scopes k.0 k.1) in
            absurd (let n = (subst (λ ys. Contains ys k.0) none has).1 in omega (arith, n))
        | false ↦ λ _. refl
      ] refl

  -- something is asked for that is supported
  pub asked-some : (none : Bool) (xs : List (List ℕ)) → xs ≡ asked_scopes site scopes → (IsTrue none ↔ (xs ≡ [])) → not none ≡ list_any (supports site) scopes
  asked-some true xs is k = sym (unsupported-asked (sym is ∙ k.0 refl))
  asked-some false xs is k = sym (supported-asked (λ e. let f : false ≡ true = k.1 (is ∙ e) in cc))

-- ---- what is listed is held

find-contains : (p : Entry → Bool) (es : List Entry) (e : Entry) → find p es ≡ Some e → Contains es e
find-contains p [] e h = absurd (none-some e h)
find-contains p (x ∷ es) e h =
    elim (p x) as (λ b. cond b (Some x) (find p es) ≡ Some e → Contains (x ∷ es) e) [
      | true ↦ λ k. subst (Contains (x ∷ es)) (same_Some x e k) (here x es)
      | false ↦ λ k. there x e es (find-contains p es e k)
    ] h

found_all : (es : List Entry) → IsDistinct es → All (λ e. find (is_of (pair_of e)) es ≡ Some e) es
found_all [] d = All-nil (λ (e : Entry). find (is_of (pair_of e)) [] ≡ Some e)
found_all (x ∷ es) d =
    All-cons (λ e. find (is_of (pair_of e)) (x ∷ es) ≡ Some e) x es (ap (λ b. cond b (Some x) (find (is_of (pair_of x)) es)) (pair_eq-same (pair_of x)))
    (All-weaker (λ e. find (is_of (pair_of e)) es ≡ Some e) (λ e. find (is_of (pair_of e)) (x ∷ es) ≡ Some e)
    (λ e is.
    elim (is_of (pair_of e) x) as (λ b. is_of (pair_of e) x ≡ b → cond b (Some x) (find (is_of (pair_of e)) es) ≡ Some e) [
      | true ↦ λ t. absurd (none-some e (sym d.0 ∙ ap (λ q. find (is_of q) es) (sym (pair_eq-true (pair_of e) (pair_of x) t)) ∙ is))
      | false ↦ λ f. is
    ] refl)
    es (found_all es d.1))

module _ (p : Entry → Bool) (live : Entries) (es : List Entry) (l : IsListing p live es) where
  pub listed-held : (e : Entry) → Contains es e → (fin.get live (pair_of e) ≡ Some e) × (p e ≡ true)
  listed-held e has =
      if_kept-some p (fin.get live (pair_of e)) e (sym (l.each (pair_of e)) ∙ All-contains (λ x. find (is_of (pair_of x)) es ≡ Some x) es e (found_all es l.once) has)

  held-listed : (e : Entry) → fin.get live (pair_of e) ≡ Some e → p e ≡ true → Contains es e
  held-listed e got is = find-contains (is_of (pair_of e)) es e (l.each (pair_of e) ∙ some-if_kept p (fin.get live (pair_of e)) e got is)

  -- what is held of one pair is one entry
  pub seen-once : (seen : Entry → Bool) → HasOneOfEachPair (filter seen es)
  seen-once seen e f has other same =
      let held : (x : Entry) → Contains (filter seen es) x → fin.get live (pair_of x) ≡ Some x = λ x in'. (listed-held x (from-filter seen es x in')).0 in
      same_Some e f (sym (held e has) ∙ ap (fin.get live) same ∙ held f other)

  pub listed-once : HasOneOfEachPair es
  listed-once e f has other same = same_Some e f (sym (listed-held e has).0 ∙ ap (fin.get live) same ∙ (listed-held f other).0)

-- ---- what is mapped

none_within : {A : Type 0} (x : A) → Contains [] x → ⊥
none_within x has = omega (arith, has.1)

pub mapped-has : {A B : Type 0} (f : A → B) (xs : List A) (x : A) → Contains xs x → Contains (map f xs) (f x)
mapped-has f [] x has = absurd (none_within x has)
mapped-has f (y ∷ ys) x has = elim (member_cases y x ys has) [
  | inl same ↦ subst (λ z. Contains (map f (y ∷ ys)) (f z)) same (here (f y) (map f ys))
  | inr rest ↦ there (f y) (f x) (map f ys) (mapped-has f ys x rest)
]

pub mapped-from : {A B : Type 0} (f : A → B) (xs : List A) (t : B) → Contains (map f xs) t → (x : A) × Contains xs x × (f x ≡ t)
mapped-from f [] t has = absurd (none_within t has)
mapped-from f (y ∷ ys) t has = elim (member_cases (f y) t (map f ys) has) [
  | inl same ↦ (y, here y ys, same)
  | inr rest ↦ let k = mapped-from f ys t rest in (k.0, there y k.0 ys k.1, k.2)
]

pub mapped-empty : {A B : Type 0} (f : A → B) (xs : List A) → map f xs ≡ [] → xs ≡ []
mapped-empty f [] is = refl
mapped-empty f (x ∷ xs) is = cc

-- ---- what is seen of a listing is what is open of it

-- the test looks at no attributes
abbrev pub KeepsTest : (Entry → Bool) → Type 0
KeepsTest p = (e : Entry) (a : Attributes) → p (record e { attrs = a }) ≡ p e

module _ (o : Opening) (h : History) (s : State) (m asker : ℕ) (scopes : List (List ℕ)) (v : Viewer) (p : Entry → Bool) (es : List Entry)
    (fold : Fold o h s) (by : IsViewerOf s m asker scopes v) (keeps : KeepsTest p) (l : IsListing p s.entries es) where
  abbrev ruled : SiteRules
  ruled = rules o.rules h

  abbrev asked : List (List ℕ)
  asked = asked_scopes o.site scopes

  -- what depends on the viewer alone is the same of the history
  there_is : {A : Type 0} (f : SiteRules → ℕ → ℕ → List (List ℕ) → A) → f v.rules.now v.moment v.asker v.asked ≡ f ruled (now h m) asker asked
  there_is f =
      ap (λ rs. f rs v.moment v.asker v.asked) (by.rules ∙ fold.ruled)
      ∙ ap (λ n. f ruled n v.asker v.asked) (by.acts ∙ ap (max m) fold.clocks)
      ∙ ap (λ a. f ruled (now h m) a v.asked) by.asks
      ∙ ap (f ruled (now h m) asker) (by.asked ∙ ap (λ site. asked_scopes site scopes) fold.placed)

  sees_there : (e : Entry) → is_seen v e ≡ is_open ruled (now h m) asker asked e
  sees_there e = there_is (λ rs n a ss. is_open rs n a ss e)

  shows_there : (e : Entry) → seen_of v e ≡ seen_entry ruled asker asked e
  shows_there e = there_is (λ rs n a ss. seen_entry rs a ss e)

  pub from-seen : (x e : Entry) → Contains (filter (is_seen v) es) x → seen_of v x ≡ e → Matches (IsOpenNow (standpoint o h m asker) scopes) p e
  from-seen x e has same =
      let listed = listed-held p s.entries es l x (from-filter (is_seen v) es x has) in
      let two = and_parts (outlives (now h m) x) (is_allowed ruled asker asked x) (sym (sees_there x) ∙ passes-filter (is_seen v) es x has) in
      let some = list_any-some (λ t. has_scope t x && (deciding ruled (deed asker See x.kind x.owner) t).allow) asked two.1 in
      let scope = some.0 in
      let three = and_parts (has_scope scope x) (deciding ruled (deed asker See x.kind x.owner) scope).allow some.2 in
      let lives = ((fold.entries (pair_of x) x).0 listed.0).1 in
      record {
        opened = record {
          entry = x;
          live = record { stands = lives.stands; lasts = ltb-true (now h m) x.deadline two.0 };
          open_to = record {
            scope = scope;
            stored = list_any-contains x.scopes scope three.0;
            requested = list_any-contains scopes scope (passes-filter (is_asked o.site scopes) o.site.scopes scope some.1);
            supported = from-filter (is_asked o.site scopes) o.site.scopes scope some.1;
            allowed = three.1;
          };
          seen = sym same ∙ shows_there x;
        };
        about = ap p (sym same) ∙ keeps x (seen_of v x).attrs ∙ listed.1;
      }

  pub to-seen : (e : Entry) → Matches (IsOpenNow (standpoint o h m asker) scopes) p e → (x : Entry) × Contains (filter (is_seen v) es) x × (seen_of v x ≡ e)
  to-seen e a =
      let x = a.opened.entry in
      let open_to = a.opened.open_to in
      let got = (fold.entries (pair_of x) x).1 (refl, record { stands = a.opened.live.stands; lasts = omega (arith, a.opened.live.lasts) }) in
      let in_asked = Contains-filter (is_asked o.site scopes) o.site.scopes open_to.scope open_to.supported (contains-list_any scopes open_to.scope open_to.requested) in
      let allowed = some-list_any (λ t. has_scope t x && (deciding ruled (deed asker See x.kind x.owner) t).allow) asked open_to.scope in_asked
      (ap₂ ◌&&◌ (contains-list_any x.scopes open_to.scope open_to.stored) open_to.allowed) in
      let about : p x ≡ true = sym (keeps x (seen_entry ruled asker asked x).attrs) ∙ ap p (sym a.opened.seen) ∙ a.about in (
        x,
        Contains-filter (is_seen v) es x (held-listed p s.entries es l x got about)
            (sees_there x ∙ ap₂ ◌&&◌ (lt-ltb (now h m) x.deadline a.opened.live.lasts) allowed),
        shows_there x ∙ sym a.opened.seen,
      )

  pub seen-open : (e : Entry) → IsIn (map (seen_of v) (filter (is_seen v) es)) e ↔ Matches (IsOpenNow (standpoint o h m asker) scopes) p e
  seen-open e = (
    (λ has. let k = mapped-from (seen_of v) (filter (is_seen v) es) e has in from-seen k.0 e k.1 k.2),
    (λ a. let k = to-seen e a in subst (Contains (map (seen_of v) (filter (is_seen v) es))) k.2 (mapped-has (seen_of v) (filter (is_seen v) es) k.0 k.1)),
  )
