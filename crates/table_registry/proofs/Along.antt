-- Walks along the orders of a table.
use Rattle.std.proofs.Common.{◌≡◌, ◌≢◌, ℕ, zero, suc, ◌+◌, ◌-◌, ◌<◌, ◌≤◌, Bool, true, false, cond, ◌&&◌, List, [], ◌∷◌, length, drop, get_or, filter, Option, Some, None, refl, sym, ap, ap₂, ◌∙◌, arith, inl, inr, ◌⊎◌, add-one, drop-cons}
use Rattle.std.specs.Prelude.{not, is_some, IfSome, MatchOption}
use Rattle.std.specs.Borrow.{Bor}
use Rattle.std.proofs.lemmas.Option.{none-some, cond_some}
use Rattle.std.specs.Ordering.{is_lt, is_le, ordering_then, match_ordering}
use Rattle.std.specs.declared.cmp.Ordering.{Ordering}
use Rattle.std.specs.declared.cmp.Ordering.TheVariants.{Less, Equal, Greater}
use Rattle.std.proofs.lemmas.Cmp.{nat_list_cmp_total}
use Rattle.std.proofs.lemmas.Map.Lookups.{exact_bytes}
use Rattle.std.proofs.lemmas.List.{drop_all}
use Rattle.std.proofs.lemmas.List.Sums.{prefix_len_passes}
use Rattle.std.proofs.lemmas.Bool.{cases_lt, cases_eq, and_parts}
use Rattle.slp_text.specs.Words.{bytes_cmp}
use Rattle.service_url.specs.Types.{covers, is_abstract}
use Rattle.service_url.proofs.Roots.{covered_root, covered_same}
use Rattle.registry_core.specs.declared.entry.Entry.{Entry}
use Rattle.registry_slots.specs.declared.orders.By.{By}
use Rattle.registry_slots.specs.declared.orders.By.TheVariants as by
use Rattle.registry_core.specs.Entries.{pair_cmp, pair_of, if_kept, is_kind, is_within, entries_of_list, IsListing}
use Rattle.registry_slots.specs.Slots.{Apart, slot_at, somes, tests, gathered, prepend}
use Rattle.registry_slots.specs.Orders.{rank_cmp, rank_of, rank_in, rank_at, front_of, comes_before, place_in, IsOrder}
use Rattle.table_registry.specs.Tables.{by_for, is_wanted, is_past, in_bound, in_scope, NoneIn}
use Rattle.registry_slots.proofs.SlotLists.{get_held, held_get, listing_gathered}
use Rattle.registry_slots.proofs.Ranks.{in_order, nil_first, rising_at, same_bytes_cmp}
use Rattle.slot_chains.specs.Links.{count}

-- ---- the front of what a type covers

pub covered_front : (kind : List ℕ) (e : Entry) → covers kind e.kind ≡ true → front_of (by_for (Some kind)) e ≡ kind
covered_front kind e h = elim (is_abstract kind) as (λ b. is_abstract kind ≡ b → front_of (cond b by.Root by.Kind) e ≡ kind) [
  | true ↦ λ a. covered_root kind e.kind a h
  | false ↦ λ a. covered_same kind e.kind a h
] refl

-- what comes before all of a front has another one
before_front : (way : By) (k : List ℕ) (e : Entry) → is_lt (rank_cmp (rank_of way e) (k, ([], []))) ≡ true → front_of way e ≢ k
before_front way k e h f =
    let c : rank_cmp (rank_of way e) (k, ([], [])) ≡ pair_cmp (pair_of e) ([], []) = ap (λ o. ordering_then o (pair_cmp (pair_of e) ([], []))) (ap (λ g. bytes_cmp g k) f ∙ same_bytes_cmp k) in
    let z : false ≡ true = sym (nil_first (pair_of e)) ∙ sym (ap is_lt c) ∙ h in
    cc

pub start_none : (kind : List ℕ) (slots : List (Option Entry)) (order : List ℕ) → NoneIn (is_kind (Some kind)) slots order 0 (place_in (by_for (Some kind)) slots order (kind, ([], [])))
start_none kind slots order = λ j _ l.
    let way : By = by_for (Some kind) in
    let before : comes_before way (kind, ([], [])) (slot_at slots (get_or order j 0)) ≡ true = prefix_len_passes (λ x. comes_before way (kind, ([], [])) (slot_at slots x)) order j 0 l in
    elim (slot_at slots (get_or order j 0)) as (λ o. comes_before way (kind, ([], [])) o ≡ true → tests (is_kind (Some kind)) o ≡ false) [
      | None ↦ λ b. refl
      | Some e ↦ λ b. elim (covers kind e.kind) as (λ t. covers kind e.kind ≡ t → t ≡ false) [
        | true ↦ λ t. absurd (before_front way kind e b (covered_front kind e t))
        | false ↦ λ t. refl
      ] refl
    ] before

-- ---- what comes after the last

pub within_down : (x y b : List ℕ) → (bytes_cmp x y ≡ Less) ⊎ (x ≡ y) → is_le (bytes_cmp y b) ≡ true → is_le (bytes_cmp x b) ≡ true
within_down x y b (inr e) h = ap (λ z. is_le (bytes_cmp z b)) e ∙ h
within_down x y b (inl l) h = elim (bytes_cmp y b) as (λ o. bytes_cmp y b ≡ o → is_le o ≡ true → is_le (bytes_cmp x b) ≡ true) [
  | Less ↦ λ c k. ap is_le (nat_list_cmp_total.trans x y b l c)
  | Equal ↦ λ c k. ap is_le (ap (bytes_cmp x) (sym (exact_bytes y b c)) ∙ l)
  | Greater ↦ λ c k. cc
] refl h

pub first_less : (a b : Ordering) → ordering_then a b ≡ Less → (a ≡ Less) ⊎ (a ≡ Equal)
first_less Less b h = inl refl
first_less Equal b h = inr refl
first_less Greater b h = cc

pub url_order : (e f : Entry) → pair_cmp (pair_of e) (pair_of f) ≡ Less → (bytes_cmp e.url f.url ≡ Less) ⊎ (e.url ≡ f.url)
url_order e f h = elim (first_less (bytes_cmp e.url f.url) (bytes_cmp e.language f.language) h) [
  | inl l ↦ inl l
  | inr s ↦ inr (exact_bytes e.url f.url s)
]

bound_down : (bound : Option (List ℕ)) (e f : Entry) → (bytes_cmp e.url f.url ≡ Less) ⊎ (e.url ≡ f.url) → in_bound bound f ≡ true → in_bound bound e ≡ true
bound_down None e f o h = refl
bound_down (Some b) e f o h = within_down e.url f.url b o h

past_covered : (kind : List ℕ) (bound : Option (List ℕ)) (e f : Entry) → is_past (by_for (Some kind)) (Some kind) bound e ≡ true → rank_cmp (rank_of (by_for (Some kind)) e) (rank_of (by_for (Some kind)) f) ≡ Less → covers kind f.kind ≡ true → in_bound bound f ≡ true → ⊥
past_covered kind bound e f past less covered within =
    let way : By = by_for (Some kind) in
    let front : front_of way f ≡ kind = covered_front kind f covered in
    let same : rank_cmp (rank_of way e) (rank_of way f) ≡ ordering_then (bytes_cmp (front_of way e) kind) (pair_cmp (pair_of e) (pair_of f)) = ap (λ k. ordering_then (bytes_cmp (front_of way e) k) (pair_cmp (pair_of e) (pair_of f))) front in
    elim (bytes_cmp (front_of way e) kind) as (λ o. match_ordering o false (not (in_bound bound e)) true ≡ true → ordering_then o (pair_cmp (pair_of e) (pair_of f)) ≡ Less → ⊥) [
      | Less ↦ λ p l. cc
      | Equal ↦ λ p l. let z : in_bound bound e ≡ true = bound_down bound e f (url_order e f l) within in let y : not true ≡ true = sym (ap not z) ∙ p in cc
      | Greater ↦ λ p l. cc
    ] past (sym same ∙ less)

past_wanted : (bound kind scope : Option (List ℕ)) (e f : Entry) → is_past (by_for kind) kind bound e ≡ true → rank_cmp (rank_of (by_for kind) e) (rank_of (by_for kind) f) ≡ Less → is_wanted bound kind scope f ≡ false
past_wanted bound None scope e f past less = cc
past_wanted bound (Some k) scope e f past less = elim (is_wanted bound (Some k) scope f) as (λ b. is_wanted bound (Some k) scope f ≡ b → b ≡ false) [
  | true ↦ λ w.
      let p = and_parts (in_bound bound f) (covers k f.kind && in_scope scope f) w in
      let q = and_parts (covers k f.kind) (in_scope scope f) p.1 in
      absurd (past_covered k bound e f past less q.0 p.0)
  | false ↦ λ w. refl
] refl

pub past_none : (bound kind scope : Option (List ℕ)) (slots : List (Option Entry)) (order : List ℕ) → IsOrder (by_for kind) slots order → (i : ℕ)
    → tests (is_past (by_for kind) kind bound) (slot_at slots (get_or order i 0)) ≡ true
    → NoneIn (is_wanted bound kind scope) slots order (i + 1) (length order)
past_none bound kind scope slots order o i past = λ j l m.
    let way : By = by_for kind in
    let less : rank_cmp (rank_at way slots (get_or order i 0)) (rank_at way slots (get_or order j 0)) ≡ Less = rising_at way slots order i j o.rising (omega arith) m in
    elim (slot_at slots (get_or order i 0)) as (λ s. tests (is_past way kind bound) s ≡ true → rank_cmp (rank_in way s) (rank_at way slots (get_or order j 0)) ≡ Less → tests (is_wanted bound kind scope) (slot_at slots (get_or order j 0)) ≡ false) [
      | None ↦ λ p r. cc
      | Some e ↦ λ p r. elim (slot_at slots (get_or order j 0)) as (λ s. rank_cmp (rank_of way e) (rank_in way s) ≡ Less → tests (is_wanted bound kind scope) s ≡ false) [
        | None ↦ λ q. refl
        | Some f ↦ λ q. past_wanted bound kind scope e f p q
      ] r
    ] past less

-- ---- intervals

pub NoneIn-more : (p : Entry → Bool) (slots : List (Option Entry)) (order : List ℕ) (a i : ℕ) → NoneIn p slots order a i → tests p (slot_at slots (get_or order i 0)) ≡ false → NoneIn p slots order a (i + 1)
NoneIn-more p slots order a i n here = λ j l m. elim (cases_eq j i) [
  | inl e ↦ ap (λ x. tests p (slot_at slots (get_or order x 0))) e ∙ here
  | inr d ↦ n j l (omega arith)
]

pub NoneIn-join : (p : Entry → Bool) (slots : List (Option Entry)) (order : List ℕ) (a i b : ℕ) → NoneIn p slots order a i → NoneIn p slots order i b → NoneIn p slots order a b
NoneIn-join p slots order a i b n m = λ j l k. elim (cases_lt j i) [ inl c ↦ n j l c | inr c ↦ m j c k ]

tests_and : (a b c : Bool) → b ≡ false → (a && (b && c)) ≡ false
tests_and true false c h = refl
tests_and false false c h = refl
tests_and true true c h = cc
tests_and false true c h = refl

-- what is of no type is not wanted
pub NoneIn-wanted : (bound kind scope : Option (List ℕ)) (slots : List (Option Entry)) (order : List ℕ) (a b : ℕ) → NoneIn (is_kind kind) slots order a b → NoneIn (is_wanted bound kind scope) slots order a b
NoneIn-wanted bound kind scope slots order a b n = λ j l m. elim (slot_at slots (get_or order j 0)) as (λ o. tests (is_kind kind) o ≡ false → tests (is_wanted bound kind scope) o ≡ false) [
  | None ↦ λ h. refl
  | Some e ↦ λ h. tests_and (in_bound bound e) (is_kind kind e) (in_scope scope e) h
] (n j l m)

-- ---- what is gathered from a place on

module _ (p : Entry → Bool) (slots : List (Option Entry)) (order : List ℕ) where
  abbrev hit : ℕ → Option Entry
  hit x = if_kept p (slot_at slots x)

  abbrev pub gather : List ℕ → List Entry
  gather ns = gathered hit ns

  no_hit : (o : Option Entry) → tests p o ≡ false → if_kept p o ≡ None
  no_hit None h = refl
  no_hit (Some e) h = ap (λ b. cond b (Some e) None) h

  pub gather_here : (i : ℕ) (e : Entry) → i < length order → slot_at slots (get_or order i 0) ≡ Some e → p e ≡ true → gather (drop i order) ≡ e ∷ gather (drop (i + 1) order)
  gather_here i e l there passes =
      let here : hit (get_or order i 0) ≡ Some e = ap (if_kept p) there ∙ ap (λ b. cond b (Some e) None) passes in
      ap gather (drop-cons order i 0 l) ∙ ap (λ o. prepend o (gather (drop (suc i) order))) here ∙ ap (λ n. e ∷ gather (drop n order)) (sym (add-one i))

  gather_past : (i : ℕ) → i < length order → tests p (slot_at slots (get_or order i 0)) ≡ false → gather (drop i order) ≡ gather (drop (suc i) order)
  gather_past i l none = ap gather (drop-cons order i 0 l) ∙ ap (λ o. prepend o (gather (drop (suc i) order))) (no_hit (slot_at slots (get_or order i 0)) none)

  gather_skip : (n a : ℕ) → a + n ≤ length order → NoneIn p slots order a (a + n) → gather (drop a order) ≡ gather (drop (a + n) order)
  gather_skip zero a l none = ap (λ m. gather (drop m order)) (omega arith)
  gather_skip (suc n) a l none =
      gather_past a (omega arith) (none a (omega arith) (omega arith))
      ∙ gather_skip n (suc a) (omega arith) (λ j c d. none j (omega arith) (omega arith))
      ∙ ap (λ m. gather (drop m order)) (omega arith)

  pub gather_to : (a b : ℕ) → a ≤ b → b ≤ length order → NoneIn p slots order a b → gather (drop a order) ≡ gather (drop b order)
  gather_to a b l m none = gather_skip (b - a) a (omega arith) (λ j c d. none j c (omega arith)) ∙ ap (λ k. gather (drop k order)) (omega arith)

  pub gather_end : (a : ℕ) → NoneIn p slots order a (length order) → gather (drop a order) ≡ []
  gather_end a none = elim (cases_lt a (length order)) [
    | inl l ↦ gather_to a (length order) (omega arith) (omega arith) none ∙ ap gather (drop_all (length order) order (omega arith))
    | inr g ↦ ap gather (drop_all a order g)
  ]

pub gather_same : (p q : Entry → Bool) (slots : List (Option Entry)) (ns : List ℕ) → ((e : Entry) → p e ≡ q e) → gathered (λ x. if_kept p (slot_at slots x)) ns ≡ gathered (λ x. if_kept q (slot_at slots x)) ns
gather_same p q slots [] s = refl
gather_same p q slots (x ∷ ns) s = ap₂ prepend
    (elim (slot_at slots x) as (λ o. if_kept p o ≡ if_kept q o) [ None ↦ refl | Some e ↦ ap (λ b. cond b (Some e) None) (s e) ])
    (gather_same p q slots ns s)

pub filter_gather : (f p : Entry → Bool) (slots : List (Option Entry)) (ns : List ℕ) → filter f (gathered (λ x. if_kept p (slot_at slots x)) ns) ≡ gathered (λ x. if_kept (λ e. f e && p e) (slot_at slots x)) ns
filter_gather f p slots [] = refl
filter_gather f p slots (x ∷ ns) =
    let more = filter_gather f p slots ns in
    elim (slot_at slots x) as (λ o. filter f (prepend (if_kept p o) (gathered (λ y. if_kept p (slot_at slots y)) ns)) ≡ prepend (if_kept (λ e. f e && p e) o) (gathered (λ y. if_kept (λ e. f e && p e) (slot_at slots y)) ns)) [
      | None ↦ more
      | Some e ↦ elim (p e) as (λ b. filter f (prepend (cond b (Some e) None) (gathered (λ y. if_kept p (slot_at slots y)) ns)) ≡ prepend (cond (f e && b) (Some e) None) (gathered (λ y. if_kept (λ e. f e && p e) (slot_at slots y)) ns)) [
        | true ↦ elim (f e) as (λ b. cond b (e ∷ filter f (gathered (λ y. if_kept p (slot_at slots y)) ns)) (filter f (gathered (λ y. if_kept p (slot_at slots y)) ns)) ≡ prepend (cond (b && true) (Some e) None) (gathered (λ y. if_kept (λ e. f e && p e) (slot_at slots y)) ns)) [
          | true ↦ ap (λ es. e ∷ es) more
          | false ↦ more
        ]
        | false ↦ elim (f e) as (λ b. filter f (gathered (λ y. if_kept p (slot_at slots y)) ns) ≡ prepend (cond (b && false) (Some e) None) (gathered (λ y. if_kept (λ e. f e && p e) (slot_at slots y)) ns)) [ true ↦ more | false ↦ more ]
      ]
    ]

-- ---- the whole of a walk

pub hit_was : (p : Entry → Bool) (o : Option Entry) (e : Entry) → if_kept p o ≡ Some e → (o ≡ Some e) × (p e ≡ true)
hit_was p None e h = absurd (none-some e h)
hit_was p (Some f) e h = let t = cond_some (p f) f e h in (ap Some t.1, ap p (sym t.1) ∙ t.0)

pub whole : (way : By) (slots : List (Option Entry)) (order : List ℕ) → IsOrder way slots order → Apart slots → (p : Entry → Bool) → IsListing p (entries_of_list (somes slots)) (gathered (λ x. if_kept p (slot_at slots x)) order)
whole way slots order o a p =
    listing_gathered (λ x. if_kept p (slot_at slots x)) (entries_of_list (somes slots)) p
    (λ x e h. let w = hit_was p (slot_at slots x) e h in (held_get slots a (pair_of e) e (x, w.0, refl), w.1))
    (λ x y e f hx hy q. a x y e f (hit_was p (slot_at slots x) e hx).0 (hit_was p (slot_at slots y) f hy).0 q)
    order
    (λ y. elim (slot_at slots y) as (λ s. count y order ≡ cond (is_some s) 1 0 → count y order ≤ 1) [ None ↦ λ h. omega arith | Some e ↦ λ h. omega arith ] (o.each y))
    (λ q e g k. let w = get_held slots a q e g in (w.0, (let c = in_order way slots order o w.0 e w.1 in omega arith), ap (if_kept p) w.1 ∙ ap (λ b. cond b (Some e) None) k))
    (λ q e g. (get_held slots a q e g).2)

-- two ways to say what is still to come
pub match_same : (r : Option (Bor Entry × ℕ)) (f g : ℕ → List Entry) (from : ℕ) → ((n : ℕ) → f n ≡ g n) → MatchOption r (f from ≡ []) (λ p. f from ≡ p.0.now ∷ f p.1) → MatchOption r (g from ≡ []) (λ p. g from ≡ p.0.now ∷ g p.1)
match_same None f g from s h = sym (s from) ∙ h
match_same (Some p) f g from s h = sym (s from) ∙ h ∙ ap (λ es. p.0.now ∷ es) (s p.1)

pub there_same : (r : Option (Bor Entry × ℕ)) (f g : ℕ → List Entry) → ((n : ℕ) → f n ≡ g n) → IfSome r (λ p. f (p.1 - 1) ≡ p.0.now ∷ f p.1) → IfSome r (λ p. g (p.1 - 1) ≡ p.0.now ∷ g p.1)
there_same None f g s h = tt
there_same (Some p) f g s h = sym (s (p.1 - 1)) ∙ h ∙ ap (λ es. p.0.now ∷ es) (s p.1)

and_true : (b : Bool) → (b && true) ≡ b
and_true true = refl
and_true false = refl

pub of_kind : (kind : Option (List ℕ)) (slots : List (Option Entry)) (ns : List ℕ) → gathered (λ x. if_kept (is_wanted None kind None) (slot_at slots x)) ns ≡ gathered (λ x. if_kept (is_kind kind) (slot_at slots x)) ns
of_kind kind slots ns = gather_same (is_wanted None kind None) (is_kind kind) slots ns (λ e. and_true (is_kind kind e))

pub of_kind_within : (bound : List ℕ) (kind : Option (List ℕ)) (slots : List (Option Entry)) (ns : List ℕ) → gathered (λ x. if_kept (is_wanted (Some bound) kind None) (slot_at slots x)) ns ≡ filter (is_within bound) (gathered (λ x. if_kept (is_kind kind) (slot_at slots x)) ns)
of_kind_within bound kind slots ns =
    gather_same (is_wanted (Some bound) kind None) (λ e. is_within bound e && is_kind kind e) slots ns (λ e. ap (λ b. is_within bound e && b) (and_true (is_kind kind e)))
    ∙ sym (filter_gather (is_within bound) (is_kind kind) slots ns)
