-- The map of what the slots of a table have.
use Rattle.std.proofs.Common.{◌≡◌, ◌≢◌, ℕ, zero, suc, ◌+◌, ◌<◌, Bool, true, false, cond, ◌&&◌, List, [], ◌∷◌, length, filter, get_or, set, Option, Some, None, refl, sym, ap, ◌∙◌, arith, inl, inr, ◌⊎◌}
use Rattle.std.specs.Prelude.{not}
use Rattle.std.proofs.lemmas.Option.{none-some}
use Rattle.std.proofs.lemmas.List.Sums.{prefix_len_passes}
use Rattle.std.proofs.lemmas.List.{get_or_past, get_or-set_same, get_or-set_other, length-set}
use Rattle.std.proofs.lemmas.List.Edits.{get_or-remove_below}
use Rattle.std.proofs.lemmas.Bool.{cases_eq, cases_lt}
use Rattle.std.specs.List.{remove}
use Rattle.std.specs.Ordering.{is_lt, is_le, ordering_then}
use Rattle.std.specs.declared.cmp.Ordering.TheVariants.{Less}
use Rattle.std.specs.FinMap as fin
use Rattle.slp_text.specs.Words.{bytes_eq, bytes_cmp, texts_eq}
use Rattle.slp_text.proofs.KeySets.{bytes_same}
use Rattle.registry_core.specs.declared.entry.Entry.{Entry}
use Rattle.registry_slots.specs.declared.orders.By.{By}
use Rattle.registry_slots.specs.declared.orders.By.TheVariants as by
use Rattle.registry_core.specs.Entries.{Pair, pair_of, if_kept, is_of_url, is_within, is_registered, outlives, entries_of_list, passing_entries}
use Rattle.registry_slots.specs.Slots.{Apart, slot_at, somes, tests, is_due, gathered, prepend}
use Rattle.registry_slots.specs.Orders.{rank_cmp, rank_of, rank_in, rank_at, comes_before, place_in, IsOrder}
use Rattle.table_registry.specs.Tables.{NoneIn}
use Rattle.registry_core.proofs.Lists.{pair_total, pair_exact, get-entries_of_list, len-entries_of_list, len-passing_entries-entries_of_list}
use Rattle.registry_slots.proofs.SlotLists.{one_some, slot_lt, get_held, held_get, insert_fill, distinct_somes, tests_some}
use Rattle.registry_slots.proofs.Due.{outlives_not}
use Rattle.registry_slots.proofs.Ranks.{holds, Holds, count_here, stands_at, rising_at, same_bytes_cmp, none_less}
use Rattle.table_registry.proofs.Along.{whole, url_order, within_down}

-- ---- an entry more, or in place of another

pub replaced : (slots : List (Option Entry)) (a : Apart slots) (x : ℕ) (o e : Entry) → slot_at slots x ≡ Some o → pair_of o ≡ pair_of e → entries_of_list (somes (set slots x (Some e))) ≡ fin.insert (entries_of_list (somes slots)) (pair_of e) e
replaced slots a x o e there same = insert_fill slots a x e (slot_lt slots x o there) (λ y f h p. a y x f o h there (p ∙ sym same)) (λ f h. ap pair_of (one_some (sym h ∙ there)) ∙ same)

pub added : (slots : List (Option Entry)) → Apart slots → (x : ℕ) (e : Entry) → x < length slots → slot_at slots x ≡ None → ((y : ℕ) (f : Entry) → slot_at slots y ≡ Some f → pair_of f ≢ pair_of e) → entries_of_list (somes (set slots x (Some e))) ≡ fin.insert (entries_of_list (somes slots)) (pair_of e) e
added slots a x e l free fresh = insert_fill slots a x e l (λ y f h p. absurd (fresh y f h p)) (λ f h. absurd (none-some f (sym free ∙ h)))

-- ---- what is held of a pair

pub get_at : (slots : List (Option Entry)) → Apart slots → (q : Pair) (x : ℕ) (e : Entry) → slot_at slots x ≡ Some e → pair_of e ≡ q → fin.get (entries_of_list (somes slots)) q ≡ Some e
get_at slots a q x e h p = held_get slots a q e (x, h, p)

pub get_nowhere : (slots : List (Option Entry)) → Apart slots → (q : Pair) → ((x : ℕ) (e : Entry) → slot_at slots x ≡ Some e → pair_of e ≢ q) → fin.get (entries_of_list (somes slots)) q ≡ None
get_nowhere slots a q h = elim (fin.get (entries_of_list (somes slots)) q) as (λ o. fin.get (entries_of_list (somes slots)) q ≡ o → o ≡ None) [
  | None ↦ λ k. refl
  | Some e ↦ λ k. let t = get_held slots a q e k in absurd (h t.0 e t.1 t.2)
] refl

-- ---- how many

all_kept : (o : Option Entry) → if_kept (λ _. true) o ≡ o
all_kept None = refl
all_kept (Some e) = refl

gathered_all : (way : By) (slots : List (Option Entry)) (order : List ℕ) → Holds way slots order → length (gathered (λ x. if_kept (λ _. true) (slot_at slots x)) order) ≡ length order
gathered_all way slots [] h = refl
gathered_all way slots (x ∷ xs) h =
    let e = h x (count_here x xs) in
    ap (λ o. length (prepend (if_kept (λ _. true) o) (gathered (λ y. if_kept (λ _. true) (slot_at slots y)) xs))) e.1
    ∙ ap suc (gathered_all way slots xs (λ y c. h y (omega arith)))

pub many : (way : By) (slots : List (Option Entry)) (order : List ℕ) → IsOrder way slots order → Apart slots → fin.len (entries_of_list (somes slots)) ≡ length order
many way slots order o a =
    let w = whole way slots order o a (λ _. true) in
    let es : List Entry = gathered (λ x. if_kept (λ _. true) (slot_at slots x)) order in
    let same : entries_of_list es ≡ entries_of_list (somes slots) = fin.same_map pair_total pair_exact _ _ (λ q. get-entries_of_list es q ∙ w.each q ∙ all_kept _) in
    ap fin.len (sym same) ∙ len-entries_of_list es w.once ∙ gathered_all way slots order (holds way slots order o)

pub living : (p : Entry → Bool) (slots : List (Option Entry)) → Apart slots → length (filter p (somes slots)) ≡ fin.len (passing_entries p (entries_of_list (somes slots)))
living p slots a = sym (len-passing_entries-entries_of_list p (somes slots) (distinct_somes slots a))

all_live : (p : Entry → Bool) (slots : List (Option Entry)) → ((x : ℕ) (e : Entry) → slot_at slots x ≡ Some e → p e ≡ true) → filter p (somes slots) ≡ somes slots
all_live p [] h = refl
all_live p (None ∷ slots) h = all_live p slots (λ x e k. h (suc x) e k)
all_live p (Some e ∷ slots) h = ap (λ b. cond b (e ∷ filter p (somes slots)) (filter p (somes slots))) (h zero e refl) ∙ ap (λ es. e ∷ es) (all_live p slots (λ x f k. h (suc x) f k))

pub none_dead : (now : ℕ) (slots : List (Option Entry)) → ((x : ℕ) (e : Entry) → slot_at slots x ≡ Some e → is_due now e ≡ false) → length (filter (outlives now) (somes slots)) ≡ length (somes slots)
none_dead now slots h = ap length (all_live (outlives now) slots (λ x e k. outlives_not now e ∙ ap not (h x e k)))

pub len_somes : (slots : List (Option Entry)) → Apart slots → fin.len (entries_of_list (somes slots)) ≡ length (somes slots)
len_somes slots a = len-entries_of_list (somes slots) (distinct_somes slots a)

-- ---- by URL

-- what comes before all of a URL has another one
pub start_url : (url : List ℕ) (slots : List (Option Entry)) (order : List ℕ) → NoneIn (is_of_url url) slots order 0 (place_in by.Place slots order ([], (url, [])))
start_url url slots order = λ j _ l.
    let before : comes_before by.Place ([], (url, [])) (slot_at slots (get_or order j 0)) ≡ true = prefix_len_passes (λ x. comes_before by.Place ([], (url, [])) (slot_at slots x)) order j 0 l in
    elim (slot_at slots (get_or order j 0)) as (λ o. comes_before by.Place ([], (url, [])) o ≡ true → tests (is_of_url url) o ≡ false) [
      | None ↦ λ b. refl
      | Some e ↦ λ b. elim (bytes_eq e.url url) as (λ t. bytes_eq e.url url ≡ t → t ≡ false) [
        | true ↦ λ t.
            let same : e.url ≡ url = bytes_same e.url url t in
            let c : rank_cmp (rank_of by.Place e) ([], (url, [])) ≡ bytes_cmp e.language [] = ap (λ o. ordering_then o (bytes_cmp e.language [])) (ap (λ u. bytes_cmp u url) same ∙ same_bytes_cmp url) in
            let z : false ≡ true = sym (none_less e.language) ∙ sym (ap is_lt c) ∙ b in
            cc
        | false ↦ λ t. refl
      ] refl
    ] before

-- what comes after one of a greater URL is not of the URL
pub past_url : (url : List ℕ) (slots : List (Option Entry)) (order : List ℕ) → IsOrder by.Place slots order → (i : ℕ)
    → tests (λ e. not (is_within url e)) (slot_at slots (get_or order i 0)) ≡ true
    → NoneIn (is_of_url url) slots order (i + 1) (length order)
past_url url slots order o i past = λ j l m.
    let less : rank_cmp (rank_at by.Place slots (get_or order i 0)) (rank_at by.Place slots (get_or order j 0)) ≡ Less = rising_at by.Place slots order i j o.rising (omega arith) m in
    elim (slot_at slots (get_or order i 0)) as (λ s. tests (λ e. not (is_within url e)) s ≡ true → rank_cmp (rank_in by.Place s) (rank_at by.Place slots (get_or order j 0)) ≡ Less → tests (is_of_url url) (slot_at slots (get_or order j 0)) ≡ false) [
      | None ↦ λ p r. cc
      | Some e ↦ λ p r. elim (slot_at slots (get_or order j 0)) as (λ s. rank_cmp (rank_of by.Place e) (rank_in by.Place s) ≡ Less → tests (is_of_url url) s ≡ false) [
        | None ↦ λ q. refl
        | Some f ↦ λ q. elim (bytes_eq f.url url) as (λ t. bytes_eq f.url url ≡ t → t ≡ false) [
          | true ↦ λ t.
              let same : f.url ≡ url = bytes_same f.url url t in
              let here : is_le (bytes_cmp f.url url) ≡ true = ap is_le (ap (λ u. bytes_cmp u url) same ∙ same_bytes_cmp url) in
              let z : is_within url e ≡ true = within_down e.url f.url url (url_order e f q) here in
              let y : not true ≡ true = sym (ap not z) ∙ p in
              cc
          | false ↦ λ t. refl
        ] refl
      ] r
    ] past less

pub NoneIn-registered : (url : List ℕ) (scopes : List (List ℕ)) (slots : List (Option Entry)) (order : List ℕ) (a b : ℕ) → NoneIn (is_of_url url) slots order a b → NoneIn (is_registered url scopes) slots order a b
NoneIn-registered url scopes slots order a b n = λ j l m. elim (slot_at slots (get_or order j 0)) as (λ o. tests (is_of_url url) o ≡ false → tests (is_registered url scopes) o ≡ false) [
  | None ↦ λ h. refl
  | Some e ↦ λ h. ap (λ t. t && texts_eq e.scopes scopes) h
] (n j l m)

-- before a slot that was taken out nothing changed
pub NoneIn-removed : (p : Entry → Bool) (slots : List (Option Entry)) (order : List ℕ) (i x : ℕ) → i < length order → NoneIn p slots order 0 i → NoneIn p (set slots x None) (remove order i) 0 i
NoneIn-removed p slots order i x l none = λ j _ m.
    let y : ℕ = get_or order j 0 in
    let same : get_or (remove order i) j 0 ≡ y = get_or-remove_below order i 0 j m l in
    ap (λ n. tests p (slot_at (set slots x None) n)) same ∙ elim (cases_eq y x) [
      | inl e ↦ elim (cases_lt x (length slots)) [
        | inl k ↦ ap (tests p) (ap (slot_at (set slots x None)) e ∙ get_or-set_same slots x None None k)
        | inr g ↦ ap (tests p) (ap (slot_at (set slots x None)) e ∙ get_or_past (set slots x None) x None (omega (arith, length-set slots x None)))
      ]
      | inr d ↦ ap (tests p) (get_or-set_other slots x y None None d) ∙ none j (omega arith) m
    ]

-- what no place of an order has no slot has
pub nowhere : (way : By) (slots : List (Option Entry)) (order : List ℕ) → IsOrder way slots order → (p : Entry → Bool) → NoneIn p slots order 0 (length order) → (x : ℕ) (e : Entry) → slot_at slots x ≡ Some e → p e ≡ false
nowhere way slots order o p n x e h =
    let s = stands_at way slots order o (rank_of way e) x e h refl in
    sym (ap (tests p) h) ∙ sym (ap (λ y. tests p (slot_at slots y)) s.1) ∙ n (place_in way slots order (rank_of way e)) (omega arith) s.0

-- what was dropped one by one and by a pass
pub drops_then : (t p : Entry → Bool) (old mid new : List (Option Entry)) → ((e : Entry) → p e ≡ not (t e)) → ((x : ℕ) → (slot_at mid x ≡ slot_at old x) ⊎ ((slot_at mid x ≡ None) × (tests t (slot_at old x) ≡ true))) → ((x : ℕ) → slot_at new x ≡ if_kept p (slot_at mid x)) → (x : ℕ) → slot_at new x ≡ if_kept p (slot_at old x)
drops_then t p old mid new neg d each x = elim (d x) [
  | inl same ↦ each x ∙ ap (if_kept p) same
  | inr gone ↦ let s = tests_some t (slot_at old x) gone.1 in
      each x ∙ ap (if_kept p) gone.0 ∙ sym (ap (if_kept p) s.1 ∙ ap (λ b. cond b (Some s.0) None) (neg s.0 ∙ ap not s.2))
]
