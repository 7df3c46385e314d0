-- Slots of entries, no two of one pair, as maps.
use Rattle.std.proofs.Common.{◌≡◌, ◌≢◌, ℕ, zero, suc, ◌+◌, ◌<◌, ◌≤◌, Bool, true, false, cond, List, [], ◌∷◌, length, set, Option, Some, None, refl, sym, ap, subst, ◌∙◌, arith, inl, inr, ◌⊎◌, eqb}
use Rattle.std.specs.Prelude.{find, not}
use Rattle.std.proofs.lemmas.Option.{cond_some, none-some}
use Rattle.std.proofs.lemmas.List.{get_or_past, get_or-set_same, get_or-set_other, length-set}
use Rattle.std.proofs.lemmas.Bool.{cases_eq, cases_lt, eq-eqb, ne_eqb}
use Rattle.std.specs.FinMap as fin
use Rattle.registry_core.specs.declared.entry.Entry.{Entry}
use Rattle.registry_core.specs.Entries.{Pair, Entries, pair_eq, pair_of, is_of, entries_of_list, if_kept, IsDistinct, IsListing}
use Rattle.registry_slots.specs.Slots.{Apart, slot_at, somes, gathered, prepend, tests}
use Rattle.registry_core.proofs.Lists.{pair_total, pair_exact, cmp-pair_eq, pair_eq-true, pair_eq-same, pair_eq-differ, get-entries_of_list}
use Rattle.slot_chains.specs.Links.{count}

pub same_option : {A : Type 0} (a b : Option A) → ((e : A) → a ≡ Some e → b ≡ Some e) → ((e : A) → b ≡ Some e → a ≡ Some e) → a ≡ b
same_option None None f g = refl
same_option None (Some y) f g = absurd (none-some _ (g y refl))
same_option (Some x) b f g = sym (f x refl)

pub one_some : {A : Type 0} {x y : A} → ◌≡◌ {A = Option A} (Some x) (Some y) → x ≡ y
one_some h = cc

pub slot_lt : (slots : List (Option Entry)) (x : ℕ) (e : Entry) → slot_at slots x ≡ Some e → x < length slots
slot_lt slots x e h = elim (cases_lt x (length slots)) [
  | inl l ↦ l
  | inr g ↦ absurd (none-some e (sym (get_or_past slots x None g) ∙ h))
]

abbrev pub Held : List (Option Entry) → Pair → Entry → Type 0
Held slots q e = (x : ℕ) × (slot_at slots x ≡ Some e) × (pair_of e ≡ q)

pub find_slot : (slots : List (Option Entry)) (q : Pair) (e : Entry) → find (is_of q) (somes slots) ≡ Some e → Held slots q e
find_slot [] q e = λ h. absurd (none-some e h)
find_slot (None ∷ slots) q e = λ h. let t = find_slot slots q e h in (suc t.0, t.1, t.2)
find_slot (Some f ∷ slots) q e =
    elim (is_of q f) as (λ b. is_of q f ≡ b → cond b (Some f) (find (is_of q) (somes slots)) ≡ Some e → Held (Some f ∷ slots) q e) [
      | true ↦ λ t h. (zero, h, ap pair_of (sym (one_some h)) ∙ sym (pair_eq-true q (pair_of f) t))
      | false ↦ λ t h. let r = find_slot slots q e h in (suc r.0, r.1, r.2)
    ] refl

suc_same : (x y : ℕ) → suc x ≡ suc y → x ≡ y
suc_same x y h = omega arith

apart_tail : (o : Option Entry) (slots : List (Option Entry)) → Apart (o ∷ slots) → Apart slots
apart_tail o slots a = λ x y e f hx hy p. suc_same x y (a (suc x) (suc y) e f hx hy p)

pub slot_found : (slots : List (Option Entry)) (x : ℕ) (e : Entry) → Apart slots → slot_at slots x ≡ Some e → find (is_of (pair_of e)) (somes slots) ≡ Some e
slot_found [] x e a h = absurd (none-some e h)
slot_found (None ∷ slots) zero e a h = absurd (none-some e h)
slot_found (None ∷ slots) (suc x) e a h = slot_found slots x e (apart_tail None slots a) h
slot_found (Some f ∷ slots) zero e a h =
    let same : f ≡ e = one_some h in
    ap (λ b. cond b (Some f) (find (is_of (pair_of e)) (somes slots))) (ap (λ g. is_of (pair_of e) g) same ∙ pair_eq-same (pair_of e)) ∙ h
slot_found (Some f ∷ slots) (suc x) e a h =
    elim (is_of (pair_of e) f) as (λ b. is_of (pair_of e) f ≡ b → cond b (Some f) (find (is_of (pair_of e)) (somes slots)) ≡ Some e) [
      | true ↦ λ t. let clash : suc x ≡ zero = a (suc x) zero e f h refl (pair_eq-true (pair_of e) (pair_of f) t) in absurd (omega arith)
      | false ↦ λ t. slot_found slots x e (apart_tail (Some f) slots a) h
    ] refl

module _ (slots : List (Option Entry)) (a : Apart slots) where
  pub get_held : (q : Pair) (e : Entry) → fin.get (entries_of_list (somes slots)) q ≡ Some e → Held slots q e
  get_held q e h = find_slot slots q e (sym (get-entries_of_list (somes slots) q) ∙ h)

  pub held_get : (q : Pair) (e : Entry) → Held slots q e → fin.get (entries_of_list (somes slots)) q ≡ Some e
  held_get q e h = ap (fin.get (entries_of_list (somes slots))) (sym h.2) ∙ get-entries_of_list (somes slots) (pair_of e) ∙ slot_found slots h.0 e a h.1

pub distinct_somes : (slots : List (Option Entry)) → Apart slots → IsDistinct (somes slots)
distinct_somes [] a = tt
distinct_somes (None ∷ slots) a = distinct_somes slots (apart_tail None slots a)
distinct_somes (Some e ∷ slots) a = (
  elim (find (is_of (pair_of e)) (somes slots)) as (λ o. find (is_of (pair_of e)) (somes slots) ≡ o → o ≡ None) [
    | None ↦ λ h. refl
    | Some f ↦ λ h. let t = find_slot slots (pair_of e) f h in
        let clash : suc t.0 ≡ zero = a (suc t.0) zero f e t.1 refl t.2 in absurd (omega arith)
  ] refl,
  distinct_somes slots (apart_tail (Some e) slots a),
)

-- ---- how many

pub len_fill : (slots : List (Option Entry)) (x : ℕ) (e : Entry) → x < length slots → slot_at slots x ≡ None → length (somes (set slots x (Some e))) ≡ length (somes slots) + 1
len_fill [] x e l h = absurd (omega arith)
len_fill (None ∷ slots) zero e l h = omega arith
len_fill (Some f ∷ slots) zero e l h = absurd (none-some f (sym h))
len_fill (None ∷ slots) (suc x) e l h = len_fill slots x e (omega arith) h
len_fill (Some f ∷ slots) (suc x) e l h = let t = len_fill slots x e (omega arith) h in omega arith

pub len_clear : (slots : List (Option Entry)) (x : ℕ) (e : Entry) → slot_at slots x ≡ Some e → length (somes (set slots x None)) + 1 ≡ length (somes slots)
len_clear [] x e h = absurd (none-some e h)
len_clear (None ∷ slots) zero e h = absurd (none-some e h)
len_clear (Some f ∷ slots) zero e h = omega arith
len_clear (None ∷ slots) (suc x) e h = len_clear slots x e h
len_clear (Some f ∷ slots) (suc x) e h = let t = len_clear slots x e h in omega arith

pub len_most : (slots : List (Option Entry)) → length (somes slots) ≤ length slots
len_most [] = omega arith
len_most (None ∷ slots) = omega (arith, len_most slots)
len_most (Some f ∷ slots) = omega (arith, len_most slots)

pub len_free : (slots : List (Option Entry)) (x : ℕ) → x < length slots → slot_at slots x ≡ None → length (somes slots) < length slots
len_free [] x l h = absurd (omega arith)
len_free (None ∷ slots) zero l h = omega (arith, len_most slots)
len_free (Some f ∷ slots) zero l h = absurd (none-some f (sym h))
len_free (None ∷ slots) (suc x) l h = omega (arith, len_most slots)
len_free (Some f ∷ slots) (suc x) l h = let t = len_free slots x (omega arith) h in omega arith

pub len_full : (slots : List (Option Entry)) → ((x : ℕ) → x < length slots → slot_at slots x ≢ None) → length (somes slots) ≡ length slots
len_full [] h = refl
len_full (None ∷ slots) h = absurd (h zero (omega arith) refl)
len_full (Some f ∷ slots) h = let t = len_full slots (λ x l. h (suc x) (omega arith)) in omega arith

-- ---- one slot filled

module _ (slots : List (Option Entry)) (a : Apart slots) (x : ℕ) (e : Entry) (l : x < length slots) where
  filled_at : slot_at (set slots x (Some e)) x ≡ Some e
  filled_at = get_or-set_same slots x (Some e) None l

  filled_other : (y : ℕ) → y ≢ x → slot_at (set slots x (Some e)) y ≡ slot_at slots y
  filled_other y d = get_or-set_other slots x y (Some e) None d

  module _ (only : (y : ℕ) (f : Entry) → slot_at slots y ≡ Some f → pair_of f ≡ pair_of e → y ≡ x) where
    was_e : (y : ℕ) (f : Entry) → y ≡ x → slot_at (set slots x (Some e)) y ≡ Some f → f ≡ e
    was_e y f i h = one_some (sym h ∙ (ap (slot_at (set slots x (Some e))) i ∙ filled_at))

    pub Apart-fill : Apart (set slots x (Some e))
    Apart-fill = λ y z f g hy hz p. elim (cases_eq y x) [
      | inl i ↦ elim (cases_eq z x) [
        | inl j ↦ i ∙ sym j
        | inr d ↦ i ∙ sym (only z g (sym (filled_other z d) ∙ hz) (sym p ∙ ap pair_of (was_e y f i hy)))
      ]
      | inr c ↦ elim (cases_eq z x) [
        | inl j ↦ only y f (sym (filled_other y c) ∙ hy) (p ∙ ap pair_of (was_e z g j hz)) ∙ sym j
        | inr d ↦ a y z f g (sym (filled_other y c) ∙ hy) (sym (filled_other z d) ∙ hz) p
      ]
    ]

    pub insert_fill : ((o : Entry) → slot_at slots x ≡ Some o → pair_of o ≡ pair_of e) → entries_of_list (somes (set slots x (Some e))) ≡ fin.insert (entries_of_list (somes slots)) (pair_of e) e
    insert_fill here = fin.same_map pair_total pair_exact _ _ (λ q.
        let news = Apart-fill in
        let to : fin.get (fin.insert (entries_of_list (somes slots)) (pair_of e) e) q ≡ cond (pair_eq q (pair_of e)) (Some e) (fin.get (entries_of_list (somes slots)) q) =
        fin.get-insert pair_total (entries_of_list (somes slots)) (pair_of e) e q ∙ ap (λ b. cond b (Some e) (fin.get (entries_of_list (somes slots)) q)) (cmp-pair_eq q (pair_of e)) in
        elim (pair_eq q (pair_of e)) as (λ b. pair_eq q (pair_of e) ≡ b → fin.get (entries_of_list (somes (set slots x (Some e)))) q ≡ cond b (Some e) (fin.get (entries_of_list (somes slots)) q)) [
          | true ↦ λ t. held_get (set slots x (Some e)) news q e (x, filled_at, sym (pair_eq-true q (pair_of e) t))
          | false ↦ λ t. same_option _ _
              (λ f h. let k = get_held (set slots x (Some e)) news q f h in
              elim (cases_eq k.0 x) [
                | inl i ↦ absurd (pair_eq-differ q (pair_of e) t (sym k.2 ∙ ap pair_of (was_e k.0 f i k.1)))
                | inr d ↦ held_get slots a q f (k.0, sym (filled_other k.0 d) ∙ k.1, k.2)
              ])
              (λ f h. let k = get_held slots a q f h in
              elim (cases_eq k.0 x) [
                | inl i ↦ absurd (pair_eq-differ q (pair_of e) t (sym k.2 ∙ here f (sym (ap (slot_at slots) i) ∙ k.1)))
                | inr d ↦ held_get (set slots x (Some e)) news q f (k.0, filled_other k.0 d ∙ k.1, k.2)
              ])
        ] refl ∙ sym to)

-- ---- some slots emptied

module _ (old new : List (Option Entry)) (p : Entry → Bool) (each : (x : ℕ) → slot_at new x ≡ if_kept p (slot_at old x)) where
  kept_was : (x : ℕ) (e : Entry) → slot_at new x ≡ Some e → (slot_at old x ≡ Some e) × (p e ≡ true)
  kept_was x e h = elim (slot_at old x) as (λ o. if_kept p o ≡ Some e → (o ≡ Some e) × (p e ≡ true)) [
    | None ↦ λ k. absurd (none-some e k)
    | Some f ↦ λ k. let t = cond_some (p f) f e k in (ap Some t.1, ap p (sym t.1) ∙ t.0)
  ] (sym (each x) ∙ h)

  pub Apart-if_kept : Apart old → Apart new
  Apart-if_kept a = λ x y e f hx hy. a x y e f (kept_was x e hx).0 (kept_was y f hy).0

  pub get_kept : Apart old → (q : Pair) → fin.get (entries_of_list (somes new)) q ≡ if_kept p (fin.get (entries_of_list (somes old)) q)
  get_kept a q = same_option _ _
      (λ e h. let k = get_held new (Apart-if_kept a) q e h in let w = kept_was k.0 e k.1 in
      ap (if_kept p) (held_get old a q e (k.0, w.0, k.2)) ∙ ap (λ b. cond b (Some e) None) w.1)
      (λ e h. elim (fin.get (entries_of_list (somes old)) q) as (λ o. fin.get (entries_of_list (somes old)) q ≡ o → if_kept p o ≡ Some e → fin.get (entries_of_list (somes new)) q ≡ Some e) [
        | None ↦ λ g k. absurd (none-some e k)
        | Some f ↦ λ g k.
            let t = cond_some (p f) f e k in
            let w = get_held old a q f g in
            held_get new (Apart-if_kept a) q e (w.0, each w.0 ∙ ap (if_kept p) w.1 ∙ k, ap pair_of (sym t.1) ∙ w.2)
      ] refl h)

-- ---- what is gathered at some nodes

module _ (hit : ℕ → Option Entry) where
  pub find_gathered : (ns : List ℕ) (q : Pair) (e : Entry) → find (is_of q) (gathered hit ns) ≡ Some e → (a : ℕ) × (0 < count a ns) × (hit a ≡ Some e) × (pair_of e ≡ q)
  find_gathered [] q e = λ h. absurd (none-some e h)
  find_gathered (a ∷ ns) q e =
      elim (hit a) as (λ o. hit a ≡ o → find (is_of q) (prepend o (gathered hit ns)) ≡ Some e → (b : ℕ) × (0 < count b (a ∷ ns)) × (hit b ≡ Some e) × (pair_of e ≡ q)) [
        | None ↦ λ g h. let t = find_gathered ns q e h in (t.0, omega (arith, t.1), t.2, t.3)
        | Some f ↦ λ g. elim (is_of q f) as (λ b. is_of q f ≡ b → cond b (Some f) (find (is_of q) (gathered hit ns)) ≡ Some e → (b : ℕ) × (0 < count b (a ∷ ns)) × (hit b ≡ Some e) × (pair_of e ≡ q)) [
          | true ↦ λ t h. (a, (let r : eqb a a ≡ true = eq-eqb a a refl in rw r (omega arith)), g ∙ h, ap pair_of (sym (one_some h)) ∙ sym (pair_eq-true q (pair_of f) t))
          | false ↦ λ t h. let r = find_gathered ns q e h in (r.0, omega (arith, r.1), r.2, r.3)
        ] refl
      ] refl

  -- an entry at one of the nodes is found, or another of its pair
  pub gathered_some : (ns : List ℕ) (a : ℕ) (e : Entry) → 0 < count a ns → hit a ≡ Some e → find (is_of (pair_of e)) (gathered hit ns) ≢ None
  gathered_some [] a e = λ c h. absurd (omega arith)
  gathered_some (b ∷ ns) a e =
      elim (cases_eq b a) [
        | inl i ↦ λ c h. subst (λ o. find (is_of (pair_of e)) (prepend o (gathered hit ns)) ≢ None) (sym (ap hit i ∙ h))
            (subst (λ t. cond t (Some e) (find (is_of (pair_of e)) (gathered hit ns)) ≢ None) (sym (pair_eq-same (pair_of e))) (λ n. none-some e (sym n)))
        | inr d ↦ λ c h.
            let f : eqb b a ≡ false = ne_eqb b a d in
            let more : find (is_of (pair_of e)) (gathered hit ns) ≢ None = gathered_some ns a e (subst (λ t. 0 < cond t 1 0 + count a ns → 0 < count a ns) (sym f) (λ z. omega arith) c) h in
            elim (hit b) as (λ o. find (is_of (pair_of e)) (prepend o (gathered hit ns)) ≢ None) [
              | None ↦ more
              | Some g ↦ elim (is_of (pair_of e) g) as (λ t. cond t (Some g) (find (is_of (pair_of e)) (gathered hit ns)) ≢ None) [
                | true ↦ λ n. none-some g (sym n)
                | false ↦ more
              ]
            ]
      ]

  module _ (m : Entries) (p : Entry → Bool)
      (sound : (a : ℕ) (e : Entry) → hit a ≡ Some e → (fin.get m (pair_of e) ≡ Some e) × (p e ≡ true))
      (alone : (a b : ℕ) (e f : Entry) → hit a ≡ Some e → hit b ≡ Some f → pair_of e ≡ pair_of f → a ≡ b) where
    distinct_gathered : (ns : List ℕ) → ((a : ℕ) → count a ns ≤ 1) → IsDistinct (gathered hit ns)
    distinct_gathered [] once = tt
    distinct_gathered (a ∷ ns) once =
        let rest_of : IsDistinct (gathered hit ns) = distinct_gathered ns (λ b. omega (arith, once b)) in
        elim (hit a) as (λ o. hit a ≡ o → IsDistinct (prepend o (gathered hit ns))) [
          | None ↦ λ h. rest_of
          | Some e ↦ λ h. (
            elim (find (is_of (pair_of e)) (gathered hit ns)) as (λ o. find (is_of (pair_of e)) (gathered hit ns) ≡ o → o ≡ None) [
              | None ↦ λ g. refl
              | Some f ↦ λ g.
                  let t = find_gathered ns (pair_of e) f g in
                  let same : t.0 ≡ a = alone t.0 a f e t.2 h t.3 in
                  let two : count a (a ∷ ns) ≡ 1 + count a ns = ap (λ b. cond b 1 0 + count a ns) (eq-eqb a a refl) in
                  let one : 0 < count a ns = subst (λ b. 0 < count b ns) same t.1 in
                  absurd (omega (arith, once a))
            ] refl,
            rest_of,
          )
        ] refl

    pub listing_gathered : (ns : List ℕ) → ((a : ℕ) → count a ns ≤ 1) → ((q : Pair) (e : Entry) → fin.get m q ≡ Some e → p e ≡ true → (a : ℕ) × (0 < count a ns) × (hit a ≡ Some e)) → ((q : Pair) (e : Entry) → fin.get m q ≡ Some e → pair_of e ≡ q) → IsListing p m (gathered hit ns)
    listing_gathered ns once full keyed = record {
      each = λ q. same_option _ _
          (λ e h. let t = find_gathered ns q e h in let s = sound t.0 e t.2 in
          ap (if_kept p) (ap (fin.get m) (sym t.3) ∙ s.0) ∙ ap (λ b. cond b (Some e) None) s.1)
          (λ e h. elim (fin.get m q) as (λ o. fin.get m q ≡ o → if_kept p o ≡ Some e → find (is_of q) (gathered hit ns) ≡ Some e) [
            | None ↦ λ g k. absurd (none-some e k)
            | Some f ↦ λ g k.
                let c = cond_some (p f) f e k in
                let t = full q f g c.0 in
                let pq : pair_of f ≡ q = keyed q f g in
                let some = gathered_some ns t.0 f t.1 t.2 in
                elim (find (is_of q) (gathered hit ns)) as (λ o. find (is_of q) (gathered hit ns) ≡ o → o ≡ Some e) [
                  | None ↦ λ n. absurd (some (ap (λ r. find (is_of r) (gathered hit ns)) pq ∙ n))
                  | Some x ↦ λ n. let u = find_gathered ns q x n in let s = sound u.0 x u.2 in
                      sym (ap (fin.get m) (sym u.3) ∙ s.0) ∙ g ∙ ap Some c.1
                ] refl
          ] refl h);
      once = distinct_gathered ns once;
    }

-- ---- entries dropped along a walk

pub tests_some : (t : Entry → Bool) (o : Option Entry) → tests t o ≡ true → (e : Entry) × (o ≡ Some e) × (t e ≡ true)
tests_some t None = λ h. cc
tests_some t (Some e) = λ h. (e, refl, h)

-- what a walk drops is what passes the test
abbrev pub Drops : (Entry → Bool) → List (Option Entry) → List (Option Entry) → Type 0
Drops t old new = (x : ℕ) → (slot_at new x ≡ slot_at old x) ⊎ ((slot_at new x ≡ None) × (tests t (slot_at old x) ≡ true))

pub drops_kept : (t p : Entry → Bool) (old new : List (Option Entry)) → ((e : Entry) → p e ≡ not (t e)) → Drops t old new → ((x : ℕ) (e : Entry) → slot_at new x ≡ Some e → t e ≡ false) → (x : ℕ) → slot_at new x ≡ if_kept p (slot_at old x)
drops_kept t p old new neg d all x = elim (d x) [
  | inl same ↦ elim (slot_at old x) as (λ o. slot_at new x ≡ o → slot_at new x ≡ if_kept p o) [
    | None ↦ λ h. h
    | Some e ↦ λ h. h ∙ sym (ap (λ b. cond b (Some e) None) (neg e ∙ ap not (all x e h)))
  ] same
  | inr gone ↦ let s = tests_some t (slot_at old x) gone.1 in
      gone.0 ∙ sym (ap (if_kept p) s.1 ∙ ap (λ b. cond b (Some s.0) None) (neg s.0 ∙ ap not s.2))
]

-- one more is dropped
pub Drops-more : (t : Entry → Bool) (old mid : List (Option Entry)) (x : ℕ) (e : Entry) → Drops t old mid → slot_at mid x ≡ Some e → t e ≡ true → Drops t old (set mid x None)
Drops-more t old mid x e d there passes = λ y. elim (cases_eq y x) [
  | inl i ↦ inr (
    ap (slot_at (set mid x None)) i ∙ get_or-set_same mid x None None (slot_lt mid x e there),
    elim (d x) [
      | inl same ↦ ap (λ z. tests t (slot_at old z)) i ∙ ap (tests t) (sym same ∙ there) ∙ passes
      | inr gone ↦ absurd (none-some e (sym gone.0 ∙ there))
    ],
  )
  | inr c ↦ elim (d y) [
    | inl same ↦ inl (get_or-set_other mid x y None None c ∙ same)
    | inr gone ↦ inr (get_or-set_other mid x y None None c ∙ gone.0, gone.1)
  ]
]

-- those that a walk has still to meet
abbrev pub Meets : (Entry → Type 0) → List (Option Entry) → List ℕ → Type 0
Meets P slots ns = (x : ℕ) (e : Entry) → slot_at slots x ≡ Some e → P e → 0 < count x ns

fewer : (x y : ℕ) (ns : List ℕ) → y ≢ x → 0 < count y (x ∷ ns) → 0 < count y ns
fewer x y ns d c = subst (λ b. 0 < cond b 1 0 + count y ns → 0 < count y ns) (sym (ne_eqb x y (λ i. d (sym i)))) (λ z. omega arith) c

-- past one that stays
pub Meets-past : (P : Entry → Type 0) (slots : List (Option Entry)) (x : ℕ) (ns : List ℕ) → ((e : Entry) → slot_at slots x ≡ Some e → P e → ⊥) → Meets P slots (x ∷ ns) → Meets P slots ns
Meets-past P slots x ns stays m = λ y e h passes. elim (cases_eq y x) [
  | inl i ↦ absurd (stays e (ap (slot_at slots) (sym i) ∙ h) passes)
  | inr d ↦ fewer x y ns d (m y e h passes)
]

-- what is in a slot after another was emptied
pub cleared : (slots : List (Option Entry)) (x y : ℕ) (e : Entry) → slot_at (set slots x None) y ≡ Some e → (slot_at slots y ≡ Some e) × (y ≢ x)
cleared slots x y e h = elim (cases_eq y x) [
  | inl i ↦ elim (cases_lt x (length slots)) [
    | inl l ↦ absurd (none-some e (sym (ap (slot_at (set slots x None)) i ∙ get_or-set_same slots x None None l) ∙ h))
    | inr g ↦ absurd (let w = slot_lt (set slots x None) y e h in omega (arith, length-set slots x None))
  ]
  | inr d ↦ (sym (get_or-set_other slots x y None None d) ∙ h, d)
]
