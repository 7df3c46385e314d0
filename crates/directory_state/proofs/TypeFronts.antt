-- The first types of those of some entries.
use Rattle.std.proofs.Common.{◌≡◌, ℕ, ◌+◌, ◌++◌, true, false, List, [], ◌∷◌, length, map, Option, Some, None, refl, sym, ap, subst, ◌∙◌, arith, inl, inr, ◌⊎◌}
use Rattle.std.specs.Prelude.{Bool, filter, Contains, IfSome}
use Rattle.std.specs.List.{AllByRecursion}
use Rattle.std.specs.Ordering.{is_le}
use Rattle.std.specs.declared.cmp.Ordering.TheVariants.{Less, Equal, Greater}
use Rattle.std.proofs.lemmas.Bool.{ltb-true, ltb-false}
use Rattle.std.proofs.lemmas.Cmp.{nat_list_cmp_total, tied_itself}
use Rattle.std.proofs.lemmas.List.Elements.{Contains-append_left, Contains-append_right, Contains-append_cases}
use Rattle.std.proofs.lemmas.Map.Lookups.{exact_bytes}
use Rattle.slp_text.proofs.KeySets.{member_cases, set_ascending, set_covers, set_within}
use Rattle.slp_text.specs.Sets.{set_of}
use Rattle.slp_text.specs.Words.{bytes_cmp, IsAscending}
use Rattle.registry_core.specs.declared.entry.Entry.{Entry}
use Rattle.registry_core.specs.Entries.{AreByType}
use Rattle.directory_questions.specs.Items.{AreTypes}
use Rattle.directory_state.specs.Searches.{is_over, left_after, AreByKind, HasEachKind, HasFirstKinds, IsIn}
use Rattle.directory_state.specs.TypeRooms.{bytes_of, IsMore}
use Rattle.directory_state.proofs.ArrangedEntries.{none_within}
use Rattle.directory_state.proofs.OpenEntries.{from-filter, mapped-from, mapped-has}
use Rattle.directory_state.proofs.SeenUrls.{here, there}

-- ---- what is said of all of a list

all-later : (p : Entry → Type 0) (xs ys : List Entry) → AllByRecursion p (xs ++ ys) → AllByRecursion p ys
all-later p [] ys a = a
all-later p (x ∷ xs) ys a = all-later p xs ys a.1

all-of : {A : Type 0} (p : A → Type 0) (xs : List A) (x : A) → AllByRecursion p xs → Contains xs x → p x
all-of p [] x a has = absurd (none_within x has)
all-of p (y ∷ ys) x a has = elim (member_cases y x ys has) [
  | inl same ↦ subst p same a.0
  | inr later ↦ all-of p ys x a.1 later
]

-- ---- no text is before itself, or before and behind another one

never_before : (t : List ℕ) → bytes_cmp t t ≡ Less → ⊥
never_before t less = let equal : Equal ≡ Less = sym (tied_itself nat_list_cmp_total t) ∙ less in cc

never_both : (t u : List ℕ) → bytes_cmp t u ≡ Less → bytes_cmp u t ≡ Less → ⊥
never_both t u a b = never_before t (nat_list_cmp_total.trans t u t a b)

-- ---- entries whose types do not fall

pub by_type-later : (xs ys : List Entry) → AreByType (xs ++ ys) → AreByType ys
by_type-later [] ys a = a
by_type-later (x ∷ xs) ys a = by_type-later xs ys a.1

module _ (p : Entry → Bool) (es found : List Entry) (e : Entry) where
  abbrev all : List Entry
  all = found ++ e ∷ []

  -- all come before what comes after the last
  before-later : (t : List ℕ) (xs : List Entry) → bytes_cmp e.kind t ≡ Less → AreByKind (xs ++ e ∷ []) → AllByRecursion (λ f. bytes_cmp f.kind t ≡ Less) (xs ++ e ∷ [])
  before-later t [] l a = (l, tt)
  before-later t (x ∷ xs) l a = (
    nat_list_cmp_total.trans x.kind e.kind t (all-of (λ j. bytes_cmp x.kind j ≡ Less) (map (λ f. f.kind) (xs ++ e ∷ [])) e.kind a.0 (mapped-has (λ f. f.kind) (xs ++ e ∷ []) e (Contains-append_right xs (e ∷ []) e (here e [])))) l,
    before-later t xs l a.1,
  )

  -- what was found in order has the first of the types, where what is still to come has none before the last
  pub first-kinds : (passed rest : List Entry) → HasEachKind es (all ++ filter p rest) → AreByKind all → AreByType (e ∷ passed ++ rest) → HasFirstKinds es all
  first-kinds passed rest each ordered up = record {
    within = λ x has. each.within x (Contains-append_left all (filter p rest) x has);
    kinds = λ x has.
        let k = each.kinds x has in
        elim (Contains-append_cases all (filter p rest) k.0 k.1) [
          | inl a ↦ inl (k.0, a, k.2)
          | inr b ↦
              let le = all-of (λ f. is_le (bytes_cmp e.kind f.kind) ≡ true) rest k.0 (all-later (λ f. is_le (bytes_cmp e.kind f.kind) ≡ true) passed rest up.0) (from-filter p rest k.0 b) in
              elim (bytes_cmp e.kind k.0.kind) as (λ o. bytes_cmp e.kind k.0.kind ≡ o → is_le o ≡ true → ((f : Entry) × Contains all f × (f.kind ≡ x.kind)) ⊎ AllByRecursion (λ f. bytes_cmp f.kind x.kind ≡ Less) all) [
                | Less ↦ λ is _. inr (before-later x.kind found (ap (bytes_cmp e.kind) (sym k.2) ∙ is) ordered)
                | Equal ↦ λ is _. inl (e, Contains-append_right found (e ∷ []) e (here e []), exact_bytes e.kind k.0.kind is ∙ k.2)
                | Greater ↦ λ _ h. absurd cc
              ] refl le
        ];
  }

-- ---- the types of entries, in key order and once each

abbrev pub types_in : List Entry → List (List ℕ)
types_in es = set_of (map (λ e. e.kind) es)

has-type : (es : List Entry) (e : Entry) → Contains es e → Contains (types_in es) e.kind
has-type es e has = set_covers (map (λ (x : Entry). x.kind) es) e.kind (mapped-has (λ (x : Entry). x.kind) es e has)

from-types : (es : List Entry) (t : List ℕ) → Contains (types_in es) t → (e : Entry) × Contains es e × (e.kind ≡ t)
from-types es t has = mapped-from (λ (x : Entry). x.kind) es t (set_within (map (λ (x : Entry). x.kind) es) t has)

pub types-are : (es : List Entry) → AreTypes (IsIn es) (types_in es)
types-are es = record { ordered = set_ascending (map (λ (x : Entry). x.kind) es); each = from-types es; all = has-type es }

-- ---- fronts

-- what ascends begins with what ascends and has its first texts
ascending-front : (some all : List (List ℕ)) → IsAscending some → IsAscending all → ((t : List ℕ) → Contains some t → Contains all t)
    → ((t : List ℕ) → Contains all t → Contains some t ⊎ AllByRecursion (λ s. bytes_cmp s t ≡ Less) some) → (rest : List (List ℕ)) × (all ≡ some ++ rest)
ascending-front [] all up up_all within each = (all, refl)
ascending-front (s ∷ some) [] up up_all within each = absurd (none_within s (within s (here s some)))
ascending-front (s ∷ some) (a ∷ all) up up_all within each =
    let same : a ≡ s = elim (member_cases a s all (within s (here s some))) [
      | inl is ↦ is
      | inr later ↦
          let less : bytes_cmp a s ≡ Less = all-of (λ j. bytes_cmp a j ≡ Less) all s up_all.0 later in
          elim (each a (here a all)) [
            | inl has ↦ elim (member_cases s a some has) [
              | inl is ↦ sym is
              | inr after ↦ absurd (never_both a s less (all-of (λ j. bytes_cmp s j ≡ Less) some a up.0 after))
            ]
            | inr after ↦ absurd (never_both a s less after.0)
          ]
    ] in
    let rest = ascending-front some all up.1 up_all.1
    (λ t has. elim (member_cases a t all (within t (there s t some has))) [
      | inl is ↦ absurd (never_before s (subst (λ x. bytes_cmp s x ≡ Less) (sym is ∙ same) (all-of (λ j. bytes_cmp s j ≡ Less) some t up.0 has)))
      | inr later ↦ later
    ])
    (λ t has. elim (each t (there a t all has)) [
      | inl there ↦ elim (member_cases s t some there) [
        | inl is ↦ absurd (never_before a (subst (λ x. bytes_cmp a x ≡ Less) (sym is ∙ sym same) (all-of (λ j. bytes_cmp a j ≡ Less) all t up_all.0 has)))
        | inr later ↦ inl later
      ]
      | inr after ↦ inr after.1
    ]) in
    (rest.0, ap (λ x. x ∷ all) same ∙ ap (λ xs. s ∷ xs) rest.1)

mapped-all : (t : List ℕ) (es : List Entry) → AllByRecursion (λ f. bytes_cmp f.kind t ≡ Less) es → AllByRecursion (λ s. bytes_cmp s t ≡ Less) (map (λ e. e.kind) es)
mapped-all t [] a = tt
mapped-all t (e ∷ es) a = (a.0, mapped-all t es a.1)

-- entries with the first types stand for a front of them
pub types-front : (es some : List Entry) → AreByKind some → HasFirstKinds es some → (rest : List (List ℕ)) × (types_in es ≡ map (λ e. e.kind) some ++ rest)
types-front es some ordered first =
    ascending-front (map (λ e. e.kind) some) (types_in es) ordered (set_ascending (map (λ (x : Entry). x.kind) es))
    (λ t has. let p = mapped-from (λ (e : Entry). e.kind) some t has in subst (Contains (types_in es)) p.2 (has-type es p.0 (first.within p.0 p.1)))
    (λ t has.
    let p = from-types es t has in
    elim (first.kinds p.0 p.1) [
      | inl k ↦ inl (subst (Contains (map (λ e. e.kind) some)) (k.2 ∙ p.2) (mapped-has (λ (e : Entry). e.kind) some k.0 k.1))
      | inr after ↦ inr (subst (λ u. AllByRecursion (λ s. bytes_cmp s u ≡ Less) (map (λ e. e.kind) some)) p.2 (mapped-all p.0.kind some after))
    ])

-- ---- room

bytes_of-more : (ts : List (List ℕ)) (t : List ℕ) → bytes_of (ts ++ t ∷ []) ≡ bytes_of ts + length t
bytes_of-more [] t = omega arith
bytes_of-more (u ∷ ts) t = omega (arith, bytes_of-more ts t)

-- what is left is counted on
pub left-counted : (room left : Option ℕ) (ts : List (List ℕ)) (t : List ℕ) → IfSome left (λ n. room ≡ Some (n + bytes_of ts)) → is_over left (length t) ≡ false
    → IfSome (left_after left (length t)) (λ n. room ≡ Some (n + bytes_of (ts ++ t ∷ [])))
left-counted room None ts t counted within = tt
left-counted room (Some n) ts t counted within = counted ∙ ap Some (omega (arith, ltb-false n (length t) within, bytes_of-more ts t))

-- where there is too little left for a type, there is too little for all
pub over-more : (room left : Option ℕ) (ts : List (List ℕ)) (t : List ℕ) → IfSome left (λ n. room ≡ Some (n + bytes_of ts)) → is_over left (length t) ≡ true → IsMore room (ts ++ t ∷ [])
over-more room None ts t counted over = absurd cc
over-more room (Some n) ts t counted over = subst (λ r. IsMore r (ts ++ t ∷ [])) (sym counted) (omega (arith, ltb-true n (length t) over, bytes_of-more ts t))

-- nothing is counted where no room is
pub left-some : (P : Type 0) (left : Option ℕ) (n : ℕ) → IfSome left (λ _. P) → IfSome (left_after left n) (λ _. P)
left-some P None n h = tt
left-some P (Some m) n h = h

pub over-some : (P : Type 0) (left : Option ℕ) (n : ℕ) → IfSome left (λ _. P) → is_over left n ≡ true → P
over-some P None n h over = absurd cc
over-some P (Some m) n h over = h

pub some-weaker : (P Q : Type 0) (left : Option ℕ) → (P → Q) → IfSome left (λ _. P) → IfSome left (λ _. Q)
some-weaker P Q None to h = tt
some-weaker P Q (Some m) to h = to h

pub counted-first : (room left : Option ℕ) → IfSome left (λ n. room ≡ Some n) → IfSome left (λ n. room ≡ Some (n + 0))
counted-first room None h = tt
counted-first room (Some n) h = h ∙ ap Some (omega arith)
