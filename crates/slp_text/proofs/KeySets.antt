-- Sets of keys: ascending lists with the same members are the same.
use Rattle.std.proofs.Common.{◌≡◌, ℕ, Bool, true, false, cond, List, [], ◌∷◌, refl, sym, ap, ap₂, subst, ◌∙◌, inl, inr, arith}
use Rattle.std.specs.Prelude.{◌⊎◌, ◌||◌, Contains, filter}
use Rattle.std.specs.List.{All, AllByRecursion, dedup, list_any}
use Rattle.std.specs.List.Retain.{IsFiltered, DiffersFromLast}
use Rattle.std.specs.List.Sorted.{IsPermutation, IsSorted, IsStrictlySortedBy}
use Rattle.std.specs.Cmp.Lexicographic.{nat_list_eq_equiv}
use Rattle.std.specs.Ordering.{is_eq, ordering_reverse, match_ordering}
use Rattle.std.specs.declared.cmp.Ordering.{Ordering}
use Rattle.std.specs.declared.cmp.Ordering.TheVariants.{Less, Equal, Greater}
use Rattle.std.proofs.lemmas.Cmp.{nat_list_cmp_total, tied_itself}
use Rattle.std.proofs.lemmas.List.Elements.{All-nil, All-cons, All-weaker, All-contains, Contains-append_left, Contains-append_right, Contains-append_cases}
use Rattle.std.proofs.lemmas.List.Filters.{dedup_is}
use Rattle.std.proofs.lemmas.List.Kept.{IsStrictlySortedBy-dedup, IsStrictlySortedBy-filter, Contains-dedup, Contains-from_dedup}
use Rattle.std.proofs.lemmas.List.Sorted.{Contains-permutation, IsPermutation-sym}
use Rattle.std.proofs.lemmas.Map.Lookups.{exact_bytes}
use Rattle.std.proofs.lemmas.Map.Made.{Contains-tail}
use Rattle.std.proofs.lemmas.Map.Text.{is_eq-slice_cmp}
use Rattle.slp_text.specs.Sets.{common_keys, with_key, set_of}
use Rattle.slp_text.specs.Words.{bytes_eq, bytes_cmp, IsAscending}

-- ---- members

pub here : {A : Type 0} (x : A) (xs : List A) → Contains (x ∷ xs) x
here x xs = Contains-append_left (x ∷ []) xs x (0, omega arith, refl)

pub there : {A : Type 0} (x y : A) (xs : List A) → Contains xs y → Contains (x ∷ xs) y
there x y xs h = Contains-append_right (x ∷ []) xs y h

no_member : {A : Type 0} (x : A) → Contains [] x → ⊥
no_member x h = absurd (omega (arith, h.1))

only_member : {A : Type 0} (x y : A) → Contains (x ∷ []) y → x ≡ y
only_member x y h = let first : h.0 ≡ 0 = omega (arith, h.1) in rw first at h.2

pub member_cases : {A : Type 0} (x y : A) (xs : List A) → Contains (x ∷ xs) y → (x ≡ y) ⊎ Contains xs y
member_cases x y xs h = elim (Contains-append_cases (x ∷ []) xs y h) [ inl a ↦ inl (only_member x y a) | inr b ↦ inr b ]

-- ---- ascending lists

all_of : (P : List ℕ → Type 0) (xs : List (List ℕ)) → AllByRecursion P xs → All P xs
all_of P [] each = All-nil P
all_of P (x ∷ xs) each = All-cons P x xs each.0 (all_of P xs each.1)

pub each_weaker : (P Q : List ℕ → Type 0) (xs : List (List ℕ)) → ((x : List ℕ) → P x → Q x) → AllByRecursion P xs → AllByRecursion Q xs
each_weaker P Q [] to each = tt
each_weaker P Q (x ∷ xs) to each = (to x each.0, each_weaker P Q xs to each.1)

pub each_filtered : (P : List ℕ → Type 0) (p : List ℕ → Bool) (xs : List (List ℕ)) → AllByRecursion P xs → AllByRecursion P (filter p xs)
each_filtered P p [] each = tt
each_filtered P p (x ∷ xs) each =
    elim (p x) as (λ b. AllByRecursion P (cond b (x ∷ filter p xs) (filter p xs))) [
      | true ↦ (each.0, each_filtered P p xs each.1)
      | false ↦ each_filtered P p xs each.1
    ]

not_there : (u : List ℕ) (us : List (List ℕ)) → All (λ w. bytes_cmp u w ≡ Less) us → Contains us u → ⊥
not_there u us below is =
    let less : bytes_cmp u u ≡ Less = All-contains (λ w. bytes_cmp u w ≡ Less) us u below is in
    let equal : Equal ≡ Less = sym (tied_itself nat_list_cmp_total u) ∙ less in
    cc

-- what is below the first is not in the list
not_below : (u v : List ℕ) (vs : List (List ℕ)) → bytes_cmp u v ≡ Less → IsAscending (v ∷ vs) → Contains (v ∷ vs) u → ⊥
not_below u v vs less ascending =
    not_there u (v ∷ vs)
    (All-cons (λ w. bytes_cmp u w ≡ Less) v vs less
    (All-weaker (λ w. bytes_cmp v w ≡ Less) (λ w. bytes_cmp u w ≡ Less) (λ w. nat_list_cmp_total.trans u v w less) vs (all_of (λ w. bytes_cmp v w ≡ Less) vs ascending.0)))

rest_within : (u v : List ℕ) (us vs : List (List ℕ)) → u ≡ v → IsAscending (u ∷ us) → ((w : List ℕ) → Contains (u ∷ us) w → Contains (v ∷ vs) w) → (w : List ℕ) → Contains us w → Contains vs w
rest_within u v us vs same ascending within w has =
    Contains-tail v vs w (λ first. not_there u us (all_of (λ j. bytes_cmp u j ≡ Less) us ascending.0) (subst (Contains us) (sym first ∙ sym same) has)) (within w (there u w us has))

pub same_ascending : (us vs : List (List ℕ)) → IsAscending us → IsAscending vs → ((w : List ℕ) → Contains us w → Contains vs w) → ((w : List ℕ) → Contains vs w → Contains us w) → us ≡ vs
same_ascending [] [] a b to from = refl
same_ascending [] (v ∷ vs) a b to from = absurd (no_member v (from v (here v vs)))
same_ascending (u ∷ us) [] a b to from = absurd (no_member u (to u (here u us)))
same_ascending (u ∷ us) (v ∷ vs) a b to from =
    elim (bytes_cmp u v) as (λ o. bytes_cmp u v ≡ o → u ∷ us ≡ v ∷ vs) [
      | Less ↦ λ less. absurd (not_below u v vs less b (to u (here u us)))
      | Equal ↦ λ equal.
          let same : u ≡ v = exact_bytes u v equal in
          ap₂ (λ w ws. w ∷ ws) same (same_ascending us vs a.1 b.1 (rest_within u v us vs same a to) (rest_within v u vs us (sym same) b from))
      | Greater ↦ λ greater. absurd (not_below v u us (nat_list_cmp_total.antisymm v u ∙ ap ordering_reverse greater) a (from v (here v vs)))
    ] refl

-- a key before the first of an ascending list
pub ascends-more : (j k : List ℕ) (ks : List (List ℕ)) → bytes_cmp j k ≡ Less → IsAscending (k ∷ ks) → IsAscending (j ∷ k ∷ ks)
ascends-more j k ks less a = ((less, each_weaker (λ w. bytes_cmp k w ≡ Less) (λ w. bytes_cmp j w ≡ Less) ks (λ w. nat_list_cmp_total.trans j k w less) a.0), a)

-- ---- one key more

-- what holds of the key and of all that is there holds of all
pub all_with : (P : List ℕ → Type 0) (k : List ℕ) (js : List (List ℕ)) → P k → AllByRecursion P js → AllByRecursion P (with_key k js)
all_with P k [] p each = (p, tt)
all_with P k (j ∷ js) p each =
    elim (bytes_cmp k j) as (λ o. AllByRecursion P (match_ordering o (k ∷ j ∷ js) (j ∷ js) (j ∷ with_key k js))) [
      | Less ↦ (p, each)
      | Equal ↦ each
      | Greater ↦ (each.0, all_with P k js p each.1)
    ]

pub with_ascending : (k : List ℕ) (js : List (List ℕ)) → IsAscending js → IsAscending (with_key k js)
with_ascending k [] a = (tt, tt)
with_ascending k (j ∷ js) a =
    elim (bytes_cmp k j) as (λ o. bytes_cmp k j ≡ o → IsAscending (match_ordering o (k ∷ j ∷ js) (j ∷ js) (j ∷ with_key k js))) [
      | Less ↦ λ less. ((less, each_weaker (λ w. bytes_cmp j w ≡ Less) (λ w. bytes_cmp k w ≡ Less) js (λ w. nat_list_cmp_total.trans k j w less) a.0), a)
      | Equal ↦ λ equal. a
      | Greater ↦ λ greater. (all_with (λ w. bytes_cmp j w ≡ Less) k js (nat_list_cmp_total.antisymm j k ∙ ap ordering_reverse greater) a.0, with_ascending k js a.1)
    ] refl

with_has : (k : List ℕ) (js : List (List ℕ)) (w : List ℕ) → (k ≡ w) ⊎ Contains js w → Contains (with_key k js) w
with_has k [] w (inl is) = subst (Contains (k ∷ [])) is (here k [])
with_has k [] w (inr has) = absurd (no_member w has)
with_has k (j ∷ js) w (inl is) =
    elim (bytes_cmp k j) as (λ o. bytes_cmp k j ≡ o → Contains (match_ordering o (k ∷ j ∷ js) (j ∷ js) (j ∷ with_key k js)) w) [
      | Less ↦ λ less. subst (Contains (k ∷ j ∷ js)) is (here k (j ∷ js))
      | Equal ↦ λ equal. subst (Contains (j ∷ js)) (sym (exact_bytes k j equal) ∙ is) (here j js)
      | Greater ↦ λ greater. there j w (with_key k js) (with_has k js w (inl is))
    ] refl
with_has k (j ∷ js) w (inr has) =
    elim (bytes_cmp k j) as (λ o. Contains (match_ordering o (k ∷ j ∷ js) (j ∷ js) (j ∷ with_key k js)) w) [
      | Less ↦ there k w (j ∷ js) has
      | Equal ↦ has
      | Greater ↦ elim (member_cases j w js has) [
        | inl is ↦ subst (Contains (j ∷ with_key k js)) is (here j (with_key k js))
        | inr in_rest ↦ there j w (with_key k js) (with_has k js w (inr in_rest))
      ]
    ]

has_with : (k : List ℕ) (js : List (List ℕ)) (w : List ℕ) → Contains (with_key k js) w → Contains (k ∷ js) w
has_with k [] w = λ has. has
has_with k (j ∷ js) w =
    elim (bytes_cmp k j) as (λ o. Contains (match_ordering o (k ∷ j ∷ js) (j ∷ js) (j ∷ with_key k js)) w → Contains (k ∷ j ∷ js) w) [
      | Less ↦ λ has. has
      | Equal ↦ λ has. there k w (j ∷ js) has
      | Greater ↦ λ has. elim (member_cases j w (with_key k js) has) [
        | inl is ↦ subst (Contains (k ∷ j ∷ js)) is (there k j (j ∷ js) (here j js))
        | inr in_rest ↦ elim (member_cases k w js (has_with k js w in_rest)) [
          | inl first ↦ subst (Contains (k ∷ j ∷ js)) first (here k (j ∷ js))
          | inr later ↦ there k w (j ∷ js) (there j w js later)
        ]
      ]
    ]

-- ---- sets

pub set_ascending : (ks : List (List ℕ)) → IsAscending (set_of ks)
set_ascending [] = tt
set_ascending (k ∷ ks) = with_ascending k (set_of ks) (set_ascending ks)

pub set_within : (ks : List (List ℕ)) (w : List ℕ) → Contains (set_of ks) w → Contains ks w
set_within [] w has = has
set_within (k ∷ ks) w has = elim (member_cases k w (set_of ks) (has_with k (set_of ks) w has)) [
  | inl is ↦ subst (Contains (k ∷ ks)) is (here k ks)
  | inr in_rest ↦ there k w ks (set_within ks w in_rest)
]

pub set_covers : (ks : List (List ℕ)) (w : List ℕ) → Contains ks w → Contains (set_of ks) w
set_covers [] w has = has
set_covers (k ∷ ks) w has = elim (member_cases k w ks has) [
  | inl is ↦ with_has k (set_of ks) w (inl is)
  | inr in_rest ↦ with_has k (set_of ks) w (inr (set_covers ks w in_rest))
]

-- an ascending list with the members of the keys is their set
pub is_set : (js ks : List (List ℕ)) → IsAscending js → ((w : List ℕ) → Contains js w → Contains ks w) → ((w : List ℕ) → Contains ks w → Contains js w) → js ≡ set_of ks
is_set js ks a to from = same_ascending js (set_of ks) a (set_ascending ks) (λ w h. set_covers ks w (to w h)) (λ w h. from w (set_within ks w h))

-- an ascending list is its own set
pub set_itself : (ks : List (List ℕ)) → IsAscending ks → set_of ks ≡ ks
set_itself ks a = sym (is_set ks ks a (λ w h. h) (λ w h. h))

-- ---- sorted and without doubles

ascends : (ks : List (List ℕ)) → IsStrictlySortedBy bytes_cmp ks → IsAscending ks
unfolding IsStrictlySortedBy
ascends [] s = tt
ascends (k ∷ ks) s = (s.0, ascends ks s.1)

strictly : (ks : List (List ℕ)) → IsAscending ks → IsStrictlySortedBy bytes_cmp ks
unfolding IsStrictlySortedBy
strictly [] a = tt
strictly (k ∷ ks) a = (a.0, strictly ks a.1)

pub filter_ascending : (p : List ℕ → Bool) (ks : List (List ℕ)) → IsAscending ks → IsAscending (filter p ks)
filter_ascending p ks a = ascends (filter p ks) (IsStrictlySortedBy-filter bytes_cmp p ks (strictly ks a))

ties : (x y : List ℕ) → bytes_eq x y ≡ is_eq (bytes_cmp x y)
ties x y = sym (is_eq-slice_cmp x y)

pub is_eq-true : (o : Ordering) → is_eq o ≡ true → o ≡ Equal
is_eq-true Less h = cc
is_eq-true Equal h = refl
is_eq-true Greater h = cc

pub bytes_same : (a b : List ℕ) → bytes_eq a b ≡ true → a ≡ b
bytes_same a b h = exact_bytes a b (is_eq-true _ (is_eq-slice_cmp a b ∙ h))

pub sorted_once : (ks sorted js : List (List ℕ)) → IsPermutation ks sorted → IsSorted bytes_cmp sorted → IsFiltered (DiffersFromLast bytes_eq) [] sorted js → js ≡ set_of ks
sorted_once ks sorted js moved up kept =
    let is : js ≡ dedup bytes_eq sorted = dedup_is bytes_eq sorted js kept in
    is_set js ks (subst IsAscending (sym is) (ascends (dedup bytes_eq sorted) (IsStrictlySortedBy-dedup nat_list_cmp_total ties sorted up)))
    (λ w has. Contains-permutation sorted ks w (IsPermutation-sym ks sorted moved) (Contains-from_dedup bytes_eq sorted w (subst (λ xs. Contains xs w) is has)))
    (λ w has. subst (λ xs. Contains xs w) (sym is) (Contains-dedup nat_list_eq_equiv bytes_same sorted w (Contains-permutation ks sorted w moved has)))

-- ---- what stands in both

kept_member : (p : List ℕ → Bool) (xs : List (List ℕ)) (w : List ℕ) → Contains (filter p xs) w → Contains xs w × (p w ≡ true)
kept_member p [] w h = absurd (no_member w h)
kept_member p (x ∷ xs) w h =
    elim (p x) as (λ b. p x ≡ b → Contains (cond b (x ∷ filter p xs) (filter p xs)) w → Contains (x ∷ xs) w × (p w ≡ true)) [
      | true ↦ λ t has. elim (member_cases x w (filter p xs) has) [
        | inl is ↦ (subst (Contains (x ∷ xs)) is (here x xs), ap p (sym is) ∙ t)
        | inr later ↦ let m = kept_member p xs w later in (there x w xs m.0, m.1)
      ]
      | false ↦ λ f has. let m = kept_member p xs w has in (there x w xs m.0, m.1)
    ] refl h

member_kept : (p : List ℕ → Bool) (xs : List (List ℕ)) (w : List ℕ) → Contains xs w → p w ≡ true → Contains (filter p xs) w
member_kept p [] w h t = absurd (no_member w h)
member_kept p (x ∷ xs) w h t =
    elim (p x) as (λ b. p x ≡ b → Contains (cond b (x ∷ filter p xs) (filter p xs)) w) [
      | true ↦ λ passes. elim (member_cases x w xs h) [
        | inl is ↦ subst (Contains (x ∷ filter p xs)) is (here x (filter p xs))
        | inr later ↦ there x w (filter p xs) (member_kept p xs w later t)
      ]
      | false ↦ λ fails. elim (member_cases x w xs h) [
        | inl is ↦ (let no : false ≡ true = sym fails ∙ (ap p is ∙ t) in cc)
        | inr later ↦ member_kept p xs w later t
      ]
    ] refl

bytes_self : (k : List ℕ) → bytes_eq k k ≡ true
bytes_self k = ties k k ∙ ap is_eq (tied_itself nat_list_cmp_total k)

has_member : (k : List ℕ) (others : List (List ℕ)) → list_any (λ o. bytes_eq o k) others ≡ true → Contains others k
has_member k [] h = cc
has_member k (o ∷ os) h =
    elim (bytes_eq o k) as (λ b. bytes_eq o k ≡ b → (b || list_any (λ j. bytes_eq j k) os) ≡ true → Contains (o ∷ os) k) [
      | true ↦ λ same any. subst (Contains (o ∷ os)) (bytes_same o k same) (here o os)
      | false ↦ λ other any. there o k os (has_member k os any)
    ] refl h

member_has : (k : List ℕ) (others : List (List ℕ)) → Contains others k → list_any (λ o. bytes_eq o k) others ≡ true
member_has k [] h = absurd (no_member k h)
member_has k (o ∷ os) h =
    elim (member_cases o k os h) [
      | inl is ↦ ap (λ b. b || list_any (λ j. bytes_eq j k) os) (subst (λ j. bytes_eq o j ≡ true) is (bytes_self o))
      | inr later ↦ elim (bytes_eq o k) as (λ b. (b || list_any (λ j. bytes_eq j k) os) ≡ true) [ true ↦ refl | false ↦ member_has k os later ]
    ]

within_common : (ks others : List (List ℕ)) (w : List ℕ) → Contains (common_keys ks others) w → Contains (common_keys others ks) w
within_common ks others w has =
    let m = kept_member (λ k. list_any (λ o. bytes_eq o k) others) ks w has in
    member_kept (λ k. list_any (λ o. bytes_eq o k) ks) others w (has_member w others m.1) (member_has w ks m.0)

-- it does not matter which of two sets is asked for what stands in the other
pub common_turned : (ks others : List (List ℕ)) → IsAscending ks → IsAscending others → common_keys ks others ≡ common_keys others ks
common_turned ks others a b =
    same_ascending (common_keys ks others) (common_keys others ks)
    (filter_ascending (λ k. list_any (λ o. bytes_eq o k) others) ks a)
    (filter_ascending (λ k. list_any (λ o. bytes_eq o k) ks) others b)
    (within_common ks others) (within_common others ks)
