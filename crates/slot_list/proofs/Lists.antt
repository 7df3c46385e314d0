-- The list of the first places.
use Rattle.std.proofs.Common.{◌≡◌, ℕ, ◌+◌, ◌-◌, ◌<◌, ◌≤◌, List, [], length, set, take, refl, sym, ap, ◌∙◌, arith, inl, inr, zero-add}
use Rattle.std.specs.List.{insert, remove}
use Rattle.std.proofs.lemmas.List.{get_or-set_same, get_or-set_other, length-set}
use Rattle.std.proofs.lemmas.List.Edits.{length-insert, get_or-insert_below, get_or-insert_at, get_or-insert_above, length-remove, get_or-remove_below, get_or-remove_above}
use Rattle.std.proofs.lemmas.List.FromFn.{length-map-range_with_len, get_or-map-range_with_len, take-map-range_with_len, fill_by_all}
use Rattle.std.proofs.lemmas.Grind.{common_steps}
use Rattle.std.proofs.lemmas.Bool.{cases_eq, cases_lt}
use Rattle.slot_list.specs.Blocks.{spot, nth, first, IsPut}
use Rattle.slot_list.proofs.Spots.{at, nth_is, spot_injective}
use Rattle.slot_list.proofs.Passes.{moved_here, moved_past}

pub length-first : (ns ts : List ℕ) (n : ℕ) → length (first ns ts n) ≡ n
unfolding first
length-first ns ts n = length-map-range_with_len (nth ns ts) 0 n

pub at-first : (ns ts : List ℕ) (n i : ℕ) → i < n → at (first ns ts n) i ≡ nth ns ts i
unfolding first
at-first ns ts n i l = get_or-map-range_with_len (nth ns ts) 0 n i i 0 l (zero-add i)

first_all : (ns ts : List ℕ) (n : ℕ) (xs : List ℕ) → length xs ≡ n → ((i : ℕ) → i < n → at xs i ≡ nth ns ts i) → first ns ts n ≡ xs
unfolding first
first_all ns ts n xs l h = sym (fill_by_all (nth ns ts) xs n 0 l h)

pub first-none : (ns ts : List ℕ) → first ns ts 0 ≡ []
unfolding first
first-none ns ts = refl

pub take-first : (ns ts : List ℕ) (n k : ℕ) → k ≤ n → take k (first ns ts n) ≡ first ns ts k
unfolding first
take-first ns ts n k l = take-map-range_with_len (nth ns ts) 0 n k l

pub set-first : (ns ts : List ℕ) (n i x : ℕ) → i < n → spot ts i < length ns → first (set ns (spot ts i) x) ts n ≡ set (first ns ts n) i x
set-first ns ts n i x l w =
    let xs : List ℕ = first ns ts n in
    let s : ℕ = spot ts i in
    let size : length xs ≡ n = length-first ns ts n in
    first_all (set ns s x) ts n (set xs i x) (length-set xs i x ∙ size) (λ k h. elim (cases_eq k i) [
      | inl e ↦ ap (at (set xs i x)) e ∙ get_or-set_same xs i x 0 (omega arith) ∙ sym (ap (nth (set ns s x) ts) e ∙ nth_is (set ns s x) ts i ∙ get_or-set_same ns s x 0 w)
      | inr d ↦ get_or-set_other xs i k x 0 d ∙ at-first ns ts n k h ∙ nth_is ns ts k ∙ sym (nth_is (set ns s x) ts k ∙ get_or-set_other ns s (spot ts k) x 0 (λ e. d (spot_injective ts k i e)))
    ])

pub insert-first : (ns ts ms us : List ℕ) (n i x : ℕ) → i ≤ n → IsPut (nth ns ts) (nth ms us) i (n + 1) x → first ms us (n + 1) ≡ insert (first ns ts n) i x
insert-first ns ts ms us n i x l p =
    let xs : List ℕ = first ns ts n in
    let size : length xs ≡ n = length-first ns ts n in
    let within : i ≤ length xs = omega arith in
    first_all ms us (n + 1) (insert xs i x) (length-insert xs i x within ∙ ap (λ m. m + 1) size) (λ k h. elim (cases_lt k i) [
      | inl s ↦ get_or-insert_below xs i x 0 k s within ∙ at-first ns ts n k (omega arith) ∙ sym (p.before k s)
      | inr s ↦ elim (cases_eq k i) [
        | inl e ↦ ap (at (insert xs i x)) e ∙ get_or-insert_at xs i x 0 within ∙ sym (p.between k s h ∙ moved_here (nth ns ts) i x k e)
        | inr d ↦
            let back : k ≡ k - 1 + 1 = omega arith in
            ap (at (insert xs i x)) back ∙ get_or-insert_above xs i x 0 (k - 1) (omega arith) within ∙ at-first ns ts n (k - 1) (omega arith) ∙ sym (p.between k s h ∙ moved_past (nth ns ts) i x k d)
      ]
    ])

pub remove-first : (ns ts ms us : List ℕ) (n i x : ℕ) → i < n → IsPut (nth ms us) (nth ns ts) i n x → first ms us (n - 1) ≡ remove (first ns ts n) i
remove-first ns ts ms us n i x l p =
    let xs : List ℕ = first ns ts n in
    let size : length xs ≡ n = length-first ns ts n in
    let within : i < length xs = omega arith in
    let less : length (remove xs i) ≡ n - 1 = omega (arith, length-remove xs i within) in
    first_all ms us (n - 1) (remove xs i) less (λ k h. elim (cases_lt k i) [
      | inl s ↦ get_or-remove_below xs i 0 k s within ∙ at-first ns ts n k (omega arith) ∙ p.before k s
      | inr s ↦
          let back : k + 1 - 1 ≡ k = omega arith in
          get_or-remove_above xs i 0 k s within ∙ at-first ns ts n (k + 1) (omega arith) ∙ p.between (k + 1) (omega arith) (omega arith) ∙ moved_past (nth ms us) i x (k + 1) (omega arith) ∙ ap (nth ms us) back
    ])

-- by which what a list does to its places is what its contract says
pub ruleset of_places = (common_steps, nth_is, length-first, at-first, first-none, take-first, set-first, insert-first, remove-first)
