-- Going from one field that is not kept to the next, as a loop does.
use Rattle.std.proofs.Common.{◌≡◌, ℕ, suc, zero, ◌+◌, ◌≤◌, ◌<◌, List, [], ◌∷◌, length, drop, get_or, Result, Ok, Err, refl, sym, ap, ◌∙◌, arith}
use Rattle.slp_messages.specs.declared.kind.Kind.{Kind}
use Rattle.slp_fields.specs.Reading.{rest_of_field_at, rest_of_fields_at}
use Rattle.slp_fields.specs.Steps.{Fails}
use Rattle.slp_fields.specs.declared.fault.WireFault.{WireFault}
use Rattle.slp_fields.proofs.Faults.{fails_on, bind_is, bind_err}

at_place : {A : Type 0} (i : ℕ) (xs : List A) (other : A) → i < length xs → drop i xs ≡ get_or xs i other ∷ drop (suc i) xs
at_place i [] other there = absurd (omega arith)
at_place zero (x ∷ xs) other there = refl
at_place (suc i) (x ∷ xs) other there = at_place i xs other (omega arith)

next_is : {A : Type 0} (i : ℕ) (xs : List A) (other : A) → i < length xs → drop i xs ≡ get_or xs i other ∷ drop (i + 1) xs
next_is i xs other there =
    let n : suc i ≡ i + 1 = omega arith in
    at_place i xs other there ∙ ap (λ (k : ℕ). get_or xs i other ∷ drop k xs) n

pub goes_on : (kinds : List Kind) (i : ℕ) (other : Kind) (bytes after : List ℕ) (total : Result (List ℕ) WireFault) → i < length kinds → rest_of_field_at (get_or kinds i other) bytes ≡ Ok after
    → rest_of_fields_at (drop i kinds) bytes ≡ total → rest_of_fields_at (drop (i + 1) kinds) after ≡ total
goes_on kinds i other bytes after total there h so_far =
    sym (bind_is (rest_of_field_at (get_or kinds i other) bytes) (λ (b : List ℕ). rest_of_fields_at (drop (i + 1) kinds) b) after h)
    ∙ ap (λ (ks : List Kind). rest_of_fields_at ks bytes) (sym (next_is i kinds other there)) ∙ so_far

failed : (e : WireFault) (kinds : List Kind) (i : ℕ) (other : Kind) (bytes : List ℕ) (total : Result (List ℕ) WireFault) → i < length kinds → rest_of_field_at (get_or kinds i other) bytes ≡ Err e
    → rest_of_fields_at (drop i kinds) bytes ≡ total → total ≡ Err e
failed e kinds i other bytes total there h so_far =
    sym so_far ∙ ap (λ (ks : List Kind). rest_of_fields_at ks bytes) (next_is i kinds other there)
    ∙ bind_err (rest_of_field_at (get_or kinds i other) bytes) (λ (b : List ℕ). rest_of_fields_at (drop (i + 1) kinds) b) e h

pub ends : (e : WireFault) (kinds : List Kind) (i : ℕ) (other : Kind) (bytes : List ℕ) (total : Result (List ℕ) WireFault) → i < length kinds → Fails e (rest_of_field_at (get_or kinds i other) bytes)
    → rest_of_fields_at (drop i kinds) bytes ≡ total → Fails e total
ends e kinds i other bytes total there fails so_far =
    fails_on e (rest_of_field_at (get_or kinds i other) bytes) total (λ h. failed e kinds i other bytes total there h so_far) fails

none_left : {A : Type 0} (i : ℕ) (xs : List A) → length xs ≤ i → drop i xs ≡ []
none_left zero [] h = refl
none_left (suc i) [] h = refl
none_left zero (x ∷ xs) h = absurd (omega arith)
none_left (suc i) (x ∷ xs) h = none_left i xs (omega arith)

pub is_done : (kinds : List Kind) (i : ℕ) (bytes : List ℕ) (total : Result (List ℕ) WireFault) → length kinds ≤ i → rest_of_fields_at (drop i kinds) bytes ≡ total → total ≡ Ok bytes
is_done kinds i bytes total le so_far = sym so_far ∙ ap (λ (ks : List Kind). rest_of_fields_at ks bytes) (none_left i kinds le)
