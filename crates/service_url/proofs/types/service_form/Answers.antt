use Rattle.std.proofs.Common.{◌≡◌, ◌<◌, ◌+◌, ◌-◌, ◌&&◌, ◌||◌, true, ℕ, List, length, take, drop, sym, ap, ap₂, ◌∙◌, arith, inl, inr}
use Rattle.std.specs.Prelude.{not}
use Rattle.std.specs.List.{after_first, before_first, position_or_len}
use Rattle.std.proofs.lemmas.List.{take_all, length-drop, length-take}
use Rattle.std.proofs.lemmas.Bool.{cases_lt}
use Rattle.std.proofs.lemmas.List.Sums.{prefix_len-le-length}
use Rattle.service_url.specs.Types.{is_colon, is_name}
use Rattle.service_url.proofs.Roots.{name_colon, no_front, two_names}
use Rattle.service_url.proofs.types.service_form.Goals as goal

pub returns-then-not-is_name : goal.returns-then-not-is_name
returns-then-not-is_name c = no_front c.args.rest.now (ap (λ n. is_name (take n c.args.rest.now)) (sym c.colon_at-colon.ensures) ∙ sym c.if-not-is_name.ensures)

within : (r : List ℕ) (n : ℕ) → n ≡ position_or_len is_colon r → (n ≡ length r → ⊥) → position_or_len is_colon r < length r
within r n is other = elim (cases_lt (position_or_len is_colon r) (length r)) [
  | inl l ↦ l
  | inr g ↦ absurd (other (omega (arith, is, prefix_len-le-length (λ x. not (is_colon x)) r)))
]

-- what the code takes for the second name
second : (r : List ℕ) (n : ℕ) → n ≡ position_or_len is_colon r → take (length r - (n + 1)) (drop (n + 1) r) ≡ after_first is_colon r
second r n is = take_all (length r - (n + 1)) (drop (n + 1) r) (omega (arith, length-drop (n + 1) r)) ∙ ap (λ m. drop (m + 1) r) is

pub returns-then-not-is_name-2 : goal.returns-then-not-is_name-2
returns-then-not-is_name-2 c =
    let r : List ℕ = c.args.rest.now in
    let n : ℕ = c.colon_at-colon.result in
    two_names r (within r n c.colon_at-colon.ensures c.if-colon-rest.false)
    ∙ ap₂ ◌&&◌ (ap (λ m. is_name (take m r)) (sym c.colon_at-colon.ensures) ∙ sym c.if-not-is_name.ensures) (ap is_name (sym (second r n c.colon_at-colon.ensures)) ∙ sym c.if-not-is_name-2.ensures)

pub returns : goal.returns
returns c =
    let r : List ℕ = c.args.rest.now in
    let n : ℕ = c.colon_at-colon.result in
    let l = within r n c.colon_at-colon.ensures c.if-colon-rest.false in (
      two_names r l ∙ ap₂ ◌&&◌ (ap (λ m. is_name (take m r)) (sym c.colon_at-colon.ensures) ∙ sym c.if-not-is_name.ensures) (ap is_name (sym (second r n c.colon_at-colon.ensures)) ∙ sym c.if-not-is_name-2.ensures),
      ap (λ m. 8 + m) c.colon_at-colon.ensures,
      sym (name_colon r l),
    )

pub slice_bounds-is_name-end : goal.slice_bounds-is_name-end
slice_bounds-is_name-end c =
    let r : List ℕ = c.args.rest.now in
    omega (arith, c.colon_at-colon.ensures, prefix_len-le-length (λ x. not (is_colon x)) r, length-take c.colon_at-colon.result r)

pub returns-then-colon-rest : goal.returns-then-colon-rest
returns-then-colon-rest c =
    let r : List ℕ = c.args.rest.now in
    let n : ℕ = c.colon_at-colon.result in
    let named : is_name r ≡ true = ap is_name (sym (take_all n r (omega (arith, c.if-colon-rest.true)))) ∙ sym c.is_name.ensures ∙ c.if-not-is_name.false in
    (ap (λ b. b || (is_name (before_first is_colon r) && is_name (after_first is_colon r))) named, ap (λ m. 8 + m) c.colon_at-colon.ensures, sym named)

pub overflow_add-colon : goal.overflow_add-colon
overflow_add-colon c = omega (arith, c.colon_at-colon.ensures, prefix_len-le-length (λ x. not (is_colon x)) c.args.rest.now)
