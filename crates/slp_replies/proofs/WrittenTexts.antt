-- What is written where there may be too little room.
use Rattle.std.proofs.Common.{◌≡◌, ℕ, ◌<◌, ◌≤◌, List, ◌++◌, length, subst, arith, inl, inr}
use Rattle.attr_union.specs.Rooms.{IsWrittenWithin}

module _ (room : ℕ) (old text new : List ℕ) where
  pub written-some : IsWrittenWithin room old text new → (some : List ℕ) × (new ≡ old ++ some)
  written-some (inl all) = (text, all)
  written-some (inr other) = (other.0, other.1)

  pub written-fits : IsWrittenWithin room old text new → length new ≤ room → new ≡ old ++ text
  written-fits (inl all) fits = all
  written-fits (inr other) fits = absurd (omega (arith, fits, other.2))

  pub written-over : IsWrittenWithin room old text new → room < length new → room < length (old ++ text)
  written-over (inl all) over = subst (λ (t : List ℕ). room < length t) all over
  written-over (inr other) over = other.3
