-- Where a text does not begin so.
use Rattle.std.proofs.Common.{◌≡◌, ◌++◌, ℕ, Bool, true, false, List, refl}
use Rattle.std.specs.Prelude.{nat_eq}
use Rattle.std.specs.List.{starts_with}
use Rattle.std.proofs.lemmas.Bool.Decides.{Decides-eqb}
use Rattle.std.proofs.lemmas.Slice.Eq.{starts_is}

-- there is no rest
pub no_front : (text front : List ℕ) → ((rest : List ℕ) → text ≡ front ++ rest → ⊥) → starts_with nat_eq text front ≡ false
no_front text front none = by (starts_with nat_eq text front) refl
  where
    by : (b : Bool) → starts_with nat_eq text front ≡ b → starts_with nat_eq text front ≡ false
    by false e = e
    by true e = absurd (none _ ((starts_is Decides-eqb text front (starts_with nat_eq text front) refl).0 e))
