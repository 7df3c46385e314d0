-- The digits of bytes, piece by piece.
use Rattle.std.proofs.Common.{◌≡◌, ℕ, List, [], ◌∷◌, ◌++◌, refl, ap}
use Rattle.std.specs.Prelude.{slice_index, ◌/◌, ◌%◌}
use Rattle.hex.specs.Hex.{encode_with}

pub encoded-append : (table xs ys : List ℕ) → encode_with table (xs ++ ys) ≡ encode_with table xs ++ encode_with table ys
unfolding encode_with
encoded-append table [] ys = refl
encoded-append table (x ∷ xs) ys = ap (λ (ds : List ℕ). slice_index table (x / 16) ∷ slice_index table (x % 16) ∷ ds) (encoded-append table xs ys)
