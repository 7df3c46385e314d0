-- How texts stand to each other by their bytes, from some byte on.
use Rattle.std.proofs.Common.{◌≡◌, ℕ, suc, ◌<◌, List, [], ◌∷◌, ◌++◌, length, get_or, drop, ap, ◌∙◌, refl, arith, Greater}
use Rattle.std.proofs.Math.Seq.{drop-cons}
use Rattle.slp_text.specs.Words.{bytes_cmp}

some-past : (xs ys more : List ℕ) (x : ℕ) → length ys ≡ 0 → bytes_cmp ((x ∷ xs) ++ more) ys ≡ Greater
some-past xs [] more x none = refl
some-past xs (y ∷ ys) more x none = absurd (omega (arith, none))

-- more bytes stand past the end of a text
pub cmp-past : (xs more ys : List ℕ) (i : ℕ) → i < length xs → length ys ≡ 0 → bytes_cmp (drop i xs ++ more) ys ≡ Greater
cmp-past xs more ys i some none = ap (λ zs. bytes_cmp (zs ++ more) ys) (drop-cons xs i 0 some) ∙ some-past (drop (suc i) xs) ys more (get_or xs i 0) none
