-- Digits, one after the other.
use Rattle.std.proofs.Common.{◌≡◌, ℕ, ◌≤◌, ◌<◌, ◌^◌, ◌/◌, ◌%◌, ◌++◌, List, sym, ap, ◌∙◌, append_assoc, arith}
use Rattle.std.specs.Fmt.{decimal}
use Rattle.std.proofs.lemmas.Fmt.{decimal_digit, decimal_step}

-- the last digit of a number is written behind the others
pub last_digit : (w t u : List ℕ) (n : ℕ) → 10 ≤ n → n < 2 ^ 64 → t ≡ w ++ decimal (n / 10) → u ≡ t ++ decimal (n % 10) → u ≡ w ++ decimal n
last_digit w t u n more small front whole =
    whole ∙ ap (λ s. s ++ decimal (n % 10)) front ∙ append_assoc w (decimal (n / 10)) (decimal (n % 10))
    ∙ ap (λ s. w ++ (decimal (n / 10) ++ s)) (decimal_digit (n % 10) (omega arith)) ∙ ap (λ s. w ++ s) (sym (decimal_step n more small))
