-- What goes back for a message, where it is kept and where memory is wanting.
use Rattle.std.proofs.Common.{◌≡◌, ℕ, List, ◌++◌, Result, Ok, Err, MatchResult}
use Rattle.std.specs.Prelude.{if◌then◌else◌}
use Rattle.std.specs.Result.{is_ok}

-- a list that is extended, or kept where memory is wanting
pub grown : {A E : Type 0} (r : Result A E) (new old more : List ℕ) → new ≡ (if is_ok r then old ++ more else old) → MatchResult r (λ _. new ≡ old ++ more) (λ _. new ≡ old)
grown (Ok a) new old more is = is
grown (Err e) new old more is = is
