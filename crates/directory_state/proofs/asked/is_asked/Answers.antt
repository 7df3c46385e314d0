use Rattle.std.proofs.Common.{◌≡◌, ℕ, true, Bool, List, Some, sym, ap, ◌∙◌, rules}
use Rattle.std.specs.Prelude.{slice_get}
use Rattle.std.specs.List.{list_any}
use Rattle.std.specs.Option.{option_copied}
use Rattle.std.proofs.lemmas.List.Folds.{list_any_at}
use Rattle.std.proofs.lemmas.Option.{slice_get_within, get_or_from_slice_get}
use Rattle.slp_text.specs.Words.{bytes_eq}
use Rattle.directory_state.proofs.asked.is_asked.Goals as goal

any-there : (p : List ℕ → Bool) (scopes : List (List ℕ)) (place : ℕ) (s : List ℕ) → slice_get scopes place ≡ Some s → p s ≡ true → list_any p scopes ≡ true
any-there p scopes place s at is = list_any_at p scopes place s (slice_get_within scopes place s at) (ap p (get_or_from_slice_get scopes place s s at) ∙ is)

pub returns-in-Some : goal.returns-in-Some
returns-in-Some c =
    let there = c.in-Some.there.now in
    let at : slice_get c.args.asked.now c.args.likely ≡ Some there = sym c.at.ensures ∙ ap option_copied c.in-Some.is in
    let same : bytes_eq there c.args.scope.now ≡ true = search rules in
    sym (any-there (λ k. bytes_eq k c.args.scope.now) c.args.asked.now c.args.likely there at same)
