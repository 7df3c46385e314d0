use Rattle.std.proofs.Common.{length}
use Rattle.directory_judge.proofs.LanguageWalks.{IsAhead}
use Rattle.directory_judge.proofs.grounds.Grounds.walk.Given as goal

abbrev pub invariant-loop-entry : goal.invariant-loop-entry
invariant-loop-entry g l =
    IsAhead l.self l.withdrawn.scopes l.walk (g.R.Registry.rest_of_url l.self-inside.registry.now l.withdrawn.url l.from) (g.R.Registry.rest_of_url l.self-inside.registry.now l.withdrawn.url 0)

abbrev pub decreases-loop-entry : goal.decreases-loop-entry
decreases-loop-entry g l = length (g.R.Registry.rest_of_url l.self-inside.registry.now l.withdrawn.url l.from)
