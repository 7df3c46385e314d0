use Rattle.std.proofs.Common.{◌≡◌, ◌++◌, length, map}
use Rattle.std.specs.Arc.{arc_value}
use Rattle.directory_state.proofs.gathering.shares_of_url.Given as goal

-- with what is still to come, what was gathered makes all
abbrev pub invariant-loop-share : goal.invariant-loop-share
invariant-loop-share g l = map arc_value l.shares.items ++ g.R.Registry.rest_of_url l.registry l.url l.from ≡ g.R.Registry.rest_of_url l.registry l.url 0

abbrev pub decreases-loop-share : goal.decreases-loop-share
decreases-loop-share g l = length (g.R.Registry.rest_of_url l.registry l.url l.from)
