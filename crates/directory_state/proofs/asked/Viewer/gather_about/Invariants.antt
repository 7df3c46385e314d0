use Rattle.std.proofs.Common.{◌≡◌, ◌++◌, filter, length}
use Rattle.std.specs.Prelude.{IfSome}
use Rattle.directory_state.specs.Searches.{entries_in, is_seen, rest_about, AreSeenBy, IsLook}
use Rattle.directory_state.proofs.asked.Viewer.gather_about.Given as goal

-- with what is still to come, what was found makes all that is open of what is asked about, and each is seen; the last look is one
abbrev pub invariant-loop-entry : goal.invariant-loop-entry
invariant-loop-entry g l =
    let rest = rest_about (g.R.Registry.rest_of_kind l.registry) (g.R.Registry.rest_of_url l.registry) l.target in record {
      found : entries_in l.found.items ++ filter (is_seen l.self) (rest l.from) ≡ filter (is_seen l.self) (rest 0);
      seen : AreSeenBy l.self l.found.items;
      last : IfSome l.last (IsLook l.self);
    }

abbrev pub decreases-loop-entry : goal.decreases-loop-entry
decreases-loop-entry g l = length (rest_about (g.R.Registry.rest_of_kind l.registry) (g.R.Registry.rest_of_url l.registry) l.target l.from)
