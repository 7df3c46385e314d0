use Rattle.std.proofs.Common.{◌≡◌, ◌++◌, drop, filter, map}
use Rattle.std.specs.Prelude.{IfSome}
use Rattle.std.specs.Arc.{arc_value}
use Rattle.directory_state.specs.Searches.{entries_in, is_seen, AreSeenBy, IsLook}
use Rattle.directory_state.proofs.asked.Viewer.gather_shares.Given as goal

-- with what is still to come, what was found makes all that is open, and each is seen; the last look is one
abbrev pub invariant-loop-share : goal.invariant-loop-share
invariant-loop-share l = record {
  found : entries_in l.found.items ++ filter (is_seen l.self) (drop l.share-index (map arc_value l.shares)) ≡ filter (is_seen l.self) (map arc_value l.shares);
  seen : AreSeenBy l.self l.found.items;
  last : IfSome l.last (IsLook l.self);
}
