use Rattle.std.proofs.Common.{◌≡◌, ◌+◌, ◌++◌, filter, length, map, Some, None}
use Rattle.std.specs.Prelude.{IfSome, IsTrue}
use Rattle.registry_core.specs.Entries.{AreByType}
use Rattle.directory_state.specs.Searches.{entries_lent, is_listed, AreByKind, HasEachKind, IsLook}
use Rattle.directory_state.specs.TypeRooms.{bytes_of}
use Rattle.directory_state.proofs.asked.Viewer.gather_types.Given as goal

-- With what is still to come, what was found has each type of all that is listed; and it stands in order, where nothing else was seen; the last look is one.
-- Where room is counted, the types still to come do not fall, and what is left is the room without the types that stand in order.
abbrev pub invariant-loop-entry : goal.invariant-loop-entry
invariant-loop-entry g l =
    let rest = g.R.Registry.rest_of_kind l.registry None in
    let found = entries_lent l.entries.items in record {
      each : HasEachKind (filter (is_listed l.self l.authority) (rest 0)) (found ++ filter (is_listed l.self l.authority) (rest l.from));
      ordered : IsTrue l.are_ordered → AreByKind found;
      last : IfSome l.last (IsLook l.self);
      sorted : IfSome l.left (λ _. AreByType (rest l.from));
      counted : IsTrue l.are_ordered → IfSome l.left (λ n. l.fn.room ≡ Some (n + bytes_of (map (λ e. e.kind) found)));
    }

abbrev pub decreases-loop-entry : goal.decreases-loop-entry
decreases-loop-entry g l = length (g.R.Registry.rest_of_kind l.registry None l.from)
