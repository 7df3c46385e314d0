use Rattle.std.proofs.Common.{◌≡◌, ◌++◌, ℕ, Bool, List, drop, take}
use Rattle.attr_list.specs.Stored.{kept_stored, AreStored}
use Rattle.attr_list.specs.Tests.{AcceptsAs}
use Rattle.attr_list.proofs.combining.pick.Given as goal

-- those of the attributes so far, which with the rest are stored
abbrev pub invariant-loop-entry : goal.invariant-loop-entry
invariant-loop-entry g l = record {
  picked : (p : List ℕ → Bool) → AcceptsAs g.F.Fn l.accepts p → l.picked.items ≡ kept_stored p (take l.entry-index l.entries);
  stored : AreStored l.entries → AreStored (l.picked.items ++ drop l.entry-index l.entries);
}
