use Rattle.std.proofs.Common.{◌≡◌, take}
use Rattle.std.specs.BTreeSet as set
use Rattle.std.specs.List.{list_any}
use Rattle.attr_values.specs.declared.value.Value.{Value}
use Rattle.attr_list.specs.Lists.{distinct_values, is_same}
use Rattle.attr_union.specs.Unions.{IsIdentity}
use Rattle.attr_union.specs.declared.distinct.Identity.{Identity}
use Rattle.attr_union.proofs.LentValues.{identity_cmp}
use Rattle.attr_union.proofs.distinct.distinct.Given as goal

-- what was kept so far, and what is the same as something before
abbrev pub invariant-loop-lent : goal.invariant-loop-lent
invariant-loop-lent l = record {
  kept : l.kept.items ≡ distinct_values (take l.lent-index l.values);
  seen : (i : Identity) (w : Value) → IsIdentity i w → set.contains identity_cmp l.seen i ≡ list_any (λ v. is_same v w) (take l.lent-index l.values);
}
