use Rattle.std.proofs.Common.{◌≡◌, ◌++◌, drop, map}
use Rattle.std.specs.Prelude.{string_bytes}
use Rattle.slp_text.specs.Lists.{comma_list}
use Rattle.attr_values.specs.Values.{value_text}
use Rattle.attr_list.proofs.ListedTexts.{listed_from}
use Rattle.attr_union.proofs.writing.append_values.Given as goal

-- what is there and what is still to come are the values
abbrev pub invariant-loop-lent : goal.invariant-loop-lent
invariant-loop-lent l = string_bytes l.out ++ listed_from l.begun (map value_text (drop l.lent-index l.values)) ≡ string_bytes l.initial.out ++ comma_list (map value_text l.values)
