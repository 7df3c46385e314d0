use Rattle.std.proofs.Common.{◌≡◌, ◌++◌, drop, map}
use Rattle.std.specs.Prelude.{string_bytes}
use Rattle.slp_text.specs.Lists.{comma_list}
use Rattle.slp_text.specs.Steps.{BeginsWith}
use Rattle.attr_values.specs.Values.{value_text}
use Rattle.attr_list.proofs.ListedTexts.{listed_from}
use Rattle.attr_list.proofs.writing.append_values.Given as goal

-- what is there and what is still to come are the values
abbrev pub invariant-loop-value : goal.invariant-loop-value
invariant-loop-value l = record {
  start : BeginsWith (string_bytes l.initial.out) (string_bytes l.out);
  text : string_bytes l.out ++ listed_from l.begun (map value_text (drop l.value-index l.values)) ≡ string_bytes l.initial.out ++ comma_list (map value_text l.values);
}
