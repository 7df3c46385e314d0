use Rattle.std.proofs.Common.{◌≡◌, ◌<◌, ℕ, length, take, get_or}
use Rattle.attr_list.specs.Lists.{distinct_values}
use Rattle.attr_list.proofs.firsts.keep_firsts.Given as goal

-- what was kept so far, and the places that were told
abbrev pub invariant-loop-value : goal.invariant-loop-value
invariant-loop-value l = record {
  front : l.yielded ≡ take (length l.yielded) l.fn.values.items;
  kept : l.kept.items ≡ distinct_values l.yielded;
  count : length l.new_places.items ≡ length l.yielded;
  places : (p : ℕ) → p < length l.yielded → get_or l.new_places.items p 0 ≡ length (distinct_values (take p l.fn.values.items));
}
