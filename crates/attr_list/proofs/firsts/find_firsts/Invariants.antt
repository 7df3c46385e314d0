use Rattle.std.proofs.Common.{◌≡◌, ◌-◌, length, map}
use Rattle.attr_list.proofs.FirstValues.{Found, IsEarliest, Repeats}
use Rattle.attr_list.proofs.firsts.find_firsts.Given as goal

-- what was noted so far not to be the first is not, all of that was noted, and where the first of the last ones stands
abbrev pub invariant-loop-next : goal.invariant-loop-next
invariant-loop-next l = record {
  count : length l.firsts.items ≡ length l.fn.values;
  repeats : Repeats l.fn.values l.firsts.items;
  found : Found l.fn.values l.firsts.items (map (λ r. r.place) l.fn.ranked) l.next;
  earliest : IsEarliest l.fn.values (map (λ r. r.place) l.fn.ranked) (l.next - 1) l.first;
}
