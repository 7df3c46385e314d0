use Rattle.std.proofs.Common.{◌≡◌, map}
use Rattle.std.specs.List.{range_with_len}
use Rattle.attr_list.specs.Gathering.{AreRanked}
use Rattle.attr_list.proofs.order.identities.Given as goal

-- those of the values so far
abbrev pub invariant-loop-place : goal.invariant-loop-place
invariant-loop-place l = record {
  ranked : AreRanked l.values l.ranked.items;
  places : map (λ a. a.place) l.ranked.items ≡ range_with_len 0 l.place;
}
