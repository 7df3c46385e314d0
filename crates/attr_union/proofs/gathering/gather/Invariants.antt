use Rattle.std.proofs.Common.{◌≡◌, ℕ, List, map}
use Rattle.attr_list.specs.Gathering.{gathered_values}
use Rattle.attr_union.specs.Gathering.{values_at}
use Rattle.attr_union.specs.Unions.{piece_element}
use Rattle.attr_union.proofs.gathering.gather.Given as goal

-- all values of each tag so far
abbrev pub invariant-loop-piece : goal.invariant-loop-piece
invariant-loop-piece l = (tag : List ℕ) → values_at l.named tag ≡ gathered_values (map piece_element l.yielded) tag
