use Rattle.std.proofs.Common.{◌≡◌, ◌++◌, ℕ, Bool, List, map}
use Rattle.std.specs.List.{AllByRecursion}
use Rattle.attr_list.specs.Pieces.{IsElement}
use Rattle.attr_list.specs.Tests.{AcceptsAs}
use Rattle.attr_union.specs.Unions.{piece_element}
use Rattle.attr_union.proofs.KeptPieces.{kept_of_first}
use Rattle.attr_union.proofs.pieces.append_accepted.Given as goal

-- those so far
abbrev pub invariant-loop-place : goal.invariant-loop-place
invariant-loop-place g l = record {
  added : (p : List ℕ → Bool) → AcceptsAs g.F.Fn l.accepts p → map piece_element l.pieces.items ≡ map piece_element l.initial.pieces.items ++ kept_of_first p l.attributes l.place;
  sound : AllByRecursion IsElement (map piece_element l.initial.pieces.items) → AllByRecursion IsElement (map piece_element l.pieces.items);
}
