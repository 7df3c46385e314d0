use Rattle.std.proofs.Common.{◌≡◌, map}
use Rattle.std.specs.Prelude.{vec_items}
use Rattle.attr_list.specs.Lists.{distinct_values, held_of}
use Rattle.attr_union.specs.Unions.{joined_pair}
use Rattle.attr_union.proofs.gathering.settle.Given as goal

-- what each tag holds so far
abbrev pub invariant-loop-tag : goal.invariant-loop-tag
invariant-loop-tag l = map joined_pair l.settled.items ≡ map (λ p. (p.0, held_of (distinct_values (vec_items p.1)))) l.yielded
