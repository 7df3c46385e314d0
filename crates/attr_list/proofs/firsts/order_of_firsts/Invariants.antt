use Rattle.std.proofs.Common.{◌≡◌, true, map, take, get_or}
use Rattle.std.specs.Prelude.{filter}
use Rattle.attr_list.proofs.firsts.order_of_firsts.Given as goal

-- those of the places so far
abbrev pub invariant-loop-one : goal.invariant-loop-one
invariant-loop-one l = l.order.items ≡ map (λ p. get_or l.fn.new_places p 0) (filter (λ p. get_or l.fn.firsts p true) (map (λ r. r.place) (take l.one-index l.fn.ranked)))
