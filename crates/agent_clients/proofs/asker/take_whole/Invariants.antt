use Rattle.std.proofs.Common.{Bool, List, ℕ, length}
use Rattle.agent_clients.specs.Wires.{Course, TakesAll}
use Rattle.agent_clients.proofs.asker.take_whole.Given as goal

-- what is taken from here on comes to what was to be taken
abbrev pub invariant-loop-next : goal.invariant-loop-next
invariant-loop-next l =
    (b : Bool) (after : Course) (ms : List (List ℕ)) → TakesAll l.now (record { agent = l.agent; framer = l.framer; is_open = b }) ms after
    → (ns : List (List ℕ)) × TakesAll l.now (record { agent = l.fn.agent; framer = l.fn.framer; is_open = b }) ns after

abbrev pub decreases-loop-next : goal.decreases-loop-next
decreases-loop-next l = length l.framer.waiting
