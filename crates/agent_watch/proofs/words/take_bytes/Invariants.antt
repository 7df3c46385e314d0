use Rattle.std.proofs.Common.{Bool, List, ℕ, drop}
use Rattle.agent_watch.specs.Words.{Takes}
use Rattle.agent_watch.proofs.words.take_bytes.Given as goal

abbrev pub invariant-loop-byte : goal.invariant-loop-byte
invariant-loop-byte g l =
    (told : Bool) (rest : List ℕ) (after : _) → Takes g.A.Act.acts l.actor l.line (drop l.byte-index l.fn.piece) told rest after → Takes g.A.Act.acts l.fn.actor l.fn.line l.fn.piece told rest after
