use Rattle.std.proofs.Common.{List, []}
use Rattle.agent_watch.specs.Words.{Gives, Hears, Reading}
use Rattle.agent_watch.specs.declared.words.End.{End}
use Rattle.agent_watch.proofs.words.hear.Given as goal

abbrev pub invariant-loop : goal.invariant-loop
invariant-loop g l =
    (rs : List Reading) (end : _) (told : End) (after : _) → Gives g.I.Input.gives l.input rs end → Hears g.A.Act.acts l.actor l.line rs told after
    → (all : List Reading) × Gives g.I.Input.gives l.fn.input all end × Hears g.A.Act.acts l.fn.actor [] all told after
