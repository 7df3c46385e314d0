use Rattle.std.proofs.Common.{sym, ◌∙◌}
use Rattle.std.specs.Io.KnownBytes.{Appends}
use Rattle.replay_program.specs.Sessions.{IsAgent}
use Rattle.replay_program.specs.Worlds.{World, no_memory_text, answer_text}
use Rattle.replay_program.proofs.CommandsDone.{Meets-answered, Meets-refused}
use Rattle.replay_program.proofs.exchange.meet.Goals as goal
use Rattle.replay_program.proofs.exchange.meet.Goals.{in-Ok, in-Err}

pub returns-in-Ok-written : goal.returns-in-Ok-written
returns-in-Ok-written g c = elim c.match-take.branch [
  | in-Ok w ↦
      let takes = λ (v : World) (h : IsAgent v c.args.agent.now). rw w.in-Ok.is at (c.take.ensures v h) in
      let said = answer_text c.take.new.answer.bytes.items c.take.new.answer.audit.items in
      let out : Appends (g.W.Write.contents c.args.writer.now) (g.W.Write.contents w.print-written.new.writer) said =
      rw (← w.as_slice.ensures.value, ← w.as_slice-in-Ok.ensures.value) (rw (sym w.written-is ∙ c.in-Ok-written.is) at w.print-written.ensures) in
      (said, rw w.writer-is out, Meets-answered c.args.limit c.args.agent.now c.args.bytes.now _ c.take.new.answer.bytes.items c.take.new.answer.audit.items c.take.new.self takes)
  | in-Err w ↦
      let same = λ (v : World) (h : IsAgent v c.args.agent.now). rw w.in-Err.is at (c.take.ensures v h) in
      let out : Appends (g.W.Write.contents c.args.writer.now) (g.W.Write.contents w.print_refusal-written.new.writer) (no_memory_text c.take.new.self.asker c.args.bytes.now) =
      rw (sym w.written-is ∙ c.in-Ok-written.is) at w.print_refusal-written.ensures in
      (no_memory_text c.take.new.self.asker c.args.bytes.now, rw w.writer-is out, Meets-refused c.args.limit c.args.agent.now c.args.bytes.now c.take.new.self same)
]
