use Rattle.std.proofs.Common.{length, ap, arith}
use Rattle.agent_program.proofs.starting.serve_opened.Goals as goal

pub serve_at-told-requires-after_bounds : goal.serve_at-told-requires-after_bounds
serve_at-told-requires-after_bounds g c κs within = omega (arith, c.in-Ok.ensures.count, c.loops_for-loops.ensures, ap length c.as_slice.ensures)
