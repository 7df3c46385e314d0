use Rattle.std.proofs.Common.{◌≡◌, ◌+◌, take, vec_len}
use Rattle.agent_parts.specs.Jobs.{AreLoops}
use Rattle.agent_program.proofs.Loops.{Beside}
use Rattle.agent_program.proofs.starting.jobs_at.Given as goal

-- there is a loop for each view that was taken, and one beside each as long as there are others
abbrev pub invariant-loop-view : goal.invariant-loop-view
invariant-loop-view g l = record {
  count : vec_len l.jobs + l.view-iterator.rest.len ≡ vec_len l.fn.views;
  loops : AreLoops (λ d. d.own) l.jobs.items (take (vec_len l.jobs) l.fn.config.listen);
  beside : Beside (λ d. d.own) l.fn.config.listen (vec_len l.fn.others) (vec_len l.jobs) (vec_len l.others) l.beside.items;
}
