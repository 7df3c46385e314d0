use Rattle.std.proofs.Common.{◌≡◌, All}
use Rattle.loop_log.proofs.queue.Handed.new.Given as goal

abbrev pub invariant-loop : goal.invariant-loop
invariant-loop l = All (λ share. share ≡ 0) l.shares.items
