use Rattle.std.proofs.Common.{◌≡◌, All, take}
use Rattle.loop_log.proofs.queue.Handed.take.Given as goal

abbrev pub invariant-loop-share : goal.invariant-loop-share
invariant-loop-share l = All (λ share. share ≡ 0) (take l.share-index l.share-items)
