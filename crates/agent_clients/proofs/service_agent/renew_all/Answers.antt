use Rattle.std.proofs.Common.{sym, ap, ◌∙◌, arith}
use Rattle.std.proofs.Math.ListN.{set}
use Rattle.std.proofs.lemmas.List.Edits.{map_over_more}
use Rattle.agent_clients.specs.Keeping.{Kept, renewed}
use Rattle.agent_clients.proofs.service_agent.renew_all.Goals as goal

pub loop-lease-preserved : goal.loop-lease-preserved
loop-lease-preserved c =
    ap (λ (k : Kept). set c.loop-lease.kept c.loop-lease.lease-index k) (c.renew.ensures ∙ ap (renewed c.args.now) (sym c.lease-item.is))
    ∙ map_over_more (renewed c.args.now) c.args.kept.now c.loop-lease.kept c.loop-lease.lease-index c.lease-item.result (omega arith) c.loop-lease.invariant c.lease-item.is
