use Rattle.std.proofs.Common.{◌≡◌, length, map}
use Rattle.std.specs.Vec.Iter.{into_iter_items, into_iter_len}
use Rattle.agent_clients.specs.Keeping.{Keeping}
use Rattle.agent_clients.specs.Runs.{Goes}
use Rattle.agent_clients.specs.Upkeep.{Sends, Keeps}
use Rattle.agent_clients.proofs.keeping.send_all.Given as goal

abbrev pub invariant-loop-message : goal.invariant-loop-message
invariant-loop-message g l = record {
  left : length (into_iter_items l.message-iterator) ≡ into_iter_len l.message-iterator;
  sent : (k : Keeping) → Goes g.O.Outside.may Keeps l.fn.outside (Sends k (map (λ v. v.items) l.fn.messages.items)) l.outside (Sends k (map (λ v. v.items) (into_iter_items l.message-iterator)));
}
