use Rattle.std.proofs.Common.{◌≡◌, ◌++◌, length, map, take, drop}
use Rattle.agent_clients.specs.Keeping.{sent, xid_after}
use Rattle.agent_clients.proofs.service_agent.send_due.Given as goal

abbrev pub invariant-loop-lease : goal.invariant-loop-lease
invariant-loop-lease l = record {
  messages : map (λ v. v.items) l.messages.items ++ sent l.now l.xid (drop l.lease-index l.kept) ≡ map (λ v. v.items) l.fn.messages.items ++ sent l.now l.last l.kept;
  last : xid_after l.now l.xid (drop l.lease-index l.kept) ≡ xid_after l.now l.last l.kept;
  kept : take (length l.fn.messages.items) l.messages.items ≡ l.fn.messages.items;
}
