use Rattle.std.proofs.Common.{◌≡◌, length}
use Rattle.slp_sockets.proofs.datagrams.Datagrams.new.Given as goal

abbrev pub invariant-loop : goal.invariant-loop
invariant-loop g l = length l.exchanges.items ≡ l.counter
