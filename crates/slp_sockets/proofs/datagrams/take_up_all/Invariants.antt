use Rattle.std.proofs.Common.{false, length}
use Rattle.slp_sockets.specs.Exchanging.{datagrams}
use Rattle.slp_sockets.proofs.Exchanges.{TookUp}
use Rattle.slp_sockets.proofs.datagrams.take_up_all.Given as goal

abbrev pub invariant-loop-first : goal.invariant-loop-first
invariant-loop-first g l = TookUp g.P.Port.may g.S.Serve.manner l.fn.port (record { server = l.fn.server; is_late = false }) (datagrams l.fn.aside.items) l.port (record { server = l.server; is_late = false }) (datagrams l.aside.items)

abbrev pub decreases-loop-first : goal.decreases-loop-first
decreases-loop-first g l = length l.aside.items
