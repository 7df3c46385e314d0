use Rattle.std.proofs.Common.{◌-◌, false, Result}
use Rattle.slp_sockets.specs.Streaming.{Talk, Goes}
use Rattle.slp_sockets.specs.declared.connection.Next.{Next}
use Rattle.slp_sockets.specs.declared.fault.LoopFault.{LoopFault}
use Rattle.slp_sockets.proofs.peer.take_steps.Given as goal

abbrev pub invariant-loop : goal.invariant-loop
invariant-loop g l =
    (told : Result Next LoopFault) (b : Talk _)
    → Goes g.S.Serve.manner (16 - l.counter) l.has_served (record { brings = g.T.Read.remaining l.stream; taken = g.T.Write.contents l.stream; link = l.connection; server = l.server }) told b
    → Goes g.S.Serve.manner 16 false (record { brings = g.T.Read.remaining l.fn.stream; taken = g.T.Write.contents l.fn.stream; link = l.fn.connection; server = l.fn.server }) told b
