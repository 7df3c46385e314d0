use Rattle.std.proofs.Common.{◌≡◌, ◌++◌, map}
use Rattle.std.specs.Slice.Iter.{iter_rest}
use Rattle.mio.specs.Events.{items}
use Rattle.slp_sockets.specs.Readiness.{token_of}
use Rattle.slp_sockets.specs.Turning.{AreServedAt}
use Rattle.slp_sockets.proofs.agent_loop.serve_events.Given as goal

abbrev pub invariant-loop-event : goal.invariant-loop-event
invariant-loop-event g l = record {
  limit : l.streams.limit ≡ l.fn.streams.limit;
  all : map (λ e. e.now) l.yielded ++ iter_rest l.event-iterator ≡ items l.fn.ready.1.now;
  served : AreServedAt g.S.Serve.manner (record { seats = l.fn.streams.seats; server = l.fn.server }) (map token_of (map (λ e. e.now) l.yielded)) (record { seats = l.streams.seats; server = l.server });
}
