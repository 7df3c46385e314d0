use Rattle.std.proofs.Common.{[], ◌∷◌, ◌++◌, map, sym, ap, ◌∙◌}
use Rattle.std.specs.Slice.Iter.{iter_rest}
use Rattle.std.proofs.lemmas.List.{map-append}
use Rattle.mio.specs.Events.{items}
use Rattle.slp_sockets.specs.Readiness.{token_of}
use Rattle.slp_sockets.proofs.Reaching.{events_next, served_next}
use Rattle.slp_sockets.proofs.agent_loop.serve_events.Goals as goal

pub loop-event-preserved-in-Ok : goal.loop-event-preserved-in-Ok
loop-event-preserved-in-Ok g c = record {
  limit = c.serve_event.ensures.limit ∙ c.loop-event.invariant.limit;
  all = events_next c.loop-event.yielded c.in-Some.event (iter_rest c.loop-event.event-iterator) (iter_rest c.next.new.self) (items c.args.ready.1.now) c.loop-event.invariant.all c.in-Some.ensures.steps;
  served = served_next g.S.Serve.manner (record { seats = c.args.streams.now.seats; server = c.args.server.now }) (record { seats = c.loop-event.streams.seats; server = c.loop-event.server }) (record { seats = c.serve_event.new.streams.seats; server = c.serve_event.new.server }) c.loop-event.yielded c.in-Some.event c.token.result c.token.ensures c.loop-event.invariant.served c.serve_event.ensures.served;
}

pub loop-event-preserved : goal.loop-event-preserved
loop-event-preserved g c = record {
  limit = c.serve_event.ensures.limit ∙ c.loop-event.invariant.limit;
  all = events_next c.loop-event.yielded c.in-Some.event (iter_rest c.loop-event.event-iterator) (iter_rest c.next.new.self) (items c.args.ready.1.now) c.loop-event.invariant.all c.in-Some.ensures.steps;
  served = served_next g.S.Serve.manner (record { seats = c.args.streams.now.seats; server = c.args.server.now }) (record { seats = c.loop-event.streams.seats; server = c.loop-event.server }) (record { seats = c.serve_event.new.streams.seats; server = c.serve_event.new.server }) c.loop-event.yielded c.in-Some.event c.token.result c.token.ensures c.loop-event.invariant.served c.serve_event.ensures.served;
}

pub returns-in-Err-Io-clause-served : goal.returns-in-Err-Io-clause-served
returns-in-Err-Io-clause-served g c = (
  map token_of (map (λ e. e.now) (c.loop-event.yielded ++ c.in-Some.event ∷ [])),
  map token_of (iter_rest c.next.new.self),
  ap (map token_of) (sym (events_next c.loop-event.yielded c.in-Some.event (iter_rest c.loop-event.event-iterator) (iter_rest c.next.new.self) (items c.args.ready.1.now) c.loop-event.invariant.all c.in-Some.ensures.steps))
      ∙ map-append token_of (map (λ e. e.now) (c.loop-event.yielded ++ c.in-Some.event ∷ [])) (iter_rest c.next.new.self),
  λ whole. absurd whole,
  served_next g.S.Serve.manner (record { seats = c.args.streams.now.seats; server = c.args.server.now }) (record { seats = c.loop-event.streams.seats; server = c.loop-event.server }) (record { seats = c.serve_event.new.streams.seats; server = c.serve_event.new.server }) c.loop-event.yielded c.in-Some.event c.token.result c.token.ensures c.loop-event.invariant.served c.serve_event.ensures.served,
)

pub returns-then-load-clause-served : goal.returns-then-load-clause-served
returns-then-load-clause-served g c = (
  map token_of (map (λ e. e.now) c.loop-event.yielded),
  map token_of (iter_rest c.loop-event.event-iterator),
  ap (map token_of) (sym c.loop-event.invariant.all)
      ∙ map-append token_of (map (λ e. e.now) c.loop-event.yielded) (iter_rest c.loop-event.event-iterator),
  λ whole. absurd cc,
  c.loop-event.invariant.served,
)
