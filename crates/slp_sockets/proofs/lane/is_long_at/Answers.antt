use Rattle.std.proofs.Common.{sym, ap, ◌∙◌}
use Rattle.std.specs.Option.{option_map}
use Rattle.slp_sockets.specs.Sitting.{seat}
use Rattle.slp_sockets.proofs.Sitting.{seat_is}
use Rattle.slp_sockets.proofs.lane.is_long_at.Goals as goal

pub returns-in-Some-clause-long : goal.returns-in-Some-clause-long
returns-in-Some-clause-long g c = λ is.
    let long = c.is_long.ensures.long is in
    (seat c.in-Some.peer.now, seat_is c.args.peers.now c.args.key ∙ ap (option_map seat) (sym c.in-Some.ensures), long.0, long.1)
