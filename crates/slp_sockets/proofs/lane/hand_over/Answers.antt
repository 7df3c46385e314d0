use Rattle.std.proofs.Common.{[], refl}
use Rattle.slp_sockets.specs.Handing.{given_in}
use Rattle.slp_sockets.proofs.lane.hand_over.Goals as goal

pub returns-in_default-clause-given : goal.returns-in_default-clause-given
returns-in_default-clause-given g c = record {
  letters = [];
  mailed = given_in c.args.gives.now;
  keys = [];
  datagrams = (refl, refl);
  streams = refl;
}
