use Rattle.attr_union.specs.Unions.{piece_element}
use Rattle.attr_union.proofs.GatheredMaps.{gathered-next}
use Rattle.attr_union.proofs.gathering.gather.Goals as goal

pub loop-piece-preserved : goal.loop-piece-preserved
loop-piece-preserved c = gathered-next piece_element c.loop-piece.yielded c.in-Some.piece c.loop-piece.named c.add.new.named c.loop-piece.invariant c.in_ok-add.ensures
