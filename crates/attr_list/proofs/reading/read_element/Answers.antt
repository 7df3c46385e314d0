use Rattle.std.proofs.Common.{chars, subst, sym}
use Rattle.attr_list.specs.Pieces.{IsPiece, IsShorter}
use Rattle.attr_list.proofs.ReadValues.{piece-shorter}
use Rattle.attr_list.proofs.ReadPieces.{opened-shorter, read-opened}
use Rattle.attr_list.proofs.reading.read_element.Goals as goal

pub returns-in-Some-clause-value : goal.returns-in-Some-clause-value
returns-in-Some-clause-value c = subst (IsPiece c.read_opened.result) (sym (read-opened (chars c.args.list.now) (chars c.in-Some.inside.now) (sym c.in-Some.ensures))) c.read_opened.ensures.value

pub returns-in-Some-clause-shorter : goal.returns-in-Some-clause-shorter
returns-in-Some-clause-shorter c =
    piece-shorter c.read_opened.result (chars c.in-Some.inside.now) (chars c.args.list.now)
    (subst (λ o. IsShorter o (chars c.args.list.now)) (sym c.in-Some.ensures) (opened-shorter (chars c.args.list.now))) c.read_opened.ensures.shorter
