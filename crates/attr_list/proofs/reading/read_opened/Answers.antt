use Rattle.std.proofs.Common.{ap, chars, subst, sym}
use Rattle.std.proofs.lemmas.Result.{err_from_is_err_and}
use Rattle.slp_text.specs.Ascii.{equals_sign}
use Rattle.attr_values.specs.Rests.{rest_of}
use Rattle.attr_list.specs.Pieces.{IsPiece}
use Rattle.attr_list.proofs.ReadValues.{after-is_shorter, piece-shorter}
use Rattle.attr_list.proofs.ReadPieces.{tag-fault, tag-is, tag-unvalued}
use Rattle.attr_list.proofs.reading.read_opened.Goals as goal

pub returns-in_default-clause-value : goal.returns-in_default-clause-value
returns-in_default-clause-value c =
    tag-unvalued (chars c.args.list.now) (chars c.cut_at.result.0.now) (rest_of c.cut_at.result.1) c.unvalued.result c.cut_at.ensures.before c.cut_at.ensures.after (ap rest_of c.in_default.is) c.unvalued.ensures

pub returns-in_err-tag-clause-value : goal.returns-in_err-tag-clause-value
returns-in_err-tag-clause-value c =
    let p = err_from_is_err_and c.from_residual.result c.from_residual.ensures.1 in
    rw (p.1, p.2) (tag-fault (chars c.args.list.now) (chars c.cut_at.result.0.now) (rest_of c.cut_at.result.1) (chars c.in-Some.after.now) c.in_err-tag.field-0.0
    c.cut_at.ensures.before c.cut_at.ensures.after (ap rest_of c.in-Some.is) c.in_err-tag.ensures.value)

pub returns-clause-value : goal.returns-clause-value
returns-clause-value c =
    subst (IsPiece c.read_valued.result)
    (sym (tag-is (chars c.args.list.now) (chars c.cut_at.result.0.now) (rest_of c.cut_at.result.1) (chars c.in-Some.after.now) c.in_ok-tag.tag
    c.cut_at.ensures.before c.cut_at.ensures.after (ap rest_of c.in-Some.is) c.in_ok-tag.ensures.value))
    c.read_valued.ensures.value

pub returns-clause-shorter : goal.returns-clause-shorter
returns-clause-shorter c =
    piece-shorter c.read_valued.result (chars c.in-Some.after.now) (chars c.args.list.now)
    (after-is_shorter equals_sign (chars c.args.list.now) (rest_of c.cut_at.result.1) (chars c.in-Some.after.now) c.cut_at.ensures.after (ap rest_of c.in-Some.is)) c.read_valued.ensures.shorter
