use Rattle.std.proofs.Common.{chars, subst, sym}
use Rattle.std.proofs.lemmas.Result.{err_from_is_err_and}
use Rattle.slp_text.specs.Ascii.{comma}
use Rattle.attr_values.specs.Rests.{rest_of}
use Rattle.attr_list.specs.Pieces.{IsShorter}
use Rattle.attr_list.proofs.CutTexts.{after-shorter}
use Rattle.attr_list.proofs.ReadPieces.{keyword-fault, keyword-is}
use Rattle.attr_list.proofs.reading.read_keyword.Goals as goal

pub returns-in_err-tag-clause-value : goal.returns-in_err-tag-clause-value
returns-in_err-tag-clause-value c =
    let p = err_from_is_err_and c.from_residual.result c.from_residual.ensures.1 in
    rw (p.1, p.2) (keyword-fault (chars c.args.list.now) (chars c.cut_at.result.0.now) (rest_of c.cut_at.result.1) c.in_err-tag.field-0.0 c.requires c.cut_at.ensures.before c.cut_at.ensures.after c.in_err-tag.ensures.value)

pub returns-clause-value : goal.returns-clause-value
returns-clause-value c =
    keyword-is (chars c.args.list.now) (chars c.cut_at.result.0.now) (rest_of c.cut_at.result.1) c.in_ok-tag.tag c.new.result.items c.requires c.cut_at.ensures.before c.cut_at.ensures.after
    c.in_ok-tag.ensures.value c.new.ensures.items

pub returns-clause-shorter : goal.returns-clause-shorter
returns-clause-shorter c = subst (λ o. IsShorter o (chars c.args.list.now)) (sym c.cut_at.ensures.after) (after-shorter comma (chars c.args.list.now))
