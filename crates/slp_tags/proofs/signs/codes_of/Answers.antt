use Rattle.std.proofs.Common.{sym, subst, ap, ◌∙◌, arith, take_all}
use Rattle.slp_tags.specs.SignCodes.{signs_in, AreCodes}
use Rattle.slp_tags.proofs.SignCodes.{ended-codes}
use Rattle.slp_tags.proofs.signs.codes_of.Goals as goal

pub returns-clause-codes : goal.returns-clause-codes
returns-clause-codes c =
    let now = c.loop-sign.invariant in
    subst AreCodes (sym c.in_ok-push-2.ensures.items) (ended-codes c.loop-sign.codes.items now.1).1

pub returns-clause-signs : goal.returns-clause-signs
returns-clause-signs c =
    let now = c.loop-sign.invariant in
    ap signs_in c.in_ok-push-2.ensures.items ∙ (ended-codes c.loop-sign.codes.items now.1).0 ∙ now.0 ∙ take_all c.loop-sign.sign-index c.args.signs.now (omega arith)
