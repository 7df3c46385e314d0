use Rattle.std.proofs.Common.{take, get_or, sym, subst, ◌∙◌, arith}
use Rattle.std.proofs.lemmas.List.{take_more}
use Rattle.slp_tags.specs.SignCodes.{signs_in}
use Rattle.slp_tags.proofs.SignCodes.{came-within}
use Rattle.slp_tags.proofs.Searches.{came-longest}
use Rattle.slp_tags.proofs.SweptTexts.{IsSwept, swept-more}
use Rattle.slp_tags.proofs.signs.sweep.Goals as goal

pub star_at-requires-clause-within : goal.star_at-requires-clause-within
star_at-requires-clause-within c = came-within c.loop-i.came c.args.codes.now c.requires.codes c.loop-i.invariant.1

pub advance-came-requires-clause-within : goal.advance-came-requires-clause-within
advance-came-requires-clause-within c = let within = came-within c.loop-i.came c.args.codes.now c.requires.codes c.loop-i.invariant.1 in omega (arith, within, c.requires.long)

pub loop-i-preserved : goal.loop-i-preserved
loop-i-preserved c =
    let now = c.loop-i.invariant in
    let p = signs_in c.args.codes.now in
    let i = c.loop-i.i in
    let bytes = c.args.bytes.now in
    let longest = came-longest p c.loop-i.came c.advance-came.result c.in-Some.c now.1 c.advance-came.ensures in
    let more = swept-more p c.args.came c.loop-i.came c.advance-came.result (get_or bytes i 0) c.in-Some.c (take i bytes) c.in-Some.ensures.value.0 c.in-Some.ensures.value.1 (sym c.star_at.ensures ∙ c.if-star_at.false) longest now in
    subst (IsSwept p c.args.came c.advance-came.result) (sym (take_more bytes i 0 c.loop-i-test.true)) more
