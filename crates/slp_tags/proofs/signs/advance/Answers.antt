use Rattle.std.proofs.Common.{◌+◌, suc, ◌≡◌, ◌++◌, ◌∷◌, [], subst, sym, ◌∙◌, get_or, arith}
use Rattle.slp_tags.specs.Searches.{IsLongestEnd}
use Rattle.slp_tags.specs.SignCodes.{signs_in}
use Rattle.slp_tags.proofs.SignCodes.{length-codes}
use Rattle.slp_tags.proofs.Searches.{falls-first, falls-next, fall-less, front-within, longest-more, longest-none}
use Rattle.slp_tags.proofs.signs.advance.Goals as goal

pub loop-came-init : goal.loop-came-init
loop-came-init c = (omega arith, c.requires.came, λ text h. falls-first (signs_in c.args.codes.now) c.args.came c.args.c text h)

pub loop-came-preserved : goal.loop-came-preserved
loop-came-preserved c =
    let now = c.loop-came.invariant in
    let p = signs_in c.args.codes.now in
    let n = c.loop-came.came in
    let fall = c.requires.falls n (omega (arith, c.if-came-eq0.false)) (omega (arith, now.0, c.requires.within)) now.1 in
    let less = fall-less p n (get_or c.args.falls.now n 0) (omega (arith, c.if-came-eq0.false)) now.1 fall.0 in
    (omega (arith, now.0, less), fall.0.2, λ text h. falls-next p n (get_or c.args.falls.now n 0) c.args.c text (sym c.has_at.ensures ∙ c.loop-came-test.true) fall (now.2 text h))

pub loop-came-smaller : goal.loop-came-smaller
loop-came-smaller c =
    let now = c.loop-came.invariant in
    let n = c.loop-came.came in
    let fall = c.requires.falls n (omega (arith, c.if-came-eq0.false)) (omega (arith, now.0, c.requires.within)) now.1 in
    fall-less (signs_in c.args.codes.now) n (get_or c.args.falls.now n 0) (omega (arith, c.if-came-eq0.false)) now.1 fall.0

pub returns-then-came-eq0 : goal.returns-then-came-eq0
returns-then-came-eq0 c =
    let p = signs_in c.args.codes.now in
    let none = c.if-came-eq0.true in
    let not = sym c.has_at.ensures ∙ c.loop-came-test.true in
    λ text h. longest-none p c.args.c text (rw none at not) (rw none at (c.loop-came.invariant.2 text h))

pub returns : goal.returns
returns c =
    let p = signs_in c.args.codes.now in
    let n = c.loop-came.came in
    let more : suc n ≡ n + 1 = omega arith in
    λ text h. subst (λ j. IsLongestEnd p j (text ++ c.args.c ∷ [])) more (longest-more p n c.args.c text (sym c.has_at.ensures ∙ c.loop-came-test.false) (c.loop-came.invariant.2 text h))

pub has_at-requires-clause-within : goal.has_at-requires-clause-within
has_at-requires-clause-within c =
    let within = front-within c.loop-came.came (signs_in c.args.codes.now) c.loop-came.invariant.1 in
    let long = length-codes c.args.codes.now c.requires.codes in
    omega (arith, within, long)
