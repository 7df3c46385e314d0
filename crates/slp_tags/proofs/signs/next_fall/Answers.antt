use Rattle.std.proofs.Common.{◌<◌, drop, get_or, subst, arith}
use Rattle.slp_tags.specs.Searches.{front, IsLongestEnd}
use Rattle.slp_tags.specs.SignCodes.{signs_in}
use Rattle.slp_tags.proofs.Searches.{fall-less, more-dropped, one-longest}
use Rattle.slp_tags.proofs.signs.next_fall.Goals as goal

pub returns-then-came-eq0 : goal.returns-then-came-eq0
returns-then-came-eq0 c = one-longest (signs_in c.args.codes.now) c.args.came c.if-came-eq0.true

pub advance-requires-clause-within : goal.advance-requires-clause-within
advance-requires-clause-within c =
    let n = c.args.came in
    let some : 0 < c.args.came = omega (arith, c.if-came-eq0.false) in
    let fall = c.requires.falls n some c.requires.within c.requires.came in
    let less = fall-less (signs_in c.args.codes.now) n (get_or c.args.falls.now n 0) some c.requires.came fall.0 in
    omega (arith, less, c.requires.within)

pub returns : goal.returns
returns c =
    let p = signs_in c.args.codes.now in
    let n = c.args.came in
    let some : 0 < c.args.came = omega (arith, c.if-came-eq0.false) in
    subst (IsLongestEnd p c.advance.result) (more-dropped n c.args.c p some c.requires.came c.requires.next)
    (c.advance.ensures (drop 1 (front n p)) (c.requires.falls n some c.requires.within c.requires.came))
