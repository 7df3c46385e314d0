use Rattle.std.proofs.Common.{◌≡◌, ◌∷◌, false, sym, subst, ap, ◌∙◌, arith}
use Rattle.slp_tags.specs.Searches.{finds, star_at}
use Rattle.slp_tags.specs.SignCodes.{signs_in}
use Rattle.slp_tags.proofs.Falls.{first-falls}
use Rattle.slp_tags.proofs.Searches.{front-next, came-longest, turned-nothing, turned-floats, turned-fits, turned-fails}
use Rattle.slp_tags.proofs.SignCodes.{came-within, no-signs}
use Rattle.slp_tags.proofs.signs.Search.turn.Goals as goal

pub returns-then-self-eq1 : goal.returns-then-self-eq1
returns-then-self-eq1 c =
    let s = c.self.inside in
    λ text. ap (λ v. finds v (c.args.c ∷ text)) (sym c.self.view_is) ∙ turned-nothing (signs_in s.codes.now) s.came s.floats (c.args.c ∷ text) c.if-self.true (no-signs s.codes.now c.self.invariant.0 (omega arith))

pub advance-self-inside-requires-clause-falls : goal.advance-self-inside-requires-clause-falls
advance-self-inside-requires-clause-falls c = first-falls (signs_in c.self.inside.codes.now) c.self.inside.falls.now c.self.invariant.2

pub advance-self-inside-requires-clause-within : goal.advance-self-inside-requires-clause-within
advance-self-inside-requires-clause-within c =
    let s = c.self.inside in
    let within = came-within s.came s.codes.now c.self.invariant.0 c.self.invariant.3 in
    omega (arith, within, c.self.invariant.1)

pub invariant_of-self : goal.invariant_of-self
invariant_of-self c =
    let s = c.self.inside in
    (c.self.invariant.0, c.self.invariant.1, c.self.invariant.2, (came-longest (signs_in s.codes.now) s.came c.advance-self-inside.result c.args.c c.self.invariant.3 c.advance-self-inside.ensures).0.2)

pub returns-then-self : goal.returns-then-self
returns-then-self c =
    let s = c.self.inside in
    let p = signs_in s.codes.now in
    let past = subst (λ v. star_at v.came v.signs ≡ false) (sym c.self.view_is) c.requires.past in
    let longest = came-longest p s.came c.advance-self-inside.result c.args.c c.self.invariant.3 c.advance-self-inside.ensures in
    λ text. turned-floats p s.came c.advance-self-inside.result c.args.c s.floats text c.if-self.true c.self.invariant.3 past longest ∙ ap (λ v. finds v (c.args.c ∷ text)) c.self.view_is

pub has_at-requires-clause-within : goal.has_at-requires-clause-within
has_at-requires-clause-within c = came-within c.self.inside.came c.self.inside.codes.now c.self.invariant.0 c.self.invariant.3

pub overflow_add-self : goal.overflow_add-self
overflow_add-self c =
    let s = c.self.inside in
    let within = came-within s.came s.codes.now c.self.invariant.0 c.self.invariant.3 in
    let short = c.self.told.0.1 in
    omega (arith, within, short)

pub invariant_of-self-then-has_at : goal.invariant_of-self-then-has_at
invariant_of-self-then-has_at c =
    let s = c.self.inside in
    (c.self.invariant.0, c.self.invariant.1, c.self.invariant.2, front-next (signs_in s.codes.now) s.came c.args.c c.self.invariant.3 (sym c.has_at.ensures ∙ c.if-has_at.true))

pub returns-then-has_at : goal.returns-then-has_at
returns-then-has_at c =
    let s = c.self.inside in
    λ text. turned-fits (signs_in s.codes.now) s.came c.args.c s.floats text c.if-self.false c.self.invariant.3 (sym c.has_at.ensures ∙ c.if-has_at.true) ∙ ap (λ v. finds v (c.args.c ∷ text)) c.self.view_is

pub returns : goal.returns
returns c =
    let s = c.self.inside in
    let past = subst (λ v. star_at v.came v.signs ≡ false) (sym c.self.view_is) c.requires.past in
    λ text. ap (λ v. finds v (c.args.c ∷ text)) (sym c.self.view_is) ∙ turned-fails (signs_in s.codes.now) s.came c.args.c s.floats text c.if-self.false c.self.invariant.3 past (sym c.has_at.ensures ∙ c.if-has_at.false)
