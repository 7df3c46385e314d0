use Rattle.std.proofs.Common.{◌≡◌, [], false, sym, subst, ap, ◌∙◌, arith}
use Rattle.slp_tags.specs.Searches.{finds, star_at}
use Rattle.slp_tags.specs.SignCodes.{signs_in}
use Rattle.slp_tags.proofs.Searches.{ended}
use Rattle.slp_tags.proofs.SignCodes.{all-came, came-within}
use Rattle.slp_tags.proofs.signs.Search.ends.Goals as goal

pub returns : goal.returns
returns c =
    let s = c.self.inside in
    let past = subst (λ v. star_at v.came v.signs ≡ false) (sym c.self.view_is) c.pass_stars.ensures.past in
    all-came s.came s.codes.now c.self.invariant.0 ∙ ended (signs_in s.codes.now) s.came s.floats c.self.invariant.3 past ∙ ap (λ v. finds v []) c.self.view_is ∙ c.pass_stars.ensures.same []

pub overflow_add-result : goal.overflow_add-result
overflow_add-result c =
    let s = c.self.inside in
    let within = came-within s.came s.codes.now c.self.invariant.0 c.self.invariant.3 in
    let short = c.self.told.0.1 in
    omega (arith, within, short)
