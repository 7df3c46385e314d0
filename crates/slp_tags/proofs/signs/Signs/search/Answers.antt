use Rattle.std.proofs.Common.{length, refl, sym, subst, ap, ◌∙◌}
use Rattle.slp_tags.specs.Searches.{ArePieceFalls}
use Rattle.slp_tags.specs.SignCodes.{signs_in, AreCodes}
use Rattle.slp_tags.proofs.signs.Signs.search.Goals as goal

pub invariant_of-result : goal.invariant_of-result
invariant_of-result c =
    let codes = c.deref.ensures.value in
    let falls = c.deref-2.ensures.value in (
      subst AreCodes (sym codes) c.self.invariant.0,
      ap length falls ∙ c.self.invariant.1 ∙ ap length (sym codes),
      subst (λ p. ArePieceFalls (signs_in p) c.deref-2.result.now) (sym codes) (subst (ArePieceFalls (signs_in c.self.inside.codes.items)) (sym falls) c.self.invariant.2),
      refl,
    )
