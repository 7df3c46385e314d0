use Rattle.std.proofs.Common.{length, subst, ap, ◌∙◌}
use Rattle.slp_tags.specs.Searches.{ArePieceFalls}
use Rattle.slp_tags.specs.SignCodes.{signs_in}
use Rattle.slp_tags.proofs.signs.Signs.new.Goals as goal

pub invariant_of-result : goal.invariant_of-result
invariant_of-result c = (
  c.in_ok-codes.ensures.codes,
  c.in_ok-falls.ensures.long ∙ ap length c.deref.ensures.value,
  subst (λ p. ArePieceFalls (signs_in p) c.in_ok-falls.falls.items) c.deref.ensures.value c.in_ok-falls.ensures.falls,
)
