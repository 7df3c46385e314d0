use Rattle.site_opening.proofs.TakenTexts.{taken_is_zero}
use Rattle.site_opening.proofs.laws.what_is_taken_starts.Goals as goal

pub returns : goal.returns
returns c = taken_is_zero
