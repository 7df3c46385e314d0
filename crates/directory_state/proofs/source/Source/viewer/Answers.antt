use Rattle.std.proofs.Common.{subst}
use Rattle.directory_state.specs.Sources.{IsSourceOf}
use Rattle.directory_state.proofs.source.Source.viewer.Goals as goal

pub returns-in-Part-clause-viewer : goal.returns-in-Part-clause-viewer
returns-in-Part-clause-viewer g c = λ t s is. c.viewer-in-Part.ensures.viewer t s (subst (λ x. IsSourceOf t s x) c.in-Part.is is)
