use Rattle.std.proofs.Common.{false, refl}
use Rattle.slp_text.specs.Escapes.{is_refused}
use Rattle.slp_text.proofs.EscapedTexts.{read_again, refused_free}
use Rattle.slp_text.proofs.laws.what_is_escaped_is_read_again.Goals as goal

pub returns-clause-there : goal.returns-clause-there
returns-clause-there c = λ place. read_again place (is_refused place) (refused_free place)

pub returns-clause-anywhere : goal.returns-clause-anywhere
returns-clause-anywhere c = λ place. read_again place (λ _. false) (λ _ _. refl)
