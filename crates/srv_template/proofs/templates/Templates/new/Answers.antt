use Rattle.std.proofs.Common.{ap, ◌∙◌}
use Rattle.srv_template.specs.Templates.{templates_stored}
use Rattle.srv_template.proofs.StoredTemplates.{none-stored}
use Rattle.srv_template.proofs.templates.Templates.new.Goals as goal

pub returns : goal.returns
returns c = ap templates_stored c.new.ensures.items ∙ none-stored
