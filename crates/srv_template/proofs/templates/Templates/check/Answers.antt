use Rattle.std.proofs.Common.{◌≡◌, rules}
use Rattle.srv_template.specs.Conformity.{template_fault}
use Rattle.srv_template.proofs.Conformities.{conforms-answer}
use Rattle.srv_template.proofs.templates.Templates.check.Goals as goal

pub returns-clause-conforms : goal.returns-clause-conforms
returns-clause-conforms c =
    let value : c.first_fault.result ≡ template_fault c.args.self.now c.args.kind.now c.args.attributes.now = search rules in
    conforms-answer c.first_fault.result c.args.self.now c.args.kind.now c.args.attributes.now value
