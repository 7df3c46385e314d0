use Rattle.std.proofs.Common.{◌≡◌, take}
use Rattle.srv_template.proofs.templates.Templates.share.Given as goal

abbrev pub invariant-loop-template : goal.invariant-loop-template
invariant-loop-template l = l.shared.items ≡ take l.template-index l.template-items
