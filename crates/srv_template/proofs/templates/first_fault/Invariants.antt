use Rattle.std.proofs.Common.{◌≡◌, drop}
use Rattle.srv_template.specs.Conformity as spec
use Rattle.srv_template.proofs.templates.first_fault.Given as goal

-- none of the definitions so far has a fault
abbrev pub invariant-loop-definition : goal.invariant-loop-definition
invariant-loop-definition l = spec.first_fault l.definition (drop l.definition l.definitions) l.attributes ≡ spec.first_fault 0 l.definitions l.attributes
