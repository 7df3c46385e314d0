use Rattle.std.proofs.Common.{◌≡◌, map}
use Rattle.attr_operands.specs.Operands.{operand_of}
use Rattle.template_files.proofs.values.operands.Given as goal

abbrev pub invariant-loop-value : goal.invariant-loop-value
invariant-loop-value l = l.operands.items ≡ map operand_of l.yielded
