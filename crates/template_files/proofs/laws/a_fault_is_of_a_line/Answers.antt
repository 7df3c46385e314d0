use Rattle.template_files.proofs.FaultLines.{fault-line}
use Rattle.template_files.proofs.laws.a_fault_is_of_a_line.Goals as goal

pub returns : goal.returns
returns c = fault-line
