use Rattle.attr_values.proofs.PrintedValues.{value-read_again}
use Rattle.attr_values.proofs.laws.values_are_read_again.Goals as goal

pub returns : goal.returns
returns c = value-read_again
