-- What the reading of a line answers.
use Rattle.std.specs.Prelude.{◌≡◌, Some, None}
use Rattle.slp_script.specs.Lines.{Line}
use Rattle.slp_script.specs.Commands.{order_of, block_of}
use Rattle.slp_script.specs.declared.reading.Reading as code
use Rattle.slp_script.specs.declared.reading.Reading.TheVariants.{Order, Begins, Fault}

-- this is what the line is, where no block is open
unfoldable pub IsReading : Line → code.Reading → Type 0
IsReading l (Order order) = order_of l ≡ Some order
IsReading l (Begins block) = block_of l ≡ Some block
IsReading l Fault = (order_of l ≡ None) × (block_of l ≡ None)
