use Rattle.std.proofs.Common.{rules}
use Rattle.replay_program.proofs.OpeningTexts.{are_opening, no_fault}
use Rattle.replay_program.proofs.opening.rules.Goals as goal

pub unreachable-requires : goal.unreachable-requires
unreachable-requires c = no_fault c.in-Err-Shape.field-0 (search rules) c.in-Err-Shape.ensures

pub returns-in-Ok : goal.returns-in-Ok
returns-in-Ok c = are_opening c.in-Ok.rules c.in-Ok.ensures
