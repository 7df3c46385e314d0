use Rattle.std.proofs.Common.{subst, arith}
use Rattle.slp_fields.specs.Steps.{Gives}
use Rattle.slp_wire.proofs.Messages.{answer_is_found, marked_is_read}
use Rattle.slp_wire.proofs.reading.decode.Goals as goal

pub returns-clause-found : goal.returns-clause-found
returns-clause-found c = answer_is_found (λ m. m) c.args.bytes.now c.message_of.result (λ i. omega (arith, c.type_inv.bytes i)) c.message_of.ensures

pub returns-clause-only : goal.returns-clause-only
returns-clause-only c = λ m s. subst (λ f. Gives (λ n. n) c.message_of.result f) (marked_is_read c.args.bytes.now m s) c.message_of.ensures
