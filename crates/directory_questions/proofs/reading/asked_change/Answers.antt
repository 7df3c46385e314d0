use Rattle.std.proofs.Common.{◌≡◌, ℕ, subst}
use Rattle.std.specs.Prelude.{◌⊎◌, Ok}
use Rattle.slp_messages.specs.Views.{message_in}
use Rattle.slp_wire.proofs.Messages.{answer_is_found}
use Rattle.directory_questions.proofs.Readings.{is_read}
use Rattle.directory_questions.proofs.Requests.{asks_change}
use Rattle.directory_questions.proofs.reading.asked_change.Goals as goal

pub read_change-requires-clause-function : goal.read_change-requires-clause-function
read_change-requires-clause-function c =
    let heard = c.args.heard.now in
    subst (λ (f : ℕ). (f ≡ 3) ⊎ (f ≡ 4)) heard.asked (asks_change heard.request c.requires)

pub returns-in-Ok : goal.returns-in-Ok
returns-in-Ok c =
    let bytes = c.args.heard.now.call.now.bytes.now in
    is_read bytes (message_in c.in-Ok.change) (answer_is_found message_in bytes (Ok c.in-Ok.change) c.args.heard.now.call.now.are_bytes c.in-Ok.ensures) c.in-Ok.ensures
