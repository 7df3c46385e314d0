-- What a builder spells is read again.
use Rattle.std.proofs.Common.{ℕ, ◌≤◌, List, [], length, sym, ap, ◌∙◌, subst}
use Rattle.std.proofs.lemmas.List.{append-nil}
use Rattle.slp_messages.specs.declared.header.Header.{Header}
use Rattle.slp_messages.specs.declared.message.Message.{Message}
use Rattle.slp_messages.specs.declared.message.Message.TheVariants as message
use Rattle.slp_messages.specs.declared.message.Registration.{Registration}
use Rattle.slp_wire.specs.Reading.{reading}
use Rattle.slp_wire.specs.Spelling.{plain_bytes, longest}
use Rattle.slp_wire.proofs.Messages.{is_read_back}
use Rattle.agent_clients.specs.Keeping.{IsRegistration}
use Rattle.agent_clients.specs.Requests.{IsSpelled}

pub registration_is_read : (h : Header) (r : Registration) (bytes : List ℕ) → IsSpelled (message.Registration h r) bytes → IsRegistration bytes
registration_is_read h r bytes s =
    let m : Message = message.Registration h r in
    let short : length (plain_bytes m) ≤ longest = subst (λ (b : List ℕ). length b ≤ longest) s.spelled s.short in
    (h, r, ap reading (s.spelled ∙ sym (append-nil (plain_bytes m))) ∙ is_read_back m [] s.sound short)
