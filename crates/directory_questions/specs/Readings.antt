-- What bytes that come in are read as.
use Rattle.std.specs.Prelude.{◌≡◌, ℕ, Bool, false, List, Ok, Err}
use Rattle.slp_messages.specs.Messages.{IsMessage, function_of}
use Rattle.slp_wire.specs.Reading.{reading}
use Rattle.slp_fields.specs.declared.fault.WireFault.{WireFault}
use Rattle.slp_messages.specs.declared.message.Message.{Message}
use Rattle.directory_questions.specs.Answers.{is_change_of, question_of}
use Rattle.directory_questions.specs.Requests.{is_change_function}
use Rattle.directory_questions.specs.declared.question.Question.{Question}

-- a registration or a withdrawal, by its function
abbrev pub may_change : Message → Bool
may_change m = is_change_function (function_of m)

-- the bytes are read as this message, and their header says whether it may change something
pub record IsRead (bytes : List ℕ) (m : Message) : Type 0 where
  pub read : reading bytes ≡ Ok m
  pub sound : IsMessage m
  pub change : is_change_of bytes ≡ may_change m

-- the bytes are read as a message that asks for no change, and this is what it asks at an address
pub record IsAsked (own : ℕ) (bytes : List ℕ) (q : Question) : Type 0 where
  pub sent : Message
  pub read : reading bytes ≡ Ok sent
  pub still : may_change sent ≡ false
  pub asks : q ≡ question_of own sent

-- the bytes are not a message that is read, by this fault
abbrev pub IsUnread : List ℕ → WireFault → Type 0
IsUnread bytes e = reading bytes ≡ Err e
