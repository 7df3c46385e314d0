-- What comes of a message: the bytes of a reply, and the verdict (RFC 2608, section 7).
use Rattle.std.specs.Prelude.{ℕ, Bool, false, not, ◌==◌, ◌&&◌, ◌||◌, List, [], ◌∷◌, Option, Some, None, if◌then◌else◌}
use Rattle.std.specs.Option.{option_map_or}
use Rattle.slp_headers.specs.Headers.{Heading, has_flag, refusal_bytes, reply_function_of}
use Rattle.slp_headers.specs.declared.flag.TheConstants.{MULTICAST}
use Rattle.slp_fields.specs.declared.fault.WireFault.{WireFault}
use Rattle.slp_fields.specs.declared.fault.WireFault.TheVariants as fault
use Rattle.slp_messages.specs.declared.code.TheConstants.{OK}
use Rattle.directory_judge.specs.Judgements.{Judgement, Accepts, Ignores, Waits, Denies, by_step, code_by}
use Rattle.directory_judge.specs.declared.reason.Because.{Because}
use Rattle.directory_judge.specs.declared.reason.Decider.{Decider}
use Rattle.directory_judge.specs.declared.reason.Decider.TheVariants as decider
use Rattle.directory_questions.specs.Requests.{is_question_function}

-- the bytes of a reply, none where none is sent; and the code, and who decided on what, where there is a verdict
pub record Outcome : Type 0 where
  pub reply : List ℕ
  pub verdict : Option (ℕ × Because)

-- no reply, and no verdict
abbrev pub silence : Outcome
silence = record { reply = []; verdict = None }

-- a reply, with its code and who decided on what
abbrev pub outcome : List ℕ → ℕ → Because → Outcome
outcome reply code because = record { reply = reply; verdict = Some (code, because) }

-- the code of the reply, where one is sent
abbrev pub code_sent : Outcome → Option ℕ
code_sent r = elim r.reply [ [] ↦ None | b ∷ bs ↦ elim r.verdict [ None ↦ None | Some v ↦ Some v.0 ] ]

-- ---- what was sent to many

-- a question that was sent to many
abbrev pub is_to_many : Heading → Bool
is_to_many h = has_flag MULTICAST h.flags && is_question_function h.function

-- what is sent of a reply with a code, which may have nothing in it: a question that was sent to many gets no error and
-- nothing empty. The verdict stands.
abbrev pub sent_of : Heading → ℕ → Bool → List ℕ → List ℕ
sent_of h code is_empty reply = if is_to_many h && (not (code == OK) || is_empty) then [] else reply

-- ---- replies that are a code alone

-- a code and why, in answer to a message of a function that is answered
abbrev pub code_outcome_as : Heading → ℕ → Because → ℕ → Outcome
code_outcome_as h code because function =
    outcome (sent_of h code false (refusal_bytes function code h.xid h.language)) code because

-- a reply that has a code alone, where the function of the message has a reply
abbrev pub code_outcome : Heading → ℕ → Because → Outcome
code_outcome h code because = option_map_or (code_outcome_as h code because) (reply_function_of h.function) silence

-- the denial of a step that knows no more than who decided
abbrev pub denial_outcome : Heading → Decider → Outcome
denial_outcome h d = code_outcome h (code_by d) (by_step d None)

-- ---- bytes that are not a message that is read

-- the name of the step that asks for a fault, where it is answered
abbrev pub decider_of_fault : WireFault → Option Decider
decider_of_fault fault.Version = Some decider.Version
decider_of_fault fault.Parse = Some decider.Parse
decider_of_fault fault.Auth = Some decider.Auth
decider_of_fault fault.Option = Some decider.Option
decider_of_fault fault.NoHeader = None
decider_of_fault fault.Unknown = None
decider_of_fault fault.NoMemory = None
decider_of_fault fault.TooLong = None

-- the reply to what is not read as a message, if the fault is one that is replied to
abbrev pub fault_outcome : Heading → WireFault → Outcome
fault_outcome h e = option_map_or (denial_outcome h) (decider_of_fault e) silence

-- bytes that found no memory, where their header is readable
abbrev pub refusal_outcome : Option Heading → Outcome
refusal_outcome heading = option_map_or (λ h. denial_outcome h decider.Memory) heading silence

-- ---- what was judged

-- the acknowledgement of a registration or a withdrawal, by what it was judged
abbrev pub acknowledgement_of : Heading → Judgement → Outcome
acknowledgement_of h (Accepts c because) = code_outcome h OK because
acknowledgement_of h Ignores = code_outcome h OK (by_step decider.Nobody None)
acknowledgement_of h (Denies code because) = code_outcome h code because
acknowledgement_of h Waits = silence
