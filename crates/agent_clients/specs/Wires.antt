-- How one request is asked: what leaves for the wire, for how long is waited, and what comes of what is told.
use Rattle.std.specs.Prelude.{◌≡◌, ◌⊎◌, ℕ, Bool, true, false, List, [], ◌∷◌, ◌++◌, take, Option, Some, None, Result, Ok, Err}
use Rattle.std.specs.Bool.{OnTrue, OnFalse}
use Rattle.std.specs.Option.{ok_or, option_map_or}
use Rattle.slp_stream.specs.Framing.{Frames, frames_left, next_answer}
use Rattle.slp_stream.specs.declared.fault.FrameFault.{FrameFault}
use Rattle.agent_clients.specs.Asking.{Happening, Passed, Came, Streamed, Broke, Stepped, first_step, items_of, started, stepped_by}
use Rattle.agent_clients.specs.Runs.{Mays, Runs}
use Rattle.agent_clients.specs.declared.asker.Asker.{Asker}
use Rattle.agent_clients.specs.declared.fault.ClientFault.{ClientFault}
use Rattle.agent_clients.specs.declared.fault.ClientFault.TheVariants as fault
use Rattle.agent_clients.specs.declared.items.Items.{Items}
use Rattle.agent_clients.specs.declared.user_agent.Stage.TheVariants.{Unstarted}
use Rattle.agent_clients.specs.declared.user_agent.Step.{Step}
use Rattle.agent_clients.specs.declared.user_agent.Step.TheVariants.{Send, OpenStream, Wait, Done}

pub data Deed : Type 0 where
  -- the clock told the moment, in seconds since the request began
  Told : Result ℕ ClientFault → Deed
  -- these bytes were sent to the peer as a datagram
  Sent : List ℕ → Result (Unit {0}) ClientFault → Deed
  -- until a moment a datagram of the peer was waited for
  Waited : ℕ → Result (Option (List ℕ)) ClientFault → Deed
  -- a stream to the peer was opened and these bytes were written there, or not
  Opened : List ℕ → Bool → Deed
  -- until a moment bytes of the stream were waited for
  Read : ℕ → Result (Option (List ℕ)) ClientFault → Deed

-- what may happen at a wire
abbrev pub Wires : Type 0 → Type 1
Wires W = Mays W Deed

-- what a call came to that waits for bytes
abbrev pub received : Result (Option ℕ) ClientFault → List ℕ → Result (Option (List ℕ)) ClientFault
received (Ok None) buffer = Ok None
received (Ok (Some count)) buffer = Ok (Some (take count buffer))
received (Err e) buffer = Err e

-- what one who asks is about
pub data Course : Type 0 where
  -- to start, once the clock is looked at
  Starts : Asker → Course
  -- to do what its agent answered last
  Acts : Asker → Result Step ClientFault → Course
  -- to look at the clock, and to tell its agent what happened
  Tells : Asker → Happening → Course
  -- the same of bytes that came on the stream
  Takes : Asker → List ℕ → Course

-- ---- what its agent is told

-- its agent after a step, and what that answered
abbrev pub acts : Asker → Stepped → Course
acts a s = Acts (record a { agent = record a.agent { stage = s.stage } }) s.answer

-- its agent is told what happened at a moment, unless no memory is left
abbrev pub IsTold : ℕ → Asker → Happening → Course → Type 0
IsTold now a happening after = (after ≡ Acts a (Err fault.NoMemory)) ⊎ (after ≡ acts a (stepped_by a.agent now happening))

-- there are the items, or the fault
abbrev pub is_over : Result Step ClientFault → Bool
is_over (Ok Done) = true
is_over (Ok Send) = false
is_over (Ok OpenStream) = false
is_over (Ok (Wait moment)) = false
is_over (Err e) = true

abbrev pub with_frames : Asker → Frames → Asker
with_frames a frames = record a { framer = frames }

-- no whole message is left: its agent is told of the time, or of a length that no message has
abbrev pub IsTaken : ℕ → Asker → Option (Result (List ℕ) FrameFault) → Course → Type 0
IsTaken now a None after = IsTold now a Passed after
IsTaken now a (Some (Ok m)) after = ⊥
IsTaken now a (Some (Err e)) after = IsTold now (with_frames a (frames_left a.framer)) Broke after

-- These whole messages are taken off the stream, and its agent is told of one after the other, until it is over or none is left.
abbrev pub TakesAll : ℕ → Asker → List (List ℕ) → Course → Type 0
TakesAll now a [] after = IsTaken now a (next_answer a.framer) after
TakesAll now a (m ∷ ms) after = (b : Asker) × (answer : Result Step ClientFault) × (next_answer a.framer ≡ Some (Ok m))
    × IsTold now (with_frames a (frames_left a.framer)) (Streamed m) (Acts b answer)
    × OnTrue (is_over answer) ((ms ≡ []) × (after ≡ Acts b answer)) × OnFalse (is_over answer) (TakesAll now b ms after)

-- a stream to which bytes came, unless it is refused
abbrev pub fed : Frames → List ℕ → Frames
fed f piece = option_map_or (λ _. f) f.refused (record f { waiting = f.waiting ++ piece })

-- bytes came on the stream
abbrev pub TakesPiece : ℕ → Asker → List ℕ → Course → Type 0
TakesPiece now a piece after = (after ≡ Acts a (Err fault.NoMemory)) ⊎ ((ms : List (List ℕ)) × TakesAll now (with_frames a (fed a.framer piece)) ms after)

-- ---- what is done

-- The clock is looked at, and what follows is so at the moment that it tells. Where it fails, that is the end.
abbrev pub AtMoment : Asker → (ℕ → Course → Type 0) → Deed → Course → Type 0
AtMoment a follows (Told (Ok now)) after = follows now after
AtMoment a follows (Told (Err e)) after = after ≡ Acts a (Err e)
AtMoment a follows _ after = ⊥

-- what comes of a datagram that was sent, or waited for, and of bytes of the stream
abbrev pub after_sending : Asker → Result (Unit {0}) ClientFault → Course
after_sending a (Ok x) = Tells a Passed
after_sending a (Err e) = Acts a (Err e)

abbrev pub after_waiting : Asker → Result (Option (List ℕ)) ClientFault → Course
after_waiting a (Ok None) = Tells a Passed
after_waiting a (Ok (Some bytes)) = Tells a (Came bytes)
after_waiting a (Err e) = Acts a (Err e)

abbrev pub after_opening : Asker → Bool → Course
after_opening a true = Tells (record a { is_open = true }) Passed
after_opening a false = Tells a Broke

abbrev pub after_reading : Asker → Result (Option (List ℕ)) ClientFault → Course
after_reading a (Ok None) = Tells a Passed
after_reading a (Ok (Some bytes)) = Takes a bytes
after_reading a (Err e) = Tells a Broke

-- A step is done once: the request is sent, whole, or a stream is opened for it, or it is waited until the moment that the agent says, on the stream once one is open.
abbrev pub DoesStep : Asker → Step → Deed → Course → Type 0
DoesStep a Send (Sent bytes told) after = (bytes ≡ a.agent.request) × (after ≡ after_sending a told)
DoesStep a OpenStream (Opened bytes told) after = (bytes ≡ a.agent.request) × (after ≡ after_opening a told)
DoesStep a (Wait moment) (Waited until told) after = (a.is_open ≡ false) × (until ≡ moment) × (after ≡ after_waiting a told)
DoesStep a (Wait moment) (Read until told) after = (a.is_open ≡ true) × (until ≡ moment) × (after ≡ after_reading a told)
DoesStep a _ _ after = ⊥

-- what one who asks does, and what it is about then
abbrev pub Does : Course → Deed → Course → Type 0
Does (Starts a) d after = AtMoment a (λ now c. c ≡ Acts (record a { agent = record a.agent { stage = started now a.agent.request } }) (Ok (first_step a.agent.request))) d after
Does (Acts a (Ok step)) d after = DoesStep a step d after
Does (Acts a (Err e)) d after = ⊥
Does (Tells a happening) d after = AtMoment a (λ now. IsTold now a happening) d after
Does (Takes a piece) d after = AtMoment a (λ now. TakesPiece now a piece) d after

-- ---- the whole

-- one who is to ask this request
abbrev pub asker_of : List ℕ → Asker
asker_of request = record { agent = record { request = request; stage = Unstarted }; framer = record { limit = 65535; waiting = []; refused = None }; is_open = false }

-- what was asked comes to this
abbrev pub IsOutcome : Asker → Result Step ClientFault → Result Items ClientFault → Type 0
IsOutcome a (Ok Done) result = result ≡ ok_or (items_of a.agent.stage) fault.Io
IsOutcome a (Ok _) result = ⊥
IsOutcome a (Err e) result = result ≡ Err e

-- A request is asked by these deeds and no others, and comes to this.
abbrev pub Asks : List ℕ → List Deed → Result Items ClientFault → Type 0
Asks request ds result = (a : Asker) × (answer : Result Step ClientFault) × Runs Does (Starts (asker_of request)) ds (Acts a answer) × IsOutcome a answer result
