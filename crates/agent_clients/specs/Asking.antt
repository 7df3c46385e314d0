-- How a user agent asks (RFC 2608, section 6.3): when it sends, and what it makes of what comes.
use Rattle.std.specs.Prelude.{ℕ, ◌+◌, nat_le, nat_lt, min, List, length, Option, Some, None, Result, Ok, Err, if◌then◌else◌}
use Rattle.agent_clients.specs.Replies.{by_datagram, by_stream}
use Rattle.agent_clients.specs.declared.fault.ClientFault.{ClientFault}
use Rattle.agent_clients.specs.declared.fault.ClientFault.TheVariants as fault
use Rattle.agent_clients.specs.declared.items.Items.{Items}
use Rattle.agent_clients.specs.declared.replies.Brought.{Brought}
use Rattle.agent_clients.specs.declared.replies.Brought.TheVariants.{Nothing, Cut, Replied}
use Rattle.agent_clients.specs.declared.user_agent.Event.{Event}
use Rattle.agent_clients.specs.declared.user_agent.Event.TheVariants.{Tick, Datagram, Stream, StreamFailed}
use Rattle.agent_clients.specs.declared.user_agent.Stage.{Stage}
use Rattle.agent_clients.specs.declared.user_agent.Stage.TheVariants.{Unstarted, ByDatagram, ByStream, Finished, Failed}
use Rattle.agent_clients.specs.declared.user_agent.Step.{Step}
use Rattle.agent_clients.specs.declared.user_agent.Step.TheVariants.{Send, OpenStream, Wait, Done}

-- the bytes of the request, and how far the agent is with it
pub record Asking : Type 0 where
  pub request : List ℕ
  pub stage : Stage

-- what an agent answers, and how far it is then
pub record Stepped : Type 0 where
  pub answer : Result Step ClientFault
  pub stage : Stage

-- a request with more bytes is asked on a stream
abbrev pub longest_sent : ℕ
longest_sent = 1400

-- after so many seconds without a reply it gives up
abbrev pub patience : ℕ
patience = 15

abbrev pub last_moment : ℕ
last_moment = 4294967295

-- A request is sent 0, 2, 6 and 14 seconds after the start: the first of these moments after the last sending, or else the one at which it gives up.
abbrev pub next_due : ℕ → ℕ → ℕ
next_due start last =
    if nat_lt last (start + 2) then start + 2
    else (if nat_lt last (start + 6) then start + 6
    else (if nat_lt last (start + 14) then start + 14
    else start + patience))

-- nothing is due before this moment, or the last that there is
abbrev pub waits_for : ℕ → Result Step ClientFault
waits_for due = Ok (Wait (min due last_moment))

abbrev pub fails : ClientFault → Stepped
fails e = record { answer = Err e; stage = Failed e }

-- where the agent stays as it is; before its start nothing is due
abbrev pub stays : Stage → Stepped
stays (Finished items) = record { answer = Ok Done; stage = Finished items }
stays (Failed e) = record { answer = Err e; stage = Failed e }
stays (ByDatagram start last) = record { answer = waits_for (next_due start last); stage = ByDatagram start last }
stays (ByStream since) = record { answer = waits_for (since + patience); stage = ByStream since }
stays Unstarted = record { answer = waits_for last_moment; stage = Unstarted }

-- What is due at a moment: giving up, then one sending for all that are due, and else waiting.
abbrev pub due_at : ℕ → Stage → Stepped
due_at now (ByDatagram start last) =
    if nat_le (start + patience) now then fails fault.GaveUp
    else (if nat_le (next_due start last) now then record { answer = Ok Send; stage = ByDatagram start now }
    else stays (ByDatagram start last))
due_at now (ByStream since) = if nat_le (since + patience) now then fails fault.GaveUp else stays (ByStream since)
due_at now (Finished items) = stays (Finished items)
due_at now (Failed e) = stays (Failed e)
due_at now Unstarted = stays Unstarted

-- what comes of a reply: what it brings is answered before what is due
abbrev pub taken : ℕ → Stage → Brought → Stepped
taken now stage Nothing = due_at now stage
taken now stage Cut = record { answer = Ok OpenStream; stage = ByStream now }
taken now stage (Replied (Ok items)) = record { answer = Ok Done; stage = Finished items }
taken now stage (Replied (Err e)) = fails e

-- what happened, by its bytes
pub data Happening : Type 0 where
  -- time went by
  Passed : Happening
  -- a datagram came
  Came : List ℕ → Happening
  -- a whole message came on the stream
  Streamed : List ℕ → Happening
  -- the stream failed, or ended before the reply
  Broke : Happening

abbrev pub happening_of : Event → Happening
happening_of Tick = Passed
happening_of (Datagram bytes) = Came bytes.now
happening_of (Stream bytes) = Streamed bytes.now
happening_of StreamFailed = Broke

-- what comes of it while the agent asks by datagrams
abbrev pub by_datagrams : List ℕ → ℕ → Stage → Happening → Stepped
by_datagrams request now stage Passed = due_at now stage
by_datagrams request now stage (Came bytes) = taken now stage (by_datagram request bytes)
by_datagrams request now stage (Streamed bytes) = taken now stage (by_stream request bytes)
by_datagrams request now stage Broke = fails fault.Io

-- while it asks on a stream, datagrams are skipped
abbrev pub by_streams : List ℕ → ℕ → Stage → Happening → Stepped
by_streams request now stage Passed = due_at now stage
by_streams request now stage (Came bytes) = due_at now stage
by_streams request now stage (Streamed bytes) = taken now stage (by_stream request bytes)
by_streams request now stage Broke = fails fault.Io

-- What is answered to what happened at a moment, and how far the agent is then. What was answered at the end is answered again each time later.
abbrev pub stepped_from : List ℕ → ℕ → Stage → Happening → Stepped
stepped_from request now (ByDatagram start last) happening = by_datagrams request now (ByDatagram start last) happening
stepped_from request now (ByStream since) happening = by_streams request now (ByStream since) happening
stepped_from request now (Finished items) happening = stays (Finished items)
stepped_from request now (Failed e) happening = stays (Failed e)
stepped_from request now Unstarted happening = stays Unstarted

abbrev pub stepped_by : Asking → ℕ → Happening → Stepped
stepped_by a now happening = stepped_from a.request now a.stage happening

abbrev pub stepped : Asking → ℕ → Event → Stepped
stepped a now event = stepped_by a now (happening_of event)

-- the first step: the request is sent, unless it is too long for a datagram
abbrev pub started : ℕ → List ℕ → Stage
started now request = if nat_lt longest_sent (length request) then ByStream now else ByDatagram now now

abbrev pub first_step : List ℕ → Step
first_step request = if nat_lt longest_sent (length request) then OpenStream else Send

-- what was found
abbrev pub items_of : Stage → Option Items
items_of (Finished items) = Some items
items_of Unstarted = None
items_of (ByDatagram start last) = None
items_of (ByStream since) = None
items_of (Failed e) = None
