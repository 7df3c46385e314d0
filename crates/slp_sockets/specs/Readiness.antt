-- Which sockets are ready.
use Rattle.std.specs.Prelude.{ℕ, List, map}
use Rattle.mio.specs.Event.{event_token}
use Rattle.mio.specs.Events.{items}
use Rattle.mio.specs.declared.event.event.Event.{Event}
use Rattle.mio.specs.declared.event.events.Events.{Events}

-- the token of the socket that an event is about
abbrev pub token_of : Event → ℕ
token_of e = (event_token e).0

-- those of events, in their order
abbrev pub tokens_of : {A : Type 0} → Events A → List ℕ
tokens_of events = map token_of (items events)
