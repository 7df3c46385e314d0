-- What the exchanges of a loop stand for.
use Rattle.std.specs.Prelude.{◌≡◌, ℕ, List, [], take, flat_map, map, Option, Some, None, Result, Ok, Err}
use Rattle.std.specs.declared.io.Error.{Error}
use Rattle.slp_sockets.specs.Ports.{Datagram, Happening, Came, Paused, Says, owed}
use Rattle.slp_sockets.specs.Serving.{refused_reply}
use Rattle.slp_sockets.specs.declared.exchange.Back.{Back}
use Rattle.slp_sockets.specs.declared.exchange.Back.TheVariants.{Nothing, Answered, Refused}
use Rattle.slp_sockets.specs.declared.exchange.Exchange.{Exchange}
use Rattle.slp_sockets.specs.declared.exchange.Rest.{Rest}
use Rattle.slp_sockets.specs.declared.exchange.Rest.TheVariants.{More}
use Rattle.slp_sockets.specs.declared.fault.LoopFault.{LoopFault}

-- the datagram that came
abbrev pub datagram : Exchange → Datagram
datagram e = record { peer = e.from; bytes = take e.length e.buffer.items }

-- what the datagrams of a loop are to contracts: their port, and those that are put aside, in the order in which they came
pub record Mailbox (P : Type 0) : Type 0 where
  pub port : P
  pub aside : List Datagram

-- those of some exchanges
abbrev pub datagrams : List Exchange → List Datagram
datagrams = map datagram

-- what a call that receives into an exchange comes to
abbrev pub received_into : {A : Type 0} → Result A Error → Exchange → Happening
received_into (Ok x) e = Came (datagram e)
received_into (Err x) e = Paused x

-- the bytes that go back
abbrev pub back_by : Back → List ℕ → List ℕ → List ℕ
back_by Nothing message answer = []
back_by Answered message answer = answer
back_by Refused message answer = refused_reply message

abbrev pub back : Exchange → List ℕ
back e = back_by e.back (datagram e).bytes e.answer.bytes.items

-- what is sent
abbrev pub dues : Exchange → List Datagram
dues e = owed e.from (back e)

abbrev pub all_dues : List Exchange → List Datagram
all_dues = flat_map dues

-- why no more were received than these of so many: as many came, or there was a pause
abbrev pub Stopped : ℕ → ℕ → Result Rest LoopFault → Option Error → Type 0
Stopped count all told None = (count ≡ all) × (told ≡ Ok More)
Stopped count all told (Some e) = Says e told
