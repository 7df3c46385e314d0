-- What a loop does to its streams and its server.
use Rattle.std.specs.Prelude.{◌≡◌, ◌≢◌, ◌⊎◌, ℕ, ⊤, Bool, true, false, List, [], ◌∷◌, Option, Some, None, IfSome, IsSomeAnd, Result, Ok, Err, if◌then◌else◌}
use Rattle.std.specs.declared.net.socket_addr.SocketAddr.{SocketAddr}
use Rattle.slp_sockets.specs.Handing.{Joins}
use Rattle.slp_sockets.specs.Holding.{Seat, Looping, seat_at}
use Rattle.slp_sockets.specs.Linking.{Link}
use Rattle.slp_sockets.specs.Ports.{ServesRound, TakesUp, asker_of}
use Rattle.slp_sockets.specs.Serving.{Manner}
use Rattle.slp_sockets.specs.Streaming.{Talk, Goes}
use Rattle.slp_sockets.specs.declared.connection.Next.{Next}
use Rattle.slp_sockets.specs.declared.connection.Next.TheVariants.{More, Blocked, Closed}
use Rattle.slp_sockets.specs.declared.connection.Stage.TheVariants.{Reading}
use Rattle.slp_sockets.specs.declared.fault.LoopFault.{LoopFault}
use Rattle.slp_sockets.specs.declared.fault.LoopFault.TheVariants.{Io, NoMemory}

-- the stream with each key, and the server
pub record Tended (S : Type 0) : Type 0 where
  pub seats : List (Option Seat)
  pub server : S

abbrev pub tended : {S : Type 0} → Looping S → Tended S
tended l = record { seats = l.seats; server = l.server }

-- a connection with a peer, of which nothing was read
abbrev pub fresh : ℕ → Link
fresh asker = record { asker = asker; unserved = []; waiting = []; stage = Reading; moved = false }

-- one that came from there, at a moment
abbrev pub IsNewcomer : SocketAddr → ℕ → Seat → Type 0
IsNewcomer from now s = (asker : ℕ) × (asker_of from ≡ Some asker) × (s ≡ record { link = fresh asker; moved = now })

-- each stream that is there was there as it is, or is this one
abbrev pub Keeps : Seat → List (Option Seat) → List (Option Seat) → Type 0
Keeps stream before after = (key : ℕ) (s : Seat) → seat_at after key ≡ Some s → (seat_at before key ≡ Some s) ⊎ (s ≡ stream)

-- each stream that is there was there as it is, or came from there
abbrev pub Admits : SocketAddr → ℕ → List (Option Seat) → List (Option Seat) → Type 0
Admits from now before after = (key : ℕ) (s : Seat) → seat_at after key ≡ Some s → (seat_at before key ≡ Some s) ⊎ IsNewcomer from now s

-- each stream that is there was there as it is, or came
abbrev pub ComeOrGo : List (Option Seat) → List (Option Seat) → Type 0
ComeOrGo before after = (key : ℕ) (s : Seat) → seat_at after key ≡ Some s → (seat_at before key ≡ Some s) ⊎ (s.link ≡ fresh s.link.asker)

-- whether it is closed, by what its steps came to
abbrev pub is_closed : Result Next LoopFault → Bool
is_closed (Ok More) = false
is_closed (Ok Blocked) = false
is_closed (Ok Closed) = true
is_closed (Err e) = true

-- the tokens of a loop's own sockets; a stream's is its key
abbrev pub datagrams_token : ℕ
datagrams_token = 0xfffffffffffffffe

abbrev pub listener_token : ℕ
listener_token = 0xffffffffffffffff

-- what a turn is told of it: that memory was wanting. What else failed is the stream's own.
abbrev pub lack_of : Result Next LoopFault → Result ⊤ LoopFault
lack_of (Ok next) = Ok tt
lack_of (Err Io) = Ok tt
lack_of (Err NoMemory) = Err NoMemory

-- what a turn tells of what was served: that memory was wanting also where it could not wait
abbrev pub turn_told : Bool → Result Bool LoopFault → Result Bool LoopFault
turn_told true told = told
turn_told false (Ok true) = Err NoMemory
turn_told false (Ok false) = Ok false
turn_told false (Err e) = Err e

-- all was served that was ready, by what a turn tells: the loop was not to end, and no socket of its own was lost
abbrev pub IsWhole : Result Bool LoopFault → Type 0
IsWhole (Ok all) = all ≡ true
IsWhole (Err NoMemory) = ⊤
IsWhole (Err Io) = ⊥

-- What is there of a stream by what its steps came to: it stays where it is blocked, and is closed where it ended or failed. One that may go on stays where it can
-- be waited for.
abbrev pub Remains : Link → Result Next LoopFault → Option Seat → Type 0
Remains end (Ok More) slot = IfSome slot (λ s. s.link ≡ record end { moved = false })
Remains end (Ok Blocked) slot = IsSomeAnd slot (λ s. s.link ≡ record end { moved = false })
Remains end (Ok Closed) slot = slot ≡ None
Remains end (Err e) slot = slot ≡ None

-- what is told of the same, where one that may go on can't be waited for
abbrev pub Tells : Result Next LoopFault → Result Next LoopFault → Type 0
Tells told (Ok next) = told ≡ Ok next
Tells told (Err e) = (told ≡ Err e) ⊎ ((told ≡ Ok More) × (e ≡ Io))

-- where a stream went on at a moment, its connection now, and when it moved last, by when it was known to have
abbrev pub rested : ℕ → Link → ℕ → Seat
rested now end known = record { link = record end { moved = false }; moved = if end.moved then now else known }

module _ {S : Type 0} (manner : Manner S) where
  -- a connection takes at most 16 steps, of which one at most serves a message
  pub record TakesSteps (before : Link) (a : S) (told : Result Next LoopFault) (end : Link) (b : S) : Type 0 where
    pub begun : Talk S
    pub ended : Talk S
    pub link : begun.link ≡ before
    pub from : begun.server ≡ a
    pub goes : Goes manner 16 false begun told ended
    pub is : end ≡ ended.link
    pub to : b ≡ ended.server

  -- the stream with a key takes at most 16 steps, and the others are as they were
  pub record GoesOn (key : ℕ) (before : Tended S) (known : ℕ) (told : Result Next LoopFault) (end : Link) (after : Tended S) : Type 0 where
    pub link : Link
    pub here : seat_at before.seats key ≡ Some (record { link = link; moved = known })
    pub takes : TakesSteps link before.server told end after.server
    pub others : (other : ℕ) → other ≢ key → seat_at after.seats other ≡ seat_at before.seats other

  -- The same at a moment, and it is still there. Where there is none with the key nothing is done.
  abbrev pub AdvancesAt : ℕ → ℕ → Tended S → Result Next LoopFault → Tended S → Type 0
  AdvancesAt now key before told after =
      ((was : Result Next LoopFault) × (end : Link) × (known : ℕ) × GoesOn key before known was end after × Tells was told × (seat_at after.seats key ≡ Some (rested now end known)))
      ⊎ ((seat_at before.seats key ≡ None) × (after ≡ before) × (told ≡ Ok Blocked))

  -- a stream goes on, and stays or is closed
  abbrev pub IsByStream : ℕ → Tended S → Tended S → Type 0
  IsByStream key before after = (told : Result Next LoopFault) × (end : Link) × (known : ℕ) × GoesOn key before known told end after × Remains end told (seat_at after.seats key)

  -- where there is none with the key, nothing is done
  abbrev pub ServesAt : ℕ → Tended S → Tended S → Type 0
  ServesAt key before after = IsByStream key before after ⊎ ((seat_at before.seats key ≡ None) × (after ≡ before))

  -- the server settles
  abbrev pub IsSettled : Tended S → Tended S → Type 0
  IsSettled before after = manner.settles before.server after.server × (after.seats ≡ before.seats)

  -- datagrams are served in a round, until there were enough or no more are to be received now
  abbrev pub IsByDatagrams : Tended S → Tended S → Type 0
  IsByDatagrams before after = ServesRound manner before.server after.server × (after.seats ≡ before.seats)

  -- datagrams that were put aside are served
  abbrev pub IsByAside : Tended S → Tended S → Type 0
  IsByAside before after = TakesUp manner before.server after.server × (after.seats ≡ before.seats)

  -- the same, if there were any that could not be received at the last turn
  abbrev pub ReceivesAgain : Tended S → Tended S → Type 0
  ReceivesAgain before after = IsByDatagrams before after ⊎ (after ≡ before)

  -- the streams with these keys go on, one after the other
  abbrev pub AreResumed : Tended S → List ℕ → Tended S → Type 0
  AreResumed before [] after = after ≡ before
  AreResumed before (key ∷ keys) after = (between : Tended S) × ServesAt key before between × AreResumed between keys after

  abbrev pub Resumes : Tended S → Tended S → Type 0
  Resumes before after = (keys : List ℕ) × AreResumed before keys after

  -- streams were handed over by another loop of the address
  abbrev pub IsByLane : Tended S → Tended S → Type 0
  IsByLane before after = Joins before.seats after.seats × (after.server ≡ before.server)

  -- streams come, or are closed or handed over
  abbrev pub IsByPeers : Tended S → Tended S → Type 0
  IsByPeers before after = ComeOrGo before.seats after.seats × (after.server ≡ before.server)

  -- a stream goes on, and datagrams that came while streams did are served
  abbrev pub IsStreamServed : ℕ → Tended S → Tended S → Type 0
  IsStreamServed key before after = (moved : Tended S) × ServesAt key before moved × ReceivesAgain moved after

  -- the socket with a token is served, which is ready
  pub record IsServedAt (token : ℕ) (before after : Tended S) : Type 0 where
    pub datagrams : token ≡ datagrams_token → IsByDatagrams before after
    pub listener : token ≡ listener_token → IsByPeers before after
    pub stream : token ≢ datagrams_token → token ≢ listener_token → IsStreamServed token before after

  -- each of them is, one after the other
  abbrev pub AreServedAt : Tended S → List ℕ → Tended S → Type 0
  AreServedAt before [] after = after ≡ before
  AreServedAt before (token ∷ tokens) after = (between : Tended S) × IsServedAt token before between × AreServedAt between tokens after

  -- it settles, since the loop waits next or ends; or serves datagrams that came or were put aside, or a stream; or streams come, or are closed or handed over
  abbrev pub IsPart : Tended S → Tended S → Type 0
  IsPart before after =
      IsSettled before after ⊎ (IsByDatagrams before after ⊎ (((key : ℕ) × IsByStream key before after) ⊎ (IsByPeers before after ⊎ (IsByAside before after ⊎ IsByLane before after))))

  -- these parts are done, one after the other; it is so after each
  abbrev pub Passes : Tended S → List (Tended S) → Tended S → Type 0
  Passes before [] after = after ≡ before
  Passes before (s ∷ ss) after = IsPart before s × Passes s ss after

  -- nothing is done but such parts, one after the other
  abbrev pub Reaches : Tended S → Tended S → Type 0
  Reaches before after = (ss : List (Tended S)) × Passes before ss after

  -- it settles, and then such parts are done
  abbrev pub SettlesFirst : Tended S → Tended S → Type 0
  SettlesFirst before after = (s : Tended S) × IsSettled before s × Reaches s after

  -- such parts are done, and last it settles
  abbrev pub SettlesLast : Tended S → Tended S → Type 0
  SettlesLast before after = (s : Tended S) × Reaches before s × IsSettled s after

  -- The server settles. Streams come that could not at the last turn, or are handed over to another loop, or by it; what was put aside is taken up, and datagrams come that could not.
  pub record IsBegun (before after : Tended S) : Type 0 where
    pub settled : Tended S
    pub accepted : Tended S
    pub joined : Tended S
    pub taken : Tended S
    pub resumed : Tended S
    pub settles_first : IsSettled before settled
    pub accepts : IsByPeers settled accepted
    pub joins : IsByLane accepted joined
    pub takes_up : IsByAside joined taken
    pub resumes : Resumes taken resumed
    pub receives : ReceivesAgain resumed after

  -- it is begun, and each socket that is ready is served
  abbrev pub IsServing : Tended S → List ℕ → Tended S → Type 0
  IsServing before ready after = (begun : Tended S) × IsBegun before begun × AreServedAt begun ready after

  -- a turn that lost no socket of the loop's own: streams that sat there too long are closed then
  abbrev pub IsTurn : Tended S → List ℕ → Tended S → Type 0
  IsTurn before ready after = (served : Tended S) × IsServing before ready served × IsByPeers served after
