-- What happens at a socket of datagrams, and what it is to serve those that come.
use Rattle.std.specs.Prelude.{◌≡◌, ◌⊎◌, ◌≤◌, ◌<◌, ℕ, ◌+◌, Bool, false, IsFalse, IsTrue, List, [], ◌∷◌, ◌++◌, map, length, take, Option, Some, None, Result, Ok, Err}
use Rattle.std.specs.IoError.{error_kind}
use Rattle.std.specs.declared.io.Error.{Error}
use Rattle.std.specs.declared.io.ErrorKind.{ErrorKind}
use Rattle.std.specs.declared.io.ErrorKind.TheVariants.{WouldBlock, Interrupted}
use Rattle.std.specs.declared.net.socket_addr.SocketAddr.{SocketAddr}
use Rattle.std.specs.declared.net.socket_addr.SocketAddr.TheVariants.{V4, V6}
use Rattle.std.specs.Net.Addr.{ipv4_bits}
use Rattle.std.specs.Net.Socket.{v4_ip}
use Rattle.std_io.specs.IoError.{raw_os_error}
use Rattle.slp_sockets.specs.Serving.{Manner, IsServed}
use Rattle.slp_sockets.specs.Sockets.{IsLost}
use Rattle.slp_sockets.specs.declared.exchange.Rest.{Rest}
use Rattle.slp_sockets.specs.declared.exchange.Rest.TheVariants.{Nothing, More, Later}
use Rattle.slp_sockets.specs.declared.fault.LoopFault.{LoopFault}
use Rattle.slp_sockets.specs.declared.fault.LoopFault.TheVariants.{Io}

-- who sent it, or to whom it is sent, and its bytes
pub record Datagram : Type 0 where
  pub peer : SocketAddr
  pub bytes : List ℕ

pub data Happening : Type 0 where
  -- it was taken from the port
  Came : Datagram → Happening
  -- none was taken, for this reason
  Paused : Error → Happening
  -- it was handed to the port
  Left : Datagram → Happening

-- what may happen at a port: the port before, what happens, and the port after
abbrev pub Ports : Type 0 → Type 1
Ports P = P → Happening → P → Type 0

-- what a call that receives comes to
abbrev pub received : Result (ℕ × SocketAddr) Error → List ℕ → Happening
received (Ok r) buffer = Came (record { peer = r.1; bytes = take r.0 buffer })
received (Err e) buffer = Paused e

-- these happen at a port, one after the other, and nothing else
abbrev pub Runs : {P : Type 0} → Ports P → P → List Happening → P → Type 0
Runs may before [] after = after ≡ before
Runs {P = P} may before (h ∷ hs) after = (between : P) × may before h between × Runs may between hs after

-- who asks by a datagram from there: none but where the address is of the fourth version
abbrev pub asker_of : SocketAddr → Option ℕ
asker_of (V4 a) = Some (ipv4_bits (v4_ip a))
asker_of (V6 a) = None

-- a datagram takes no more back
abbrev pub most_back : ℕ
most_back = 1400

-- what is sent to a peer to whom these bytes go back
abbrev pub owed : SocketAddr → List ℕ → List Datagram
owed peer [] = []
owed peer (b ∷ bs) = record { peer = peer; bytes = b ∷ bs } ∷ []

-- the pause, where there was one
abbrev pub pausing : Option Error → List Happening
pausing None = []
pausing (Some e) = Paused e ∷ []

-- a server that serves one datagram after the other, and whether the last one took long
pub record Round (S : Type 0) : Type 0 where
  pub server : S
  pub is_late : Bool

module _ {S : Type 0} (manner : Manner S) where
  -- a message is served once, for its asker; where there is none, nothing is done
  abbrev pub ServedFor : Option ℕ → S → List ℕ → List ℕ → S → Type 0
  ServedFor (Some asker) before message back after = IsServed manner asker most_back before message back after
  ServedFor None before message back after = (back ≡ []) × (after ≡ before)

  -- a datagram is served for its sender, and this goes back; only one that may last took long
  abbrev pub IsTimed : S → Datagram → List ℕ → Round S → Type 0
  IsTimed before d back after = ServedFor (asker_of d.peer) before d.bytes back after.server × (IsTrue after.is_late → manner.may_last d.bytes)

  -- why a datagram is not served at once: the last one took long, or it may have to wait for others
  abbrev pub MayBeAside : Bool → Datagram → Type 0
  MayBeAside is_late d = IsTrue is_late ⊎ manner.may_wait d.bytes

  -- the same where it comes, or to serve it may take long, so that another loop is to do it
  abbrev pub MayBePut : Bool → Datagram → Type 0
  MayBePut is_late d = MayBeAside is_late d ⊎ manner.may_last d.bytes

  -- a datagram is served, or put aside, where it may be
  abbrev pub IsMet : Round S → Datagram → List ℕ → List Datagram → Round S → Type 0
  IsMet before d back put after = (IsTimed before.server d back after × (put ≡ [])) ⊎ (MayBePut before.is_late d × (back ≡ []) × (put ≡ d ∷ []) × (after ≡ before))

  -- datagrams are served or put aside, once each, one after the other: what is owed to their senders then, and which are aside
  abbrev pub AreMet : Round S → List Datagram → List Datagram → List Datagram → Round S → Type 0
  AreMet before [] dues put after = (dues ≡ []) × (put ≡ []) × (after ≡ before)
  AreMet before (d ∷ ds) dues put after =
      (back : List ℕ) × (here : List Datagram) × (between : Round S) × (owing more : List Datagram) × IsMet before d back here between × AreMet between ds owing more after × (dues ≡ owed d.peer back ++ owing) × (put ≡ here ++ more)

  -- why those that are aside are not served: there is none, or the first of them is put aside still
  abbrev pub AreStillAside : Bool → List Datagram → Type 0
  AreStillAside is_late [] = Unit {0}
  AreStillAside is_late (d ∷ ds) = MayBeAside is_late d

module _ {S : Type 0} (manner : Manner S) where
  -- A round: datagrams come, until none is left or there are enough. Each is served once or put aside, in their order, behind those that are aside. The server settles, and what is owed
  -- leaves, in order: nothing that is not owed, and nothing twice.
  pub record IsRound (before : S) (aside : List Datagram) (hs : List Happening) (after : S) (asides : List Datagram) : Type 0 where
    pub came : List Datagram
    pub pause : Option Error
    pub dues : List Datagram
    pub put : List Datagram
    pub between : Round S
    pub met : AreMet manner (record { server = before; is_late = false }) came dues put between
    pub kept : asides ≡ aside ++ put
    pub settled : manner.settles between.server after
    pub order : hs ≡ (map Came came ++ pausing pause) ++ map Left dues

  -- Those in front that are aside are served, one after the other, until one took long. Before what is owed to one leaves, the server settles.
  abbrev pub AreTakenUp : Round S → List Datagram → List Happening → Round S → List Datagram → Type 0
  AreTakenUp before [] hs after asides = (hs ≡ []) × (after ≡ before) × (asides ≡ [])
  AreTakenUp before (d ∷ ds) hs after asides =
      ((hs ≡ []) × (after ≡ before) × (asides ≡ d ∷ ds))
      ⊎ ((back : List ℕ) × (served : Round S) × (settled : S) × (later : List Happening) × IsFalse before.is_late × IsTimed manner before.server d back served × manner.settles served.server settled
      × AreTakenUp (record served { server = settled }) ds later after asides × (hs ≡ map Left (owed d.peer back) ++ later))

-- what there may be after a failed receive of a socket that is still of use
abbrev pub rest_by : ErrorKind → Rest
rest_by WouldBlock = Nothing
rest_by Interrupted = More
rest_by _ = Later

-- what a failed receive says: the socket is of no use any more, or there may be more
abbrev pub Says : Error → Result Rest LoopFault → Type 0
Says e (Ok rest) = (¬ (IsLost (raw_os_error e))) × (rest ≡ rest_by (error_kind e))
Says e (Err fault) = IsLost (raw_os_error e) × (fault ≡ Io)

-- the pause after which none came
abbrev pub pause_after : Option Error → List Happening → Option Error
pause_after before [] = before
pause_after before (Came d ∷ hs) = pause_after None hs
pause_after before (Paused e ∷ hs) = pause_after (Some e) hs
pause_after before (Left d ∷ hs) = pause_after before hs

-- how many of them came, where a pause counts for as many as are received together
abbrev pub effort : List Happening → ℕ
effort [] = 0
effort (Came d ∷ hs) = 1 + effort hs
effort (Paused e ∷ hs) = 16 + effort hs
effort (Left d ∷ hs) = effort hs

-- there was no pause
abbrev pub NoPause : List Happening → Type 0
NoPause [] = Unit {0}
NoPause (Came d ∷ hs) = NoPause hs
NoPause (Paused e ∷ hs) = ⊥
NoPause (Left d ∷ hs) = NoPause hs

-- each pause says that there may be more, but for the last, which says what is answered
abbrev pub GoOnTo : Result Rest LoopFault → List Happening → Type 0
GoOnTo told [] = Unit {0}
GoOnTo told (Came d ∷ hs) = GoOnTo told hs
GoOnTo told (Paused e ∷ hs) = (Says e (Ok More) ⊎ (Says e told × NoPause hs)) × GoOnTo told hs
GoOnTo told (Left d ∷ hs) = GoOnTo told hs

-- the last pause says what is answered
pub record IsPausedBy (told : Result Rest LoopFault) (hs : List Happening) : Type 0 where
  pub error : Error
  pub last : pause_after None hs ≡ Some error
  pub says : Says error told

-- much was served where there may be more; else the last pause says why no more were received
abbrev pub IsEnough : ℕ → Result Rest LoopFault → List Happening → Type 0
IsEnough least (Ok More) hs = least ≤ effort hs
IsEnough least (Ok Nothing) hs = IsPausedBy (Ok Nothing) hs
IsEnough least (Ok Later) hs = IsPausedBy (Ok Later) hs
IsEnough least (Err e) hs = IsPausedBy (Err e) hs

-- the same, and no other pause said so
abbrev pub IsThrough : ℕ → Result Rest LoopFault → List Happening → Type 0
IsThrough least told hs = IsEnough least told hs × GoOnTo told hs

-- where more are aside, no more are received
abbrev pub most_aside : ℕ
most_aside = 48

module _ {S : Type 0} (manner : Manner S) where
  -- a round, until 16 have come, where a pause counts for as many, or a pause says that no more are to be received now; where too many are aside, nothing happens, and it is tried again
  abbrev pub TriesRound : S → List Datagram → List Happening → Result Rest LoopFault → S → List Datagram → Type 0
  TriesRound before aside hs told after asides =
      (IsRound manner before aside hs after asides × IsThrough 16 told hs) ⊎ ((most_aside < length aside) × (hs ≡ []) × (told ≡ Ok Later) × (after ≡ before) × (asides ≡ aside))

  abbrev pub ServesRound : S → S → Type 0
  ServesRound before after = (aside asides : List Datagram) × (hs : List Happening) × (told : Result Rest LoopFault) × TriesRound before aside hs told after asides

  -- all that are aside are, up to one that may be aside still
  abbrev pub IsTakenUp : S → List Datagram → List Happening → S → List Datagram → Type 0
  IsTakenUp before aside hs after asides =
      (is_late : Bool) × AreTakenUp manner (record { server = before; is_late = false }) aside hs (record { server = after; is_late = is_late }) asides × AreStillAside manner is_late asides

  abbrev pub TakesUp : S → S → Type 0
  TakesUp before after = (aside asides : List Datagram) × (hs : List Happening) × IsTakenUp before aside hs after asides
