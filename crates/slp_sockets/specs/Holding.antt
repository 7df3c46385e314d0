-- What a loop is to contracts.
use Rattle.std.specs.Prelude.{◌≡◌, ◌+◌, ◌<◌, ◌≤◌, ℕ, nat_lt, List, Option, Some, None, slice_index_or, if◌then◌else◌}
use Rattle.std.specs.Option.{option_map}
use Rattle.slp_sockets.specs.Linking.{Link}

-- a stream of a loop: its connection, and at which moment it moved last: it came, a message came whole on it, or a byte that waited was written
pub record Seat : Type 0 where
  pub link : Link
  pub moved : ℕ

-- the most streams, how many there are, the moment of the loop's own clock, in seconds, and the stream with each key
pub record Held : Type 0 where
  pub limit : ℕ
  pub held : ℕ
  pub moment : ℕ
  pub seats : List (Option Seat)

-- a loop: the same of its streams, the tokens of the sockets that were ready at its last wait, in the order of their events, and its server
pub record Looping (S : Type 0) : Type 0 where
  pub limit : ℕ
  pub held : ℕ
  pub moment : ℕ
  pub seats : List (Option Seat)
  pub ready : List ℕ
  pub server : S

-- the seconds for which a stream may sit there
abbrev pub longest_stay : ℕ
longest_stay = 300

-- the same where every place is taken, and another peer comes
abbrev pub least_stay : ℕ
least_stay = 60

-- the stream with a key, where there is one
abbrev pub seat_at : List (Option Seat) → ℕ → Option Seat
seat_at seats key = slice_index_or seats key None

-- when it moved last
abbrev pub moment_of : List (Option Seat) → ℕ → Option ℕ
moment_of seats key = option_map (λ (s : Seat). s.moved) (seat_at seats key)

-- no stream has sat there for as long
abbrev pub NoneSits : ℕ → ℕ → List (Option Seat) → Type 0
NoneSits stay now seats = (key at : ℕ) → moment_of seats key ≡ Some at → now < at + stay

-- those that have not stay there as they are
abbrev pub KeepsOthers : ℕ → ℕ → List (Option Seat) → List (Option Seat) → Type 0
KeepsOthers stay now before after = (key : ℕ) (s : Seat) → seat_at before key ≡ Some s → now < s.moved + stay → seat_at after key ≡ Some s

-- each that is there was there as it is
abbrev pub HasNoOther : List (Option Seat) → List (Option Seat) → Type 0
HasNoOther before after = (key : ℕ) (s : Seat) → seat_at after key ≡ Some s → seat_at before key ≡ Some s

-- no stream has sat there longer than the one with this key, if there is any
abbrev pub IsStillest : ℕ → List (Option Seat) → Type 0
IsStillest found seats = (key at : ℕ) → moment_of seats key ≡ Some at → (first : ℕ) × (moment_of seats found ≡ Some first) × (first ≤ at)

-- the stiller of the one that was found, with its moment, and one with a key
abbrev pub stiller : ℕ × Option ℕ → ℕ → Option ℕ → ℕ × Option ℕ
stiller found key None = found
stiller (found, None) key (Some at) = (key, Some at)
stiller (found, Some first) key (Some at) = if nat_lt at first then (key, Some at) else (found, Some first)
