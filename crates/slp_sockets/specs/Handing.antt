-- What one loop of an address hands over to the one beside it.
use Rattle.std.specs.Prelude.{◌≡◌, ◌≢◌, ◌⊎◌, ℕ, true, List, [], ◌∷◌, ◌++◌, map, Option, Some, None}
use Rattle.rtrb.specs.Ring.{sent, received}
use Rattle.slp_sockets.specs.Exchanging.{datagram}
use Rattle.slp_sockets.specs.Holding.{Seat, seat_at}
use Rattle.slp_sockets.specs.Linking.{has_message}
use Rattle.slp_sockets.specs.Ports.{Datagram}
use Rattle.slp_sockets.specs.Serving.{Manner}
use Rattle.slp_sockets.specs.Sitting.{seat}
use Rattle.slp_sockets.specs.declared.lane.Giver.{Giver}
use Rattle.slp_sockets.specs.declared.lane.Handed.{Handed}
use Rattle.slp_sockets.specs.declared.lane.Handed.TheVariants.{Mail, Stream}
use Rattle.slp_sockets.specs.declared.lane.Taker.{Taker}

-- a datagram, or a stream as it is
pub data Gift : Type 0 where
  Letter : Datagram → Gift
  Talker : Seat → Gift

abbrev pub gift : Handed → Gift
gift (Mail e) = Letter (datagram e)
gift (Stream p) = Talker (seat p)

-- all that was handed over, and all that was taken over
abbrev pub given_by : Giver → List Gift
given_by g = map gift (sent g.producer)

abbrev pub taken_by : Taker → List Gift
taken_by t = map gift (received t.consumer)

-- the same where there is a way
abbrev pub given_in : Option Giver → List Gift
given_in None = []
given_in (Some g) = given_by g

abbrev pub taken_in : Option Taker → List Gift
taken_in None = []
taken_in (Some t) = taken_by t

-- the datagrams among them
abbrev pub letters_in : List Gift → List Datagram
letters_in [] = []
letters_in (Letter d ∷ gs) = d ∷ letters_in gs
letters_in (Talker s ∷ gs) = letters_in gs

-- what comes is taken over, and the datagrams among it are put aside behind the others
pub record TakesOver (aside : List Datagram) (had : List Gift) (asides : List Datagram) (has : List Gift) : Type 0 where
  pub gifts : List Gift
  pub taken : has ≡ had ++ gifts
  pub put : asides ≡ aside ++ letters_in gifts

-- the stream with each key, and all that was handed over
pub record Handing : Type 0 where
  pub seats : List (Option Seat)
  pub gifts : List Gift

module _ {S : Type 0} (manner : Manner S) where
  -- those datagrams in front that may take long are handed over, one after the other
  abbrev pub AreMailed : List Datagram → List Gift → List Datagram → List Gift → List Datagram → Type 0
  AreMailed aside had [] has asides = (has ≡ had) × (asides ≡ aside)
  AreMailed aside had (d ∷ ds) has asides = (rest : List Datagram) × (aside ≡ d ∷ rest) × manner.may_last d.bytes × AreMailed rest (had ++ Letter d ∷ []) ds has asides

  -- the stream with a key is handed over, whose message in front may take long, and the others are as they were
  pub record IsGivenAt (key : ℕ) (before after : Handing) : Type 0 where
    pub stream : Seat
    pub here : seat_at before.seats key ≡ Some stream
    pub front : has_message stream.link ≡ true
    pub long : manner.may_last stream.link.unserved
    pub gone : seat_at after.seats key ≡ None
    pub given : after.gifts ≡ before.gifts ++ Talker stream ∷ []
    pub others : (other : ℕ) → other ≢ key → seat_at after.seats other ≡ seat_at before.seats other

  -- those with these keys are, one after the other
  abbrev pub AreGiven : Handing → List ℕ → Handing → Type 0
  AreGiven before [] after = after ≡ before
  AreGiven before (key ∷ keys) after = (between : Handing) × IsGivenAt key before between × AreGiven between keys after

module _ {S : Type 0} (manner : Manner S) where
  -- datagrams that are put aside are handed over, and then streams are
  pub record HandsOver (aside : List Datagram) (before : Handing) (asides : List Datagram) (after : Handing) : Type 0 where
    pub letters : List Datagram
    pub mailed : List Gift
    pub keys : List ℕ
    pub datagrams : AreMailed manner aside before.gifts letters mailed asides
    pub streams : AreGiven manner (record before { gifts = mailed }) keys after

-- each stream that is there was there as it is, or has a whole message in front
abbrev pub Joins : List (Option Seat) → List (Option Seat) → Type 0
Joins before after = (key : ℕ) (s : Seat) → seat_at after key ≡ Some s → (seat_at before key ≡ Some s) ⊎ (has_message s.link ≡ true)
