-- What one read does to a connection and its server, or the message that stands in front of what came.
use Rattle.std.specs.Prelude.{◌≡◌, ◌≢◌, ◌⊎◌, ◌≤◌, ◌<◌, ℕ, true, List, ◌++◌, take, drop, length, Result, Ok, MatchResult, Option}
use Rattle.std.specs.Io.KnownBytes.{Consumes, Keeps, IsAtEnd}
use Rattle.slp_stream.specs.Cutting.{Front, Wanting, Whole, Bad, front_of}
use Rattle.slp_sockets.specs.Linking.{Link, longest, most_read, ending_next}
use Rattle.slp_sockets.specs.Serving.{Manner, IsServed}
use Rattle.slp_sockets.specs.declared.connection.InFront.{InFront}
use Rattle.slp_sockets.specs.declared.connection.InFront.TheVariants as front
use Rattle.slp_sockets.specs.declared.connection.Next.{Next}
use Rattle.slp_sockets.specs.declared.connection.Next.TheVariants.{More, Closed}
use Rattle.slp_sockets.specs.declared.connection.Stage.TheVariants.{Ending, Failed}
use Rattle.slp_sockets.specs.declared.fault.LoopFault.{LoopFault}
use Rattle.slp_sockets.specs.declared.fault.LoopFault.TheVariants.{Io, NoMemory}

module _ {S : Type 0} (manner : Manner S) where
  -- the message in front of a stream is served, and what goes back is added to what waits; it is lost where memory is wanting
  pub record TakesOne {E : Type 0} (asker n : ℕ) (stream waiting : List ℕ) (before : S) (result : Result InFront E) (rest grown : List ℕ) (after : S) : Type 0 where
    pub bytes : List ℕ
    pub served : IsServed manner asker longest before (take n stream) bytes after
    pub left : rest ≡ drop n stream
    pub grows : MatchResult result (λ told. (told ≡ front.Message) × (grown ≡ waiting ++ bytes)) (λ _. grown ≡ waiting)

  -- what stands in front of a stream is taken
  abbrev pub Takes : {E : Type 0} → Front → (asker : ℕ) (stream waiting : List ℕ) (before : S) (result : Result InFront E) (rest grown : List ℕ) (after : S) → Type 0
  Takes (Whole n) asker stream waiting before result rest grown after = TakesOne asker n stream waiting before result rest grown after
  Takes Wanting asker stream waiting before result rest grown after = (result ≡ Ok front.Nothing) × (rest ≡ stream) × (grown ≡ waiting) × (after ≡ before)
  Takes (Bad e) asker stream waiting before result rest grown after = (result ≡ Ok front.Fault) × (rest ≡ stream) × (grown ≡ waiting) × (after ≡ before)

  -- the message in front is served, and what goes back for it waits; where memory is wanting for that, it is lost
  pub record ServesOne (n : ℕ) (l : Link) (before : S) (result : Result Next LoopFault) (m : Link) (after : S) : Type 0 where
    pub bytes : List ℕ
    pub served : IsServed manner l.asker longest before (take n l.unserved) bytes after
    pub then : MatchResult result
        (λ next. (next ≡ More) × (m ≡ record l { unserved = drop n l.unserved; waiting = l.waiting ++ bytes; moved = true }))
        (λ fault. (fault ≡ NoMemory) × (m ≡ record l { unserved = drop n l.unserved; stage = Failed; moved = true }))

  -- the reader gave bytes
  pub record GaveBytes (known left : Option (List ℕ)) (l : Link) (before : S) (answered : Next) (m : Link) (after : S) : Type 0 where
    pub piece : List ℕ
    pub some : 0 < length piece
    pub within : length piece ≤ most_read
    pub read : Consumes known left piece
    pub more : m ≡ record l { unserved = l.unserved ++ piece }
    pub server : after ≡ before
    pub next : answered ≡ More

  -- the reader gave bytes, for which memory was wanting
  pub record GaveTooMuch (known left : Option (List ℕ)) (l : Link) (before : S) (answered : LoopFault) (m : Link) (after : S) : Type 0 where
    pub piece : List ℕ
    pub some : 0 < length piece
    pub within : length piece ≤ most_read
    pub read : Consumes known left piece
    pub same : m ≡ record l { stage = Failed }
    pub server : after ≡ before
    pub fault : answered ≡ NoMemory

  -- the reader was at its end
  pub record MetEnd (known left : Option (List ℕ)) (l : Link) (before : S) (answered : Next) (m : Link) (after : S) : Type 0 where
    pub none : Keeps known left
    pub end : IsAtEnd left
    pub same : m ≡ record l { stage = Ending }
    pub server : after ≡ before
    pub next : answered ≡ ending_next l.waiting

  -- the reader gave nothing, and goes on
  pub record MetNothing (known left : Option (List ℕ)) (l : Link) (before : S) (answered : Next) (m : Link) (after : S) : Type 0 where
    pub none : Keeps known left
    pub same : m ≡ l
    pub server : after ≡ before
    pub next : answered ≢ Closed

  -- the reader failed
  pub record ReaderFailed (known left : Option (List ℕ)) (l : Link) (before : S) (answered : LoopFault) (m : Link) (after : S) : Type 0 where
    pub fault : answered ≡ Io
    pub none : Keeps known left
    pub same : m ≡ record l { stage = Failed }
    pub server : after ≡ before

  -- A whole message in front is served, and nothing is read. A bad length there is the end. Else it is read once.
  abbrev pub ReadsBy : Front → (known left : Option (List ℕ)) (l : Link) (before : S) (result : Result Next LoopFault) (m : Link) (after : S) → Type 0
  ReadsBy (Whole n) known left l before result m after = (left ≡ known) × ServesOne n l before result m after
  ReadsBy (Bad e) known left l before result m after = (left ≡ known) × (result ≡ Ok (ending_next l.waiting)) × (m ≡ record l { stage = Ending }) × (after ≡ before)
  ReadsBy Wanting known left l before result m after =
      MatchResult result
      (λ next. GaveBytes known left l before next m after ⊎ (MetEnd known left l before next m after ⊎ MetNothing known left l before next m after))
      (λ fault. ReaderFailed known left l before fault m after ⊎ GaveTooMuch known left l before fault m after)

  abbrev pub Reads : (known left : Option (List ℕ)) (l : Link) (before : S) (result : Result Next LoopFault) (m : Link) (after : S) → Type 0
  Reads known left l before result m after = ReadsBy (front_of longest l.unserved) known left l before result m after
