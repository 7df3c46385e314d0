-- What a stream, its connection and its server go through, where it is ready.
use Rattle.std.specs.Prelude.{◌≡◌, ◌⊎◌, ◌&&◌, ◌||◌, ℕ, zero, suc, Bool, false, IsTrue, List, Option, Some, None, IfSome, IfNone, Result, Ok, Err, if◌then◌else◌}
use Rattle.slp_sockets.specs.Linking.{Link, has_message, unread, unwritten}
use Rattle.slp_sockets.specs.Reading.{Reads}
use Rattle.slp_sockets.specs.Serving.{Manner}
use Rattle.slp_sockets.specs.Writing.{Wrote, Writes}
use Rattle.slp_sockets.specs.declared.connection.Next.{Next}
use Rattle.slp_sockets.specs.declared.connection.Next.TheVariants.{More, Blocked, Closed}
use Rattle.slp_sockets.specs.declared.fault.LoopFault.{LoopFault}

-- what a stream is known to bring still, what it is known to have taken, its connection, and what serves it
pub record Talk (S : Type 0) : Type 0 where
  pub brings : Option (List ℕ)
  pub taken : Option (List ℕ)
  pub link : Link
  pub server : S

-- what is answered where it ends after a read and a write; `None` where it does not
abbrev pub end_of : Next → Next → Option Next
end_of read Closed = Some Closed
end_of Blocked Blocked = Some Blocked
end_of read written = None

module _ {S : Type 0} (manner : Manner S) where
  -- it is read once, at most, or the message in front is served
  abbrev pub IsRead : Talk S → Result Next LoopFault → Talk S → Type 0
  IsRead a told b = IfSome (unread a.link) (λ next. (told ≡ Ok next) × (b ≡ a)) × IfNone (unread a.link) (Reads manner a.brings b.brings a.link a.server told b.link b.server)

  -- what waits is written once, at most
  abbrev pub IsWritten : Talk S → Result Next LoopFault → Talk S → Type 0
  IsWritten a told b =
      IfSome (unwritten a.link) (λ next. (told ≡ Ok next) × (b ≡ a))
      × Wrote a.taken b.taken a.link.waiting b.link.waiting × IfNone (unwritten a.link) (Writes a.link told b.link) × (b.server ≡ a.server)

  -- a step: the stream is read, the server settles, and what waits is written
  pub record IsStep (a : Talk S) (read : Next) (written : Result Next LoopFault) (b : Talk S) : Type 0 where
    pub between : Talk S
    pub server : S
    pub read_is : IsRead a (Ok read) between
    pub settled : manner.settles between.server server
    pub written_is : IsWritten (record between { server = server }) written b

  -- The message in front is left where it is, whether or not one was served before, and this is answered: it is put aside, since it may have to wait for others, or since to serve it may take long, so that another loop is to do it; or it has its turn when other
  -- streams have had theirs.
  abbrev pub IsLeft : Link → Bool → Result Next LoopFault → Type 0
  IsLeft l served told = (IsTrue (has_message l) × (manner.may_wait l.unserved ⊎ manner.may_last l.unserved) × (told ≡ Ok Blocked)) ⊎ (IsTrue (has_message l && served) × (told ≡ Ok More))

  -- At most so many steps, one after the other, until one of them fails or ends it. A message that waits may be left where it is, and none is served where one was before.
  abbrev pub Goes : ℕ → Bool → Talk S → Result Next LoopFault → Talk S → Type 0
  Goes zero served a told b = (told ≡ Ok More) × (b ≡ a)
  Goes (suc n) served a told b =
      (IsLeft a.link served told × (b ≡ a))
      ⊎ (((has_message a.link && served) ≡ false) × (((e : LoopFault) × (told ≡ Err e) × IsRead a (Err e) b)
      ⊎ (((read : Next) × (e : LoopFault) × (told ≡ Err e) × IsStep a read (Err e) b)
      ⊎ ((read : Next) × (written : Next) × (c : Talk S) × IsStep a read (Ok written) c
      × IfSome (end_of read written) (λ next. (told ≡ Ok next) × (b ≡ c)) × IfNone (end_of read written) (Goes n (has_message a.link || served) c told b)))))

  -- A stream goes on at a moment, by at most 16 steps, of which one at most serves a message. Then it is noted whether it moved, where it was known when it did.
  pub record Advances (now : ℕ) (a : Talk S) (known : ℕ) (told : Result Next LoopFault) (b : Talk S) (knows : ℕ) : Type 0 where
    pub end : Link
    pub goes : Goes 16 false a told (record b { link = end })
    pub link : b.link ≡ record end { moved = false }
    pub moved : knows ≡ (if end.moved then now else known)
