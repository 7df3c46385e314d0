-- What a connection is to contracts, and what it answers while it neither reads nor writes.
use Rattle.std.specs.Prelude.{ℕ, Bool, false, nat_lt, List, length, Option, Some, None, if◌then◌else◌}
use Rattle.slp_stream.specs.Cutting.{front_of, is_whole}
use Rattle.slp_sockets.specs.declared.connection.Next.{Next}
use Rattle.slp_sockets.specs.declared.connection.Next.TheVariants.{More, Blocked, Closed}
use Rattle.slp_sockets.specs.declared.connection.Stage.{Stage}
use Rattle.slp_sockets.specs.declared.connection.Stage.TheVariants.{Reading, Ending, Failed}

-- the peer's address, what was read and not yet served, what waits to be written, how far it is, and whether it moved since that was last asked: a
-- message came whole, or a byte was written
pub record Link : Type 0 where
  pub asker : ℕ
  pub unserved : List ℕ
  pub waiting : List ℕ
  pub stage : Stage
  pub moved : Bool

-- no message on a stream is longer
abbrev pub longest : ℕ
longest = 65535

-- while more bytes wait, nothing is read
abbrev pub most_waiting : ℕ
most_waiting = 131072

-- no read takes more
abbrev pub most_read : ℕ
most_read = 4096

-- nothing more is read: it is closed once nothing waits
abbrev pub ending_next : List ℕ → Next
ending_next waiting = if nat_lt 0 (length waiting) then Blocked else Closed

-- what is answered with no read; `None` where there is one
abbrev pub unread_at : Stage → List ℕ → Option Next
unread_at Failed waiting = Some Closed
unread_at Ending waiting = Some (ending_next waiting)
unread_at Reading waiting = if nat_lt most_waiting (length waiting) then Some Blocked else None

abbrev pub unread : Link → Option Next
unread l = unread_at l.stage l.waiting

-- what is answered with no write; `None` where there is one
abbrev pub unwritten_at : Stage → List ℕ → Option Next
unwritten_at Failed waiting = Some Closed
unwritten_at Reading waiting = if nat_lt 0 (length waiting) then None else Some Blocked
unwritten_at Ending waiting = if nat_lt 0 (length waiting) then None else Some Closed

abbrev pub unwritten : Link → Option Next
unwritten l = unwritten_at l.stage l.waiting

-- whether a whole message stands in front of what is not served, and is served next
abbrev pub has_message_at : Stage → List ℕ → Bool
has_message_at Reading unserved = is_whole (front_of longest unserved)
has_message_at Ending unserved = false
has_message_at Failed unserved = false

abbrev pub has_message : Link → Bool
has_message l = has_message_at l.stage l.unserved

-- what is answered after bytes were written
abbrev pub next_written : Stage → List ℕ → Next
next_written Reading waiting = More
next_written Ending waiting = if nat_lt 0 (length waiting) then More else Closed
next_written Failed waiting = Closed
