-- What is read of bytes that ask for a change.
use Rattle.std.specs.Prelude.{ℕ, List, Result, Ok, Err}
use Rattle.slp_fields.specs.declared.fault.WireFault.{WireFault}
use Rattle.directory_judge.specs.ReadChanges.{message_read, IsReadAt}
use Rattle.directory_judge.specs.Sites.{Site}
use Rattle.directory_judge.specs.declared.reading.ReadChange.{ReadChange}
use Rattle.directory_questions.specs.Readings.{IsRead, IsUnread}

-- they are a message, and this is what its texts say at a site; or they are none, by this fault
abbrev pub IsAskedAt : Site → List ℕ → Result ReadChange WireFault → Type 0
IsAskedAt site bytes (Ok read) = IsReadAt site read × IsRead bytes (message_read read)
IsAskedAt site bytes (Err fault) = IsUnread bytes fault
