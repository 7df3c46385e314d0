-- What the sockets of a request decide by themselves.
use Rattle.std.specs.Prelude.{ℕ, ◌*◌, ◌/◌, ◌==◌, Bool, true, false, min, Option, Some, None, Result, Ok, Err, if◌then◌else◌}
use Rattle.std.specs.Duration.{as_nanos}
use Rattle.std.specs.IoError.{error_kind}
use Rattle.std.specs.declared.io.Error.{Error}
use Rattle.std.specs.declared.io.ErrorKind.{ErrorKind}
use Rattle.std.specs.declared.io.ErrorKind.TheVariants.{WouldBlock, TimedOut, Interrupted, ConnectionRefused}
use Rattle.std.specs.declared.time.Duration.{Duration}
use Rattle.agent_clients.specs.Asking.{last_moment}
use Rattle.agent_clients.specs.declared.fault.ClientFault.{ClientFault}
use Rattle.agent_clients.specs.declared.fault.ClientFault.TheVariants.{Io}

-- the failures that mean no more than that nothing came
abbrev pub is_nothing : ErrorKind → Bool
is_nothing WouldBlock = true
is_nothing TimedOut = true
is_nothing Interrupted = true
is_nothing ConnectionRefused = true
is_nothing _ = false

abbrev pub nanos : ℕ → ℕ
nanos seconds = seconds * 1000000000

-- a time in whole seconds, or the last moment that there is
abbrev pub moment_of : Duration → ℕ
moment_of elapsed = min (as_nanos elapsed / 1000000000) last_moment

-- what comes of a datagram that is sent: it is no failure that nobody listens
abbrev pub sent_by : {A : Type 0} → Result A Error → Result (Unit {0}) ClientFault
sent_by (Ok x) = Ok tt
sent_by (Err e) = if is_nothing (error_kind e) then Ok tt else Err Io

-- what comes of a failed wait for bytes
abbrev pub unless_nothing : ErrorKind → Result (Option ℕ) ClientFault
unless_nothing kind = if is_nothing kind then Ok None else Err Io

-- what comes of a read of the stream: no byte is its end
abbrev pub read_by : Result ℕ Error → Result (Option ℕ) ClientFault
read_by (Ok count) = if count == 0 then Err Io else Ok (Some count)
read_by (Err e) = unless_nothing (error_kind e)
