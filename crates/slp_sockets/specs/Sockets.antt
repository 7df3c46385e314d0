-- What a failed call tells: that a socket is of no use any more, or that memory is wanting.
use Rattle.std.specs.Prelude.{◌≡◌, ◌⊎◌, ⊤, Bool, true, false, Option, Some, Result, Ok, Err, ℤ, pos}
use Rattle.std.specs.declared.io.Error.{Error}
use Rattle.std_io.specs.IoError.{raw_os_error}
use Rattle.slp_sockets.specs.declared.fault.LoopFault.{LoopFault}
use Rattle.slp_sockets.specs.declared.fault.LoopFault.TheVariants.{Io, NoMemory}

-- the system's number of a failed call says that the descriptor is bad, does not do this, or is no socket; none other does, as that memory or descriptors are short
abbrev pub IsLost : Option ℤ → Type 0
IsLost number = (number ≡ Some (pos 9)) ⊎ ((number ≡ Some (pos 22)) ⊎ (number ≡ Some (pos 88)))

-- it says that the system found no memory for it, or no room in its buffers
abbrev pub IsWanting : Option ℤ → Type 0
IsWanting number = (number ≡ Some (pos 12)) ⊎ (number ≡ Some (pos 105))

-- why what is opened at the start was not: want of memory, or that it failed
abbrev pub IsUnopened : Option ℤ → LoopFault → Type 0
IsUnopened number NoMemory = IsWanting number
IsUnopened number Io = ¬ IsWanting number

-- whether a wait came to pass, by what the system says of it: it did; it did not, for want of memory, which may pass; or it can't, which is the end of a loop
abbrev pub Waits : Result ⊤ Error → Result Bool LoopFault → Type 0
Waits (Ok x) told = told ≡ Ok true
Waits (Err e) (Ok has_waited) = IsWanting (raw_os_error e) × (has_waited ≡ false)
Waits (Err e) (Err fault) = ¬ IsWanting (raw_os_error e) × (fault ≡ Io)
