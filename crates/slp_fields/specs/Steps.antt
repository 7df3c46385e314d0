-- Steps of a reader: each goes on from the last, and the first fault ends them.
use Rattle.std.specs.Prelude.{◌≡◌, Result, Ok, Err}
use Rattle.slp_fields.specs.declared.fault.WireFault.TheVariants as fault
use Rattle.slp_fields.specs.declared.fault.WireFault.TheVariants.{NoHeader, Version, Parse, Auth, Unknown, NoMemory, TooLong}
use Rattle.slp_fields.specs.declared.fault.WireFault.{WireFault}

-- what comes of a value that is read, else its fault
infixl 10 ◌>>=◌
abbrev pub ◌>>=◌ : {A B : Type 0} → Result A WireFault → (A → Result B WireFault) → Result B WireFault
(Ok x) >>= f = f x
(Err e) >>= f = Err e

-- the fault that reading gives, unless memory ran out
abbrev pub Fails : {Y : Type 0} → WireFault → Result Y WireFault → Type 0
Fails NoMemory read = Unit {0}
Fails NoHeader read = read ≡ Err NoHeader
Fails Version read = read ≡ Err Version
Fails Parse read = read ≡ Err Parse
Fails fault.Option read = read ≡ Err fault.Option
Fails Auth read = read ≡ Err Auth
Fails Unknown read = read ≡ Err Unknown
Fails TooLong read = read ≡ Err TooLong

-- what a reader answered, seen by view, is what reading gives, unless memory ran out
abbrev pub Gives : {X Y : Type 0} → (X → Y) → Result X WireFault → Result Y WireFault → Type 0
Gives view (Ok x) read = read ≡ Ok (view x)
Gives view (Err e) read = Fails e read
