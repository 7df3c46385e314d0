-- What a reader of attributes answers.
use Rattle.std.specs.Prelude.{◌≡◌, Result, Ok, Err}
use Rattle.attr_values.specs.declared.fault.AttrFault.{AttrFault}
use Rattle.attr_values.specs.declared.fault.AttrFault.TheVariants.{BadEscape, BadTag, BadList, NoMemory}

-- the fault that reading gives, unless memory ran out
abbrev pub IsFault : {A : Type 0} → AttrFault → Result A AttrFault → Type 0
IsFault NoMemory read = Unit {0}
IsFault BadEscape read = read ≡ Err BadEscape
IsFault BadTag read = read ≡ Err BadTag
IsFault BadList read = read ≡ Err BadList

-- what reading gives, unless memory ran out
abbrev pub IsReading : {A : Type 0} → Result A AttrFault → Result A AttrFault → Type 0
IsReading (Ok x) read = read ≡ Ok x
IsReading (Err e) read = IsFault e read
