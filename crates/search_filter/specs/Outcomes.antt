-- What a reader of filters answers.
use Rattle.std.specs.Prelude.{◌≡◌, Result, Ok, Err}
use Rattle.slp_text.specs.declared.faults.TextFault.{TextFault}
use Rattle.slp_text.specs.declared.faults.TextFault.TheVariants as text
use Rattle.attr_values.specs.declared.fault.AttrFault.{AttrFault}
use Rattle.attr_values.specs.declared.fault.AttrFault.TheVariants as attr
use Rattle.search_filter.specs.declared.fault.FilterFault.{FilterFault}
use Rattle.search_filter.specs.declared.fault.FilterFault.TheVariants.{Syntax, Wildcard, TooDeep, NoMemory}

-- the fault that reading gives, unless memory ran out
abbrev pub IsFault : {A : Type 0} → FilterFault → Result A FilterFault → Type 0
IsFault NoMemory read = Unit {0}
IsFault Syntax read = read ≡ Err Syntax
IsFault Wildcard read = read ≡ Err Wildcard
IsFault TooDeep read = read ≡ Err TooDeep

-- what reading gives, unless memory ran out
abbrev pub IsReading : {A : Type 0} → Result A FilterFault → Result A FilterFault → Type 0
IsReading (Ok x) read = read ≡ Ok x
IsReading (Err e) read = IsFault e read

-- a text that is not read is no filter
abbrev pub fault_in_text : TextFault → FilterFault
fault_in_text text.NoMemory = NoMemory
fault_in_text text.BadEscape = Syntax
fault_in_text text.Reserved = Syntax
fault_in_text text.NotUtf8 = Syntax

-- nor is a tag that is not read
abbrev pub fault_in_tag : AttrFault → FilterFault
fault_in_tag attr.NoMemory = NoMemory
fault_in_tag attr.BadEscape = Syntax
fault_in_tag attr.BadTag = Syntax
fault_in_tag attr.BadList = Syntax

-- the fault, unless memory ran out
abbrev pub IsSameFault : FilterFault → FilterFault → Type 0
IsSameFault NoMemory given = Unit {0}
IsSameFault Syntax given = given ≡ Syntax
IsSameFault Wildcard given = given ≡ Wildcard
IsSameFault TooDeep given = given ≡ TooDeep
