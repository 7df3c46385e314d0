-- Templates, and how one is added to others.
use Rattle.std.specs.Prelude.{◌≡◌, ℕ, nat_le, List, map, Result, Ok, Err, T, if◌then◌else◌}
use Rattle.std.specs.FinMap as fin
use Rattle.slp_text.specs.Words.{bytes_cmp}
use Rattle.srv_template.specs.Conformity.{SiteTemplates}
use Rattle.srv_template.specs.declared.definition.Definition.{Definition}
use Rattle.srv_template.specs.declared.fault.ParseFault.{ParseFault}
use Rattle.srv_template.specs.declared.fault.ParseFault.TheVariants.{Line, TwiceType, NoMemory, TooMany}

-- the name A of the type `service:A` that it is of, and its definitions
pub record Template : Type 0 where
  pub name : List ℕ
  pub definitions : List Definition

-- the most templates
abbrev pub most_templates : ℕ
most_templates = 256

-- with one more, of a type that has none yet
abbrev pub added_to : SiteTemplates → Template → Result SiteTemplates ParseFault
added_to templates t =
    if fin.contains_key templates t.name then Err TwiceType
    else (if nat_le most_templates (fin.len templates) then Err TooMany else Ok (fin.insert templates t.name t.definitions))

-- the fault that reading or adding gives, unless memory ran out
abbrev pub IsFault : {A : Type 0} → ParseFault → Result A ParseFault → Type 0
IsFault (Line n) read = read ≡ Err (Line n)
IsFault TwiceType read = read ≡ Err TwiceType
IsFault NoMemory read = Unit {0}
IsFault TooMany read = read ≡ Err TooMany

-- what it gives, unless memory ran out
abbrev pub IsReading : {A : Type 0} → Result A ParseFault → Result A ParseFault → Type 0
IsReading (Ok x) read = read ≡ Ok x
IsReading (Err e) read = IsFault e read

-- as they are stored: by their names, each once
abbrev pub pair_in : Template → List ℕ × List Definition
pair_in t = (t.name, t.definitions)

abbrev pub templates_stored : List Template → SiteTemplates
templates_stored list = fin.from_sorted (map pair_in list)

abbrev pub AreStored : List Template → Type 0
AreStored list = T (fin.is_sorted bytes_cmp (map pair_in list))
