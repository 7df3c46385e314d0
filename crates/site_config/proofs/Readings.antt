-- What is read step by step.
use Rattle.std.proofs.Common.{Option, Some, None, Ok, Err, Result, refl, ap}
use Rattle.std.specs.Result.{result_err}
use Rattle.std.specs.Option.{option_and_then}
use Rattle.slp_text.specs.Reading.{read_then}
use Rattle.site_config.specs.Configurations.{in_range, IsFault, IsKeyFault, IsReading}
use Rattle.site_config.specs.declared.fault.ConfigFault.{ConfigFault}
use Rattle.site_config.specs.declared.fault.ConfigFault.TheVariants.{Toml, Missing, Range, NoMemory}

-- a value that is refused is refused under each further test
pub refused_too : {A B : Type 0} (f : A → Option B) (e : ConfigFault) (o : Option A) → IsFault e (in_range o) → IsFault e (in_range (option_and_then f o))
refused_too f NoMemory o h = tt
refused_too f Toml None h = absurd cc
refused_too f Toml (Some x) h = absurd cc
refused_too f Missing None h = absurd cc
refused_too f Missing (Some x) h = absurd cc
refused_too f Range None h = refl
refused_too f Range (Some x) h = absurd cc

-- the first fault is that of the whole
pub fault_first : {A B : Type 0} (f : A → Result B ConfigFault) (e : ConfigFault) (r : Result A ConfigFault) → IsFault e r → IsFault e (read_then f r)
fault_first f NoMemory r h = tt
fault_first f Toml r h = ap (read_then f) h
fault_first f Missing r h = ap (read_then f) h
fault_first f Range r h = ap (read_then f) h

-- the fault of a reading is that of what is read
pub fault_read : {A : Type 0} (told read : Result A ConfigFault) → IsReading told read → IsKeyFault (result_err told) (result_err read)
fault_read (Ok x) read h = ap result_err h
fault_read (Err NoMemory) read h = tt
fault_read (Err Toml) read h = ap result_err h
fault_read (Err Missing) read h = ap result_err h
fault_read (Err Range) read h = ap result_err h
