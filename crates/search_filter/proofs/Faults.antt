-- A fault stays what it is.
use Rattle.std.proofs.Common.{◌≡◌, Result, ap, ◌∙◌}
use Rattle.slp_text.specs.Reading.{read_map, read_then}
use Rattle.search_filter.specs.Outcomes.{IsFault}
use Rattle.search_filter.specs.declared.fault.FilterFault.{FilterFault}
use Rattle.search_filter.specs.declared.fault.FilterFault.TheVariants.{Syntax, Wildcard, TooDeep, NoMemory}

-- the fault of one reading, which is another's
pub fault-same : {A : Type 0} (e : FilterFault) (r all : Result A FilterFault) → all ≡ r → IsFault e r → IsFault e all
fault-same Syntax r all same f = same ∙ f
fault-same Wildcard r all same f = same ∙ f
fault-same TooDeep r all same f = same ∙ f
fault-same NoMemory r all same f = tt

pub fault-map : {A B : Type 0} (g : A → B) (e : FilterFault) (r : Result A FilterFault) → IsFault e r → IsFault e (read_map g r)
fault-map g Syntax r f = ap (read_map g) f
fault-map g Wildcard r f = ap (read_map g) f
fault-map g TooDeep r f = ap (read_map g) f
fault-map g NoMemory r f = tt

pub fault-then : {A B : Type 0} (g : A → Result B FilterFault) (e : FilterFault) (r : Result A FilterFault) → IsFault e r → IsFault e (read_then g r)
fault-then g Syntax r f = ap (read_then g) f
fault-then g Wildcard r f = ap (read_then g) f
fault-then g TooDeep r f = ap (read_then g) f
fault-then g NoMemory r f = tt
