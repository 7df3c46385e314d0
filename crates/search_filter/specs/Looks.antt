-- How attributes are looked up of which a test accepts some.
use Rattle.std.specs.Prelude.{◌≡◌, ℕ, Bool, List, Option, IfSome}
use Rattle.std.specs.FinMap as fin
use Rattle.std.specs.Option.{option_copied}
use Rattle.attr_list.specs.Lists.{Attributes}
use Rattle.attr_list.specs.Maps.{kept_attributes}
use Rattle.attr_list.specs.Tests.{AcceptsAs}
use Rattle.search_filter.specs.declared.looks.Look.{Look}
use denote.Param.Members.{Shared}
use denote.Ref.{Bor}

-- a look found what these attributes have at its tag
abbrev pub IsLook : Attributes → Look → Type 0
IsLook a l = option_copied l.held ≡ fin.get a l.tag.now

-- the last look, if there was one, was at those of the attributes whose tags a test accepts
abbrev pub IsLast : {F : Type 0} → Shared F (Bor (List ℕ) × Unit {0}) Bool → F → Attributes → Option Look → Type 0
IsLast {F} g f a last = (p : List ℕ → Bool) → AcceptsAs g f p → IfSome last (IsLook (kept_attributes a p))
