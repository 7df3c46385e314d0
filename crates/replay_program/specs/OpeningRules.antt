-- The rules with which a run begins: everyone may do everything everywhere, and nothing is hidden.
use Rattle.std.specs.Prelude.{ℕ, true, false, List, [], ◌∷◌, None, codes}
use Rattle.access_rules.specs.declared.rule.Action.{Action}
use Rattle.access_rules.specs.declared.rule.Action.TheVariants.{Register, Withdraw, See}
use Rattle.access_rules.specs.declared.rule.Rule.{Rule}
use Rattle.access_rules.specs.Deciding.{SiteRules}

-- every address, every type, every scope
abbrev pub open_to_all : List ℕ → Action → Rule
open_to_all name action = record { name = name; from = record { addr = 0; bits = 0 } ∷ []; action = action; kind = None; scopes = None; allow = true; owner = false }

abbrev pub opening_rules : SiteRules
opening_rules = record { rules = open_to_all (codes "all-register") Register ∷ open_to_all (codes "all-withdraw") Withdraw ∷ open_to_all (codes "all-see") See ∷ []; hides = [] }
