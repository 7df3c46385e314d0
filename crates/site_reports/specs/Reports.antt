-- What is printed of a configuration, a template or a rule file that was read.
use Rattle.std.specs.Prelude.{ℕ, Result, Ok, Err, List, [], ◌∷◌, ◌++◌, codes}
use Rattle.std.specs.Fmt.{decimal}
use Rattle.rule_files.specs.declared.fault.RuleFault.{RuleFault}
use Rattle.rule_files.specs.declared.fault.RuleFault.TheVariants as rule_fault
use Rattle.site_config.specs.declared.fault.ConfigFault.{ConfigFault}
use Rattle.site_config.specs.declared.fault.ConfigFault.TheVariants as config_fault
use Rattle.slp_text.specs.Ascii.{line_feed}
use Rattle.srv_template.specs.declared.fault.ParseFault.{ParseFault}
use Rattle.srv_template.specs.declared.fault.ParseFault.TheVariants as template_fault

-- what is written where something of a kind is refused, for the fault of this number
abbrev pub refusal_text : List ℕ → ℕ → List ℕ
refusal_text kind number = codes "! " ++ kind ++ codes " " ++ decimal number ++ line_feed ∷ []

-- the number of a fault of a configuration
abbrev pub config_fault_number : ConfigFault → ℕ
config_fault_number config_fault.Toml = 1
config_fault_number config_fault.Missing = 2
config_fault_number config_fault.Range = 3
config_fault_number config_fault.NoMemory = 4

-- what is written of a configuration that is taken, and of one that is refused
abbrev pub configured_text : List ℕ
configured_text = codes "# config" ++ line_feed ∷ []

abbrev pub config_fault_text : ConfigFault → List ℕ
config_fault_text e = refusal_text (codes "config") (config_fault_number e)

-- what is written of a configuration
abbrev pub config_text : Result (Unit {0}) ConfigFault → List ℕ
config_text (Ok x) = configured_text
config_text (Err e) = config_fault_text e

-- the number of a fault of a template
abbrev pub template_fault_number : ParseFault → ℕ
template_fault_number (template_fault.Line n) = 1
template_fault_number template_fault.TwiceType = 2
template_fault_number template_fault.NoMemory = 3
template_fault_number template_fault.TooMany = 4

-- what is written of a template that is added, and of one that is refused
abbrev pub added_text : List ℕ
added_text = codes "# template" ++ line_feed ∷ []

abbrev pub template_fault_text : ParseFault → List ℕ
template_fault_text e = refusal_text (codes "template") (template_fault_number e)

-- what is written of a template
abbrev pub template_text : Result (Unit {0}) ParseFault → List ℕ
template_text (Ok x) = added_text
template_text (Err e) = template_fault_text e

-- the number of a fault of a rule file
abbrev pub rule_fault_number : RuleFault → ℕ
rule_fault_number (rule_fault.Shape n) = 1
rule_fault_number rule_fault.TwiceName = 2
rule_fault_number rule_fault.NoMemory = 3
rule_fault_number rule_fault.Toml = 4

-- what is written where so many rules decide from now on, and of a rule file that is refused
abbrev pub ruled_text : ℕ → List ℕ
ruled_text number = codes "# rules " ++ decimal number ++ line_feed ∷ []

abbrev pub rule_fault_text : RuleFault → List ℕ
rule_fault_text e = refusal_text (codes "rules") (rule_fault_number e)

-- what is written of a rule file, which has so many rules or is refused
abbrev pub rules_text : Result ℕ RuleFault → List ℕ
rules_text (Ok number) = ruled_text number
rules_text (Err e) = rule_fault_text e
