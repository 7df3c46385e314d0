-- The rule file with which a run begins.
use Rattle.std.proofs.Common.{◌≡◌, ◌≢◌, Result, Ok, Err, refl, ap, sym, ◌∙◌}
use Rattle.std.specs.Prelude.{unwrap_or}
use Rattle.std.specs.Result.{is_ok, result_ok}
use Rattle.std.proofs.lemmas.Bool.{false≢true}
use Rattle.toml.proofs.OnLiterals.{toml_on_literals}
use Rattle.access_rules.specs.Deciding.{SiteRules}
use Rattle.rule_files.specs.RuleFiles.{IsFault, rules_in_table, rules_in_text}
use Rattle.rule_files.specs.declared.fault.RuleFault.{RuleFault}
use Rattle.rule_files.specs.declared.fault.RuleFault.TheVariants.{Shape, TwiceName, NoMemory, Toml}
use Rattle.replay_program.specs.OpeningRules.{opening_rules}
use Rattle.replay_program.specs.declared.opening.TheConstants.{OPENING_RULES}

-- it reads as the opening rules
read_opening : rules_in_text OPENING_RULES.now ≡ Ok opening_rules
unfolding toml_on_literals rules_in_text rules_in_table
read_opening = refl

pub are_opening : (rs : SiteRules) → rules_in_text OPENING_RULES.now ≡ Ok rs → rs ≡ opening_rules
are_opening rs read = ap (λ (r : Result SiteRules RuleFault). unwrap_or (result_ok r) rs) (sym read ∙ read_opening)

-- and without a fault
refused_not : (e : RuleFault) → rules_in_text OPENING_RULES.now ≡ Err e → ⊥
refused_not e read = false≢true (ap (λ (r : Result SiteRules RuleFault). is_ok r) (sym read ∙ read_opening))

pub no_fault : (e : RuleFault) → e ≢ NoMemory → IsFault e (rules_in_text OPENING_RULES.now) → ⊥
no_fault (Shape n) some read = refused_not (Shape n) read
no_fault TwiceName some read = refused_not TwiceName read
no_fault Toml some read = refused_not Toml read
no_fault NoMemory some read = some refl
