-- What is read of some texts, where it is refused.
use Rattle.std.proofs.Common.{◌≡◌, List, ℕ, Option, Some, Result, Ok, Err, refl, ap, ◌∙◌}
use Rattle.std.specs.Result.{IsErr, IsErrAnd}
use Rattle.access_rules.specs.Deciding.{SiteRules}
use Rattle.rule_files.specs.RuleFiles.{rules_in_text}
use Rattle.rule_files.specs.RuleFiles as rule_files
use Rattle.rule_files.specs.declared.fault.RuleFault.{RuleFault}
use Rattle.rule_files.specs.declared.fault.RuleFault.TheVariants as rule_fault
use Rattle.site_config.specs.Configurations.{config_of}
use Rattle.site_config.specs.Configurations as configurations
use Rattle.site_config.specs.declared.config.Config as config
use Rattle.site_config.specs.declared.fault.ConfigFault.{ConfigFault}
use Rattle.site_config.specs.declared.fault.ConfigFault.TheVariants as config_fault
use Rattle.slp_text.specs.Reading.{read_then}
use Rattle.srv_template.specs.Conformity.{SiteTemplates}
use Rattle.template_files.specs.Reading.{template_in}
use Rattle.srv_template.specs.Templates.{added_to}
use Rattle.srv_template.specs.Templates as templates
use Rattle.srv_template.specs.declared.fault.ParseFault.{ParseFault}
use Rattle.srv_template.specs.declared.fault.ParseFault.TheVariants as template_fault
use Rattle.site_opening.specs.Openings.{config_start_of, rules_start_of, started, templates_and, IsReadAs}
use Rattle.site_opening.specs.Statuses.{config_start, file_start, rules_start, template_start}
use Rattle.site_opening.specs.declared.fault.StartFault.{StartFault}
use Rattle.site_opening.specs.declared.fault.StartFault.TheVariants.{Failed, Config, Rules, Template, NoMemory}
use Rattle.site_opening.specs.declared.files.FileFault.{FileFault}
use Rattle.site_opening.specs.declared.files.FileFault.TheVariants as file_fault

-- what refuses one reading refuses another
pub refused_by_one : {T U A B : Type 0} (are : T → A → Type 0) (read : T → Result A StartFault) (were : U → B → Type 0) (other : U → Result B StartFault) (e : StartFault)
    → ((t : T) → read t ≡ Err e → (u : U) × (other u ≡ Err e)) → IsReadAs are read (Err e) → IsReadAs were other (Err e)
refused_by_one are read were other Failed f r = tt
refused_by_one are read were other (Config e) f r = f r.0 r.1
refused_by_one are read were other (Rules e) f r = f r.0 r.1
refused_by_one are read were other (Template e) f r = f r.0 r.1
refused_by_one are read were other NoMemory f r = tt

-- what `?` answers is the fault that it met
is_residual : {B : Type 0} (e : StartFault) (r : Result B StartFault) → IsErr r × IsErrAnd r (λ x. x ≡ e) → r ≡ Err e
is_residual e (Ok x) h = absurd h.1
is_residual e (Err x) h = ap Err h.1

pub refused_as : {T U A B : Type 0} (are : T → A → Type 0) (read : T → Result A StartFault) (were : U → B → Type 0) (other : U → Result B StartFault) (e : StartFault) (r : Result B StartFault)
    → IsErr r × IsErrAnd r (λ x. x ≡ e) → ((t : T) → read t ≡ Err e → (u : U) × (other u ≡ Err e)) → IsReadAs are read (Err e) → IsReadAs were other r
refused_as are read were other e r is f h = rw (is_residual e r is) (refused_by_one are read were other e f h)

-- a file that fails says nothing of texts
pub failed_file : {T A : Type 0} (are : T → A → Type 0) (read : T → Result A StartFault) (e : FileFault) → IsReadAs are read (Err (file_start e))
failed_file are read file_fault.Missing = tt
failed_file are read file_fault.Unread = tt
failed_file are read file_fault.NotText = tt
failed_file are read file_fault.NoMemory = tt

-- what refuses a configuration refuses the start
config_by : (are : List ℕ → config.Config → Type 0) (text : List ℕ) (e : ConfigFault) → configurations.IsFault e (config_of text) → IsReadAs are config_start_of (Err (config_start e))
config_by are text config_fault.Toml h = (text, ap (started config_start) h)
config_by are text config_fault.Missing h = (text, ap (started config_start) h)
config_by are text config_fault.Range h = (text, ap (started config_start) h)
config_by are text config_fault.NoMemory h = tt

pub refused_config : (are : List ℕ → config.Config → Type 0) (text : List ℕ) (e : ConfigFault) {s : StartFault} → s ≡ config_start e → configurations.IsFault e (config_of text) → IsReadAs are config_start_of (Err s)
refused_config are text e is h = rw is (config_by are text e h)

-- and a rule file
rules_by : (are : Option (List ℕ) → SiteRules → Type 0) (text : List ℕ) (e : RuleFault) → rule_files.IsFault e (rules_in_text text) → IsReadAs are rules_start_of (Err (rules_start e))
rules_by are text (rule_fault.Shape n) h = (Some text, ap (started rules_start) h)
rules_by are text rule_fault.TwiceName h = (Some text, ap (started rules_start) h)
rules_by are text rule_fault.NoMemory h = tt
rules_by are text rule_fault.Toml h = (Some text, ap (started rules_start) h)

pub refused_rules : (are : Option (List ℕ) → SiteRules → Type 0) (text : List ℕ) (e : RuleFault) {s : StartFault} → s ≡ rules_start e → rule_files.IsFault e (rules_in_text text) → IsReadAs are rules_start_of (Err s)
refused_rules are text e is h = rw is (rules_by are text e h)

-- and a template, of which one reading is this
refused_by : (are : List ℕ → SiteTemplates → Type 0) (before : SiteTemplates) (text : List ℕ) (e : ParseFault) → templates.IsFault e (read_then (added_to before) (template_in text))
    → IsReadAs are (templates_and before) (Err (template_start e))
refused_by are before text (template_fault.Line n) h = (text, ap (started template_start) h)
refused_by are before text template_fault.TwiceType h = (text, ap (started template_start) h)
refused_by are before text template_fault.NoMemory h = tt
refused_by are before text template_fault.TooMany h = (text, ap (started template_start) h)

-- a fault stays one through what keeps faults
moved : {A B : Type 0} (f : Result A ParseFault → Result B ParseFault) (keeps : (e : ParseFault) → f (Err e) ≡ Err e) (e : ParseFault) (read : Result A ParseFault) → templates.IsFault e read → templates.IsFault e (f read)
moved f keeps (template_fault.Line n) read h = ap f h ∙ keeps _
moved f keeps template_fault.TwiceType read h = ap f h ∙ keeps _
moved f keeps template_fault.NoMemory read h = tt
moved f keeps template_fault.TooMany read h = ap f h ∙ keeps _

pub refused_parse : (are : List ℕ → SiteTemplates → Type 0) (before : SiteTemplates) (text : List ℕ) (e : ParseFault) {s : StartFault} → s ≡ template_start e → templates.IsFault e (template_in text)
    → IsReadAs are (templates_and before) (Err s)
refused_parse are before text e from h = rw from (refused_by are before text e (moved (read_then (added_to before)) (λ e. refl) e (template_in text) h))

pub refused_add : (are : List ℕ → SiteTemplates → Type 0) (before : SiteTemplates) (text : List ℕ) (t : templates.Template) (e : ParseFault) {s : StartFault} → s ≡ template_start e → template_in text ≡ Ok t
    → templates.IsFault e (added_to before t) → IsReadAs are (templates_and before) (Err s)
refused_add are before text t e from is h = rw from (refused_by are before text e (rw is h))
