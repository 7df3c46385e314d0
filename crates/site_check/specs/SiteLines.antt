-- What is written of the files of a site, by what reading each of them gave.
use Rattle.std.specs.Prelude.{◌≡◌, ℕ, ◌≤◌, List, [], ◌∷◌, ◌++◌, codes, length, map, Option, Some, None, Result, Ok, Err, IfOk, option_and_then, ◌==◌, if◌then◌else◌}
use Rattle.std.specs.FinMap as fin
use Rattle.std.specs.Fmt.{decimal}
use Rattle.std.specs.Result.{result_ok, result_unwrap_or}
use Rattle.access_rules.specs.Deciding.{SiteRules, rules_in}
use Rattle.rule_files.specs.RuleFiles.{rules_in_text}
use Rattle.rule_files.specs.declared.fault.RuleFault.{RuleFault}
use Rattle.service_url.specs.Types.{type_of}
use Rattle.site_config.specs.Configurations.{config_of}
use Rattle.site_config.specs.declared.config.Config.{Config}
use Rattle.site_config.specs.declared.fault.ConfigFault.{ConfigFault}
use Rattle.site_opening.specs.declared.files.FileFault.{FileFault}
use Rattle.site_opening.specs.declared.files.FileFault.TheVariants as file_fault
use Rattle.shown_text.specs.Shown.{shown}
use Rattle.slp_text.specs.Ascii.{line_feed}
use Rattle.slp_text.specs.Reading.{read_then}
use Rattle.srv_template.specs.Conformity.{SiteTemplates}
use Rattle.template_files.specs.Reading.{template_in}
use Rattle.srv_template.specs.Templates.{Template, added_to}
use Rattle.srv_template.specs.declared.fault.ParseFault.{ParseFault}
use Rattle.srv_template.specs.declared.fault.ParseFault.TheVariants as parse_fault
use Rattle.site_check.specs.ConfigFaults.{config_lines}
use Rattle.site_check.specs.Descriptors.{descriptor_lines}
use Rattle.site_check.specs.Lines.{File, NoRuleFile, SameType, problem_line, warning_line}
use Rattle.site_check.specs.ListenWarnings.{listen_lines}
use Rattle.site_check.specs.NotToml.{Stop}
use Rattle.site_check.specs.RuleFaults.{rule_file_lines}
use Rattle.site_check.specs.RuleWarnings.{stand_line, warnings_of_rules}
use Rattle.site_check.specs.TemplateFaults.{default_lines, template_lines}

-- ---- a file that has no text

abbrev pub fault_text : FileFault → List ℕ
fault_text file_fault.Missing = codes "there is no such file"
fault_text file_fault.Unread = codes "it cannot be read"
fault_text file_fault.NotText = codes "it is not UTF-8"
fault_text file_fault.NoMemory = codes "out of memory"

abbrev pub unread_line : List ℕ → FileFault → List ℕ
unread_line file e = shown file ++ codes ": " ++ fault_text e ++ line_feed ∷ []

-- what is written of a file: why it has no text, else what is said of the text
abbrev pub file_lines : List ℕ → (List ℕ → List ℕ) → Result (List ℕ) FileFault → List ℕ
file_lines file of_text (Ok text) = of_text text
file_lines file of_text (Err e) = unread_line file e

-- ---- the rule file

-- what is wrong with the text of a rule file, where reading it stops so, else what is surely not meant with its rules
abbrev pub told_rules : List ℕ → List (List ℕ) → List ℕ → Stop → Result SiteRules RuleFault → List ℕ
told_rules file scopes text stop (Ok rules) = warnings_of_rules file rules scopes
told_rules file scopes text stop (Err e) = rule_file_lines file text stop

abbrev pub rule_text_lines : List ℕ → List (List ℕ) → List ℕ → Stop → List ℕ
rule_text_lines file scopes text stop = told_rules file scopes text stop (rules_in_text text)

-- the rules of the rule file, where it is read and taken
abbrev pub rules_read : Result (List ℕ) FileFault → Option SiteRules
rules_read read = option_and_then (λ text. result_ok (rules_in_text text)) (result_ok read)

-- ---- templates

-- the type of a template
abbrev pub template_kind : Template → Option (List ℕ)
template_kind t = result_ok (type_of (codes "service:" ++ t.name))

-- that no rule lets anyone register a service of its type, or none but rules about every type
abbrev pub template_warning : List ℕ → Option SiteRules → Template → List ℕ
template_warning file None t = []
template_warning file (Some rules) t = stand_line (File file) (rules_in rules) (template_kind t)

-- that an earlier template is of its type
abbrev pub addition_line : List ℕ → Result SiteTemplates ParseFault → List ℕ
addition_line file (Err parse_fault.TwiceType) = problem_line (File file) SameType
addition_line file _ = []

-- what is said of a template that a text is, beside those that were added before; or at which line it is none
abbrev pub told_template : List ℕ → List ℕ → Option SiteRules → SiteTemplates → Result Template ParseFault → List ℕ
told_template file text rules templates (Ok t) = template_warning file rules t ++ default_lines file text ++ addition_line file (added_to templates t)
told_template file text rules templates (Err (parse_fault.Line n)) = template_lines file text n
told_template file text rules templates _ = []

abbrev pub template_text_lines : List ℕ → Option SiteRules → SiteTemplates → List ℕ → List ℕ
template_text_lines file rules templates text = told_template file text rules templates (template_in text)

-- the templates with the one that a text is, if it is one and may be added
abbrev pub templates_with : SiteTemplates → List ℕ → SiteTemplates
templates_with templates text = result_unwrap_or (read_then (added_to templates) (template_in text)) templates

abbrev pub templates_read : SiteTemplates → Result (List ℕ) FileFault → SiteTemplates
templates_read templates (Ok text) = templates_with templates text
templates_read templates (Err e) = templates

-- a template by the path of its file, and what reading the file gave
pub record ReadTemplate : Type 0 where
  pub path : List ℕ
  pub read : Result (List ℕ) FileFault

-- what is written of template after template, beside those that were added before
abbrev pub each_template_lines : Option SiteRules → SiteTemplates → List ReadTemplate → List ℕ
each_template_lines rules templates [] = []
each_template_lines rules templates (f ∷ fs) =
    file_lines f.path (template_text_lines f.path rules templates) f.read ++ each_template_lines rules (templates_read templates f.read) fs

-- ---- the site

-- what reading a file of TOML gave, and where reading its text as TOML stops, if it is none
pub record ReadToml : Type 0 where
  pub read : Result (List ℕ) FileFault
  pub stop : Stop

-- it stops within the text
abbrev pub StopsWithin : ReadToml → Type 0
StopsWithin r = IfOk r.read (λ text. r.stop.place ≤ length text)

-- what reading the files of a site gave: the configuration, the rule file if there is one, and each template; and the limits of the process that reads them
pub record SiteReads : Type 0 where
  pub config : ReadToml
  pub rules : ReadToml
  pub templates : List ReadTemplate
  pub limits : Result (List ℕ) FileFault

-- the rules in the file that a configuration names, where it names one that is read and taken
abbrev pub named_rules : Option (List ℕ) → ReadToml → Option SiteRules
named_rules None r = None
named_rules (Some file) r = rules_read r.read

-- of the rule file that the configuration in a file names, or that it names none
abbrev pub named_rule_lines : List ℕ → List (List ℕ) → Option (List ℕ) → ReadToml → List ℕ
named_rule_lines path scopes None r = warning_line (File path) NoRuleFile
named_rule_lines path scopes (Some file) r = file_lines file (λ text. rule_text_lines file scopes text r.stop) r.read

-- of the files that the configuration in a file names: the rules, then each template
abbrev pub named_file_lines : List ℕ → SiteReads → Config → List ℕ
named_file_lines path s config = named_rule_lines path config.scopes config.rules s.rules ++ each_template_lines (named_rules config.rules s.rules) fin.empty s.templates

-- of its addresses, of the descriptors that a server can need, and then of these files
abbrev pub named_lines : List ℕ → SiteReads → Config → List ℕ
named_lines path s config =
    listen_lines path config.listen ++ descriptor_lines path (length config.listen) config.connections s.limits ++ named_file_lines path s config

-- of the text of a configuration: what is wrong with it, else what is written of the files that it names
abbrev pub told_config : List ℕ → List ℕ → SiteReads → Result Config ConfigFault → List ℕ
told_config path text s (Ok config) = named_lines path s config
told_config path text s (Err e) = config_lines path text s.config.stop

-- of the configuration in a file, and of the files that it names
abbrev pub site_lines : List ℕ → SiteReads → List ℕ
site_lines path s = file_lines path (λ text. told_config path text s (config_of text)) s.config.read

-- each template that a configuration names was read, in their order
pub record AreNamed (s : SiteReads) (config : Config) : Type 0 where
  pub rules : StopsWithin s.rules
  pub templates : map (λ t. t.path) s.templates ≡ config.templates

-- what was read is of the files of one site
pub record AreRead (s : SiteReads) : Type 0 where
  pub config : StopsWithin s.config
  pub named : IfOk s.config.read (λ text. IfOk (config_of text) (AreNamed s))

-- ---- the last line

-- what a server would do, by its status; want of memory says nothing of a server
abbrev pub status_text : ℕ → List ℕ
status_text status =
    if status == 0 then codes "ok"
    else (if status == 3 then codes "there was no memory for the check" else codes "slpda would not start (status " ++ decimal status ++ codes ")")

abbrev pub status_ending : ℕ → List ℕ
status_ending status = codes ": " ++ status_text status ++ line_feed ∷ []

abbrev pub status_line : List ℕ → ℕ → List ℕ
status_line path status = shown path ++ status_ending status
