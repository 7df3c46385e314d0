-- What a server would begin with on what was read of the files of a site.
use Rattle.std.specs.Prelude.{ℕ, List, [], ◌∷◌, Option, Some, None, Result, Ok, Err}
use Rattle.std.specs.FinMap as fin
use Rattle.access_rules.specs.Deciding.{SiteRules, no_rules}
use Rattle.site_config.specs.declared.config.Config.{Config}
use Rattle.site_opening.specs.Openings.{config_start_of, files_with, rules_start_of, templates_and}
use Rattle.site_opening.specs.Statuses.{file_start}
use Rattle.site_opening.specs.declared.fault.StartFault.{StartFault}
use Rattle.site_opening.specs.declared.files.FileFault.{FileFault}
use Rattle.site_opening.specs.declared.opening.SiteFiles.{SiteFiles}
use Rattle.slp_text.specs.Reading.{read_map, read_then}
use Rattle.srv_template.specs.Conformity.{SiteTemplates}
use Rattle.site_check.specs.SiteLines.{ReadTemplate, ReadToml, SiteReads}

-- what comes of what was read of a file
abbrev pub begun_of : {A : Type 0} → (List ℕ → Result A StartFault) → Result (List ℕ) FileFault → Result A StartFault
begun_of f (Ok text) = f text
begun_of f (Err e) = Err (file_start e)

-- the rules that the text of a rule file is
abbrev pub rule_file_begun : ReadToml → Result SiteRules StartFault
rule_file_begun r = begun_of (λ text. rules_start_of (Some text)) r.read

-- the rules of the rule file, none where no file is named
abbrev pub rules_begun : Option (List ℕ) → ReadToml → Result SiteRules StartFault
rules_begun None r = Ok no_rules
rules_begun (Some file) r = rule_file_begun r

-- templates with those of files, added one by one
abbrev pub templates_begun : SiteTemplates → List ReadTemplate → Result SiteTemplates StartFault
templates_begun templates [] = Ok templates
templates_begun templates (f ∷ fs) = read_then (λ more. templates_begun more fs) (begun_of (templates_and templates) f.read)

-- the rules, then the templates
abbrev pub named_begun : SiteReads → Config → Result SiteFiles StartFault
named_begun s config = read_then (λ rules. read_map (λ templates. files_with config (rules, templates)) (templates_begun fin.empty s.templates)) (rules_begun config.rules s.rules)

-- the configuration, then what it names: what a server begins with, or the first reason why it does not start
abbrev pub site_begun : SiteReads → Result SiteFiles StartFault
site_begun s = read_then (named_begun s) (begun_of config_start_of s.config.read)
