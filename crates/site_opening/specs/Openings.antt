-- What a site begins with, by the texts of its files.
use Rattle.std.specs.Prelude.{◌≡◌, ℕ, Option, Some, None, is_some, Result, Ok, Err, IsOk, List, [], ◌∷◌, length}
use Rattle.std.specs.FinMap as fin
use Rattle.access_rules.specs.Deciding.{SiteRules, no_rules}
use Rattle.rule_files.specs.RuleFiles.{rules_in_text}
use Rattle.site_config.specs.Configurations.{config_of}
use Rattle.site_config.specs.declared.config.Config.{Config}
use Rattle.slp_text.specs.Reading.{read_map, read_then}
use Rattle.srv_template.specs.Conformity.{SiteTemplates}
use Rattle.template_files.specs.Reading.{template_in}
use Rattle.srv_template.specs.Templates.{added_to}
use Rattle.site_opening.specs.Statuses.{config_start, rules_start, template_start}
use Rattle.site_opening.specs.declared.fault.StartFault.{StartFault}
use Rattle.site_opening.specs.declared.fault.StartFault.TheVariants.{Failed, Config as ConfigRefused, Rules, Template, NoMemory}
use Rattle.site_opening.specs.declared.opening.SiteFiles.{SiteFiles}

-- what is read, or why a server does not start
abbrev pub started : {A E : Type 0} → (E → StartFault) → Result A E → Result A StartFault
started f (Ok x) = Ok x
started f (Err e) = Err (f e)

abbrev pub config_start_of : List ℕ → Result Config StartFault
config_start_of text = started config_start (config_of text)

-- the rules of a rule file; none where no file is named
abbrev pub rules_start_of : Option (List ℕ) → Result SiteRules StartFault
rules_start_of None = Ok no_rules
rules_start_of (Some text) = started rules_start (rules_in_text text)

-- the templates with the one that a text reads as, if it is read and may be added
abbrev pub templates_and : SiteTemplates → List ℕ → Result SiteTemplates StartFault
templates_and templates text = started template_start (read_then (added_to templates) (template_in text))

-- the templates that texts read as, added one by one; the newest text comes first
abbrev pub templates_start_of : List (List ℕ) → Result SiteTemplates StartFault
templates_start_of [] = Ok fin.empty
templates_start_of (text ∷ earlier) = read_then (λ templates. templates_and templates text) (templates_start_of earlier)

-- the rules and the templates of the files that a configuration names, read in this order
abbrev pub named_start_of : Option (List ℕ) × List (List ℕ) → Result (SiteRules × SiteTemplates) StartFault
named_start_of t = read_then (λ rules. read_map (λ templates. (rules, templates)) (templates_start_of t.1)) (rules_start_of t.0)

-- the texts of the files of a site: the configuration, the rule file if there is one, and the templates, the newest first
pub record SiteTexts : Type 0 where
  pub config : List ℕ
  pub rules : Option (List ℕ)
  pub templates : List (List ℕ)

-- what the files of a site say, where this is its configuration, and these are its rules and its templates
abbrev pub files_with : Config → SiteRules × SiteTemplates → SiteFiles
files_with config named = record { config = config; rules = named.0; templates = named.1 }

-- what a server begins with on these texts, or the first reason why it does not start: configuration, rules, templates
abbrev pub start_of : SiteTexts → Result SiteFiles StartFault
start_of t =
    read_then (λ config. read_map (files_with config)
    (named_start_of (t.rules, t.templates)))
    (config_start_of t.config)

-- each text is taken: that of the configuration, of the rule file if there is one, and of each template
pub record AreTaken (t : SiteTexts) : Type 0 where
  pub config : IsOk (config_start_of t.config)
  pub rules : IsOk (rules_start_of t.rules)
  pub templates : IsOk (templates_start_of t.templates)

-- each of the files that a configuration names has a text
abbrev pub AreOf : Config → Option (List ℕ) × List (List ℕ) → Type 0
AreOf c t = (is_some t.0 ≡ is_some c.rules) × (length t.1 ≡ length c.templates)

abbrev pub AreNamed : SiteTexts → SiteFiles → Type 0
AreNamed t s = AreOf s.config (t.rules, t.templates)

-- what was read of texts, those that are of what was read; where a file failed or memory ran out it says nothing
abbrev pub IsReadAs : {T A : Type 0} → (T → A → Type 0) → (T → Result A StartFault) → Result A StartFault → Type 0
IsReadAs are read (Ok x) = (t : _) × are t x × (read t ≡ Ok x)
IsReadAs are read (Err Failed) = Unit {0}
IsReadAs are read (Err (ConfigRefused e)) = (t : _) × (read t ≡ Err (ConfigRefused e))
IsReadAs are read (Err (Rules e)) = (t : _) × (read t ≡ Err (Rules e))
IsReadAs are read (Err (Template e)) = (t : _) × (read t ≡ Err (Template e))
IsReadAs are read (Err NoMemory) = Unit {0}
