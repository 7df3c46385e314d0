-- What an agent starts with.
use Rattle.std.specs.Prelude.{◌≡◌, ℕ, Ok}
use Rattle.access_rules.specs.Deciding.{SiteRules}
use Rattle.directory_judge.specs.Sites.{Site}
use Rattle.site_config.specs.Configurations.{IsWithin}
use Rattle.site_config.specs.declared.config.Config.{Config}
use Rattle.site_opening.specs.Openings.{SiteTexts, files_with, start_of, AreNamed}
use Rattle.srv_template.specs.Conformity.{SiteTemplates}

-- the site of a configuration, with these templates and this boot stamp
abbrev pub site_with : Config → SiteTemplates → ℕ → Site
site_with c templates boot = record { scopes = c.scopes; capacity = c.capacity; templates = templates; boot = boot }

-- what a server begins with: a configuration, and the rules and templates of the files that it names
pub record IsBegun (c : Config) (boot : ℕ) (deciding : SiteRules) (opened : Site) : Type 0 where
  pub limits : IsWithin c
  pub texts : (t : SiteTexts) × AreNamed t (files_with c (deciding, opened.templates)) × (start_of t ≡ Ok (files_with c (deciding, opened.templates)))
  pub site : opened ≡ site_with c opened.templates boot
