-- Each text of a site is taken exactly where a server starts on them.
use Rattle.std.proofs.Common.{◌≡◌, ℕ, false, true, Result, Ok, Err, refl, arith}
use Rattle.std.specs.Prelude.{◌↔◌, IsOk}
use Rattle.access_rules.specs.Deciding.{SiteRules}
use Rattle.site_config.specs.declared.config.Config as config
use Rattle.slp_text.specs.Reading.{read_map, read_then}
use Rattle.srv_template.specs.Conformity.{SiteTemplates}
use Rattle.site_opening.specs.Openings.{AreTaken, SiteTexts, config_start_of, files_with, rules_start_of, start_of, templates_start_of}
use Rattle.site_opening.specs.Statuses.{opening_status, start_status}
use Rattle.site_opening.specs.declared.fault.StartFault.{StartFault}
use Rattle.site_opening.specs.declared.fault.StartFault.TheVariants.{Failed, Config, Rules, Template, NoMemory}

-- the status by what the texts read as
abbrev status_of : Result config.Config StartFault → Result SiteRules StartFault → Result SiteTemplates StartFault → ℕ
status_of read rules templates = opening_status (read_then (λ c. read_map (files_with c) (read_then (λ rs. read_map (λ (ts : SiteTemplates). (rs, ts)) templates) rules)) read)

no_zero : (e : StartFault) → start_status e ≡ 0 → ⊥
no_zero Failed h = let e : 1 ≡ 0 = h in omega (arith, e)
no_zero (Config x) h = let e : 2 ≡ 0 = h in omega (arith, e)
no_zero (Rules x) h = let e : 2 ≡ 0 = h in omega (arith, e)
no_zero (Template x) h = let e : 2 ≡ 0 = h in omega (arith, e)
no_zero NoMemory h = let e : 3 ≡ 0 = h in omega (arith, e)

zero_taken : (read : Result config.Config StartFault) (rules : Result SiteRules StartFault) (templates : Result SiteTemplates StartFault)
    → status_of read rules templates ≡ 0 → IsOk read × IsOk rules × IsOk templates
zero_taken (Err e) rules templates h = absurd (no_zero e h)
zero_taken (Ok c) (Err e) templates h = absurd (no_zero e h)
zero_taken (Ok c) (Ok rs) (Err e) h = absurd (no_zero e h)
zero_taken (Ok c) (Ok rs) (Ok ts) h = (refl, refl, refl)

taken_zero : (read : Result config.Config StartFault) (rules : Result SiteRules StartFault) (templates : Result SiteTemplates StartFault)
    → IsOk read → IsOk rules → IsOk templates → status_of read rules templates ≡ 0
taken_zero (Err e) rules templates i j k = absurd (let e : false ≡ true = i in cc)
taken_zero (Ok c) (Err e) templates i j k = absurd (let e : false ≡ true = j in cc)
taken_zero (Ok c) (Ok rs) (Err e) i j k = absurd (let e : false ≡ true = k in cc)
taken_zero (Ok c) (Ok rs) (Ok ts) i j k = refl

pub taken_is_zero : (t : SiteTexts) → (opening_status (start_of t) ≡ 0) ↔ AreTaken t
taken_is_zero t = (
  (λ h.
      let taken = zero_taken (config_start_of t.config) (rules_start_of t.rules) (templates_start_of t.templates) h in
      record { config = taken.0; rules = taken.1; templates = taken.2 }),
  (λ taken. taken_zero (config_start_of t.config) (rules_start_of t.rules) (templates_start_of t.templates) taken.config taken.rules taken.templates),
)
