-- What stays the same while a directory runs.
use Rattle.std.specs.Prelude.{ℕ, ◌<◌, ◌≤◌, List, length, refl}
use Rattle.std.specs.Coded.{Coded, code_by, coded×, coded_ℕ, coded_list}
use Rattle.slp_scopes.specs.Scopes.{printed_scopes}
use Rattle.srv_template.specs.Codes.{templates_code}
use Rattle.srv_template.specs.Conformity.{SiteTemplates}

-- the supported scopes in key order, the greatest number of entries, the templates, and the boot stamp in seconds
pub record Site : Type 0 where
  pub scopes : List (List ℕ)
  pub capacity : ℕ
  pub templates : SiteTemplates
  pub boot : ℕ

abbrev pub site_code : Coded Site
site_code = code_by (List (List ℕ) × (ℕ × (SiteTemplates × ℕ))) (coded× (coded_list (coded_list coded_ℕ)) (coded× coded_ℕ (coded× templates_code coded_ℕ)))
    (λ p. (p.scopes, (p.capacity, (p.templates, p.boot)))) (λ t. record { scopes = t.0; capacity = t.1.0; templates = t.1.1.0; boot = t.1.1.1 }) (λ _. refl)

-- 1 to 16 scopes, which have at most 1,024 bytes as a list, and 1 to 65,536 entries
pub record IsSite (scopes : List (List ℕ)) (capacity : ℕ) : Type 0 where
  pub some_scope : 0 < length scopes
  pub few_scopes : length scopes ≤ 16
  pub short_scopes : length (printed_scopes scopes) ≤ 1024
  pub some_entry : 0 < capacity
  pub few_entries : capacity ≤ 65536
