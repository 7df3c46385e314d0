-- What is written of the files of a site.
use Rattle.std.proofs.Common.{◌≡◌, ◌≢◌, ◌++◌, ◌∷◌, [], ℕ, List, map, Option, Some, Result, Ok, Err, IfOk, OnOk, refl, sym, ap, ◌∙◌, append_assoc, append-nil, subst, arith}
use Rattle.std.specs.FinMap as fin
use Rattle.std.specs.Io.KnownBytes.{Appends}
use Rattle.std.proofs.KnownBytes.{Appends-trans}
use Rattle.std.proofs.lemmas.List.{map-append}
use Rattle.std.specs.Option.{option_and_then, option_map, option_map_or}
use Rattle.std.specs.Result.{result_and, result_ok}
use Rattle.access_rules.specs.Deciding.{SiteRules}
use Rattle.srv_template.specs.Conformity.{SiteTemplates}
use Rattle.site_config.specs.Configurations.{IsFault, config_of}
use Rattle.site_config.specs.declared.config.Config.{Config}
use Rattle.site_config.specs.declared.fault.ConfigFault.{ConfigFault}
use Rattle.site_config.specs.declared.fault.ConfigFault.TheVariants as fault
use Rattle.site_opening.specs.Openings.{rules_start_of, templates_and}
use Rattle.site_opening.specs.Statuses.{config_start, file_start, opening_status, start_status}
use Rattle.site_opening.specs.declared.fault.StartFault.{StartFault}
use Rattle.site_opening.specs.declared.files.FileFault.{FileFault}
use Rattle.slp_text.specs.Reading.{read_map}
use Rattle.site_opening.specs.declared.files.FileFault.TheVariants.{NoMemory}
use Rattle.site_check.specs.Checks.{AppendsCheck}
use Rattle.site_check.specs.ConfigFaults.{config_lines}
use Rattle.site_check.specs.NotToml.{AppendsStopped}
use Rattle.site_check.specs.SiteLines.{AreNamed, AreRead, ReadTemplate, ReadToml, SiteReads, StopsWithin, each_template_lines, file_lines, named_file_lines, named_lines, named_rule_lines, rule_text_lines, site_lines, status_line, template_text_lines, templates_read, unread_line}
use Rattle.site_check.specs.SiteStatus.{begun_of, named_begun, rule_file_begun, site_begun, templates_begun}
use Rattle.site_check.proofs.Begun.{begun_more, first_stays, named_status_is, taken_named}

-- the rules of a text that was read are those of the file
pub rules_of_text : {E : Type 0} (r : Result (Result SiteRules StartFault) E) (path : List ℕ) (scopes : List (List ℕ)) (text : List ℕ) (old new : Option (List ℕ))
    → IfOk r (λ rules. (rules ≡ rules_start_of (Some text)) × AppendsStopped old new text (rule_text_lines path scopes text))
    → IfOk r (λ rules. (f : ReadToml) × StopsWithin f × (rules ≡ rule_file_begun f) × Appends old new (file_lines path (λ t. rule_text_lines path scopes t f.stop) f.read))
rules_of_text (Ok rules) path scopes text old new h = (record { read = Ok text; stop = h.1.0 }, h.1.1, h.0, h.1.2)
rules_of_text (Err e) path scopes text old new h = tt

-- the templates after some files
abbrev pub templates_after : SiteTemplates → List ReadTemplate → SiteTemplates
templates_after templates [] = templates
templates_after templates (f ∷ fs) = templates_after (templates_read templates f.read) fs

templates_after-more : (templates : SiteTemplates) (fs : List ReadTemplate) (f : ReadTemplate) → templates_after templates (fs ++ f ∷ []) ≡ templates_read (templates_after templates fs) f.read
templates_after-more templates [] f = refl
templates_after-more templates (g ∷ fs) f = templates_after-more (templates_read templates g.read) fs f

-- what is written of one file more
lines-more : (rules : Option SiteRules) (templates : SiteTemplates) (fs : List ReadTemplate) (f : ReadTemplate)
    → each_template_lines rules templates fs ++ file_lines f.path (template_text_lines f.path rules (templates_after templates fs)) f.read ≡ each_template_lines rules templates (fs ++ f ∷ [])
lines-more rules templates [] f = sym (append-nil _)
lines-more rules templates (g ∷ fs) f =
    append_assoc (file_lines g.path (template_text_lines g.path rules templates) g.read) (each_template_lines rules (templates_read templates g.read) fs) (file_lines f.path (template_text_lines f.path rules (templates_after templates (g ∷ fs))) f.read)
    ∙ ap (λ ls. file_lines g.path (template_text_lines g.path rules templates) g.read ++ ls) (lines-more rules (templates_read templates g.read) fs f)

-- the templates in these files were looked at, with what is told of them
abbrev pub AreLookedAt : Option SiteRules → List (List ℕ) → SiteTemplates → Result (Unit {0}) StartFault → Option (List ℕ) → Option (List ℕ) → Type 0
AreLookedAt rules paths templates told old new =
    (fs : List ReadTemplate) × (map (λ f. f.path) fs ≡ paths) × (templates ≡ templates_after fin.empty fs) × (read_map (λ x. templates) told ≡ templates_begun fin.empty fs)
    × Appends old new (each_template_lines rules fin.empty fs)

-- one more is looked at
pub look_on : (rules : Option SiteRules) (paths : List (List ℕ)) (templates : SiteTemplates) (told added : Result (Unit {0}) StartFault) (old mid new : Option (List ℕ)) (f : ReadTemplate)
    → AreLookedAt rules paths templates told old mid → read_map (λ x. templates_read templates f.read) added ≡ begun_of (templates_and templates) f.read
    → Appends mid new (file_lines f.path (template_text_lines f.path rules templates) f.read)
    → AreLookedAt rules (paths ++ f.path ∷ []) (templates_read templates f.read) (result_and told added) old new
look_on rules paths templates told added old mid new f h and_it written = (
  h.0 ++ f ∷ [],
  map-append (λ f. f.path) h.0 (f ∷ []) ∙ ap (λ ps. ps ++ f.path ∷ []) h.1,
  ap (λ ts. templates_read ts f.read) h.2 ∙ sym (templates_after-more fin.empty h.0 f),
  first_stays told added templates (templates_read templates f.read) _ _ (λ ts. begun_of (templates_and ts) f.read) h.3 and_it (begun_more fin.empty h.0 f),
  subst (Appends old new) (lines-more rules fin.empty h.0 f) (Appends-trans old mid new (each_template_lines rules fin.empty h.0) _ h.4 (subst (λ ts. Appends mid new (file_lines f.path (template_text_lines f.path rules ts) f.read)) h.2 written)),
)

-- ---- the site

-- the rules were looked at, then the templates
pub named_told : (path : List ℕ) (config : Config) (rules : Option (Result SiteRules StartFault)) (templates : Result (Unit {0}) StartFault) (old mid new : Option (List ℕ))
    → (f : ReadToml) × StopsWithin f × (rules ≡ option_map (λ file. rule_file_begun f) config.rules) × Appends old mid (named_rule_lines path config.scopes config.rules f)
    → (read : List ReadTemplate) × (map (λ t. t.path) read ≡ config.templates) × (opening_status templates ≡ opening_status (templates_begun fin.empty read))
    × Appends mid new (each_template_lines (option_and_then result_ok rules) fin.empty read)
    → (s : SiteReads) × AreNamed s config × (option_map_or (λ told. opening_status (result_and told templates)) rules (opening_status templates) ≡ opening_status (named_begun s config))
    × Appends old new (named_file_lines path s config)
named_told path config rules templates old mid new h k = (
  record { config = h.0; rules = h.0; templates = k.0; limits = Err NoMemory },
  record { rules = h.1; templates = k.1 },
  ap (λ told. option_map_or (λ t. opening_status (result_and t templates)) told (opening_status templates)) h.2 ∙ named_status_is config config.rules h.0 templates (templates_begun fin.empty k.0) k.2,
  Appends-trans old mid new _ _ h.3 (subst (λ rs. Appends mid new (each_template_lines rs fin.empty k.0)) (ap (option_and_then result_ok) h.2 ∙ taken_named config.rules h.0) k.3),
)

-- the configuration is taken
pub config_told : {E : Type 0} (r : Result ℕ E) (path text : List ℕ) (config : Config) (old new : Option (List ℕ)) → config_of text ≡ Ok config
    → IfOk r (λ status. (s : SiteReads) × AreNamed s config × (status ≡ opening_status (named_begun s config)) × Appends old new (named_lines path s config))
    → IfOk r (λ status. (s : SiteReads) × (s.config.read ≡ Ok text) × AreRead s × (status ≡ opening_status (site_begun s)) × Appends old new (site_lines path s))
config_told (Ok status) path text config old new is h =
    let named : AreNamed (record { config = record { read = Ok text; stop = record { place = 0; message = [] } }; rules = h.0.rules; templates = h.0.templates; limits = h.0.limits }) config =
    record { rules = h.1.rules; templates = h.1.templates } in (
      record { config = record { read = Ok text; stop = record { place = 0; message = [] } }; rules = h.0.rules; templates = h.0.templates; limits = h.0.limits },
      refl,
      record { config = omega arith; named = rw is named },
      rw is h.2,
      rw is h.3,
    )
config_told (Err e) path text config old new is h = tt

-- a fault that says something of the text
fault_is : (e : ConfigFault) (read : Result Config ConfigFault) → IsFault e read → e ≢ fault.NoMemory → read ≡ Err e
fault_is fault.NoMemory read h text = absurd (text refl)
fault_is fault.Toml read h text = h
fault_is fault.Missing read h text = h
fault_is fault.Range read h text = h

-- the configuration is refused
pub config_refused : {E : Type 0} (r : Result ℕ E) (path text : List ℕ) (e : ConfigFault) (old new : Option (List ℕ)) → IsFault e (config_of text) → OnOk r (e ≢ fault.NoMemory)
    → IfOk r (λ status. status ≡ start_status (config_start e)) → OnOk r (AppendsStopped old new text (config_lines path text))
    → IfOk r (λ status. (s : SiteReads) × (s.config.read ≡ Ok text) × AreRead s × (status ≡ opening_status (site_begun s)) × Appends old new (site_lines path s))
config_refused (Ok status) path text e old new told known so h =
    let is = fault_is e (config_of text) told known in (
      record { config = record { read = Ok text; stop = h.0 }; rules = record { read = Err NoMemory; stop = h.0 }; templates = []; limits = Err NoMemory },
      refl,
      record { config = h.1; named = rw is tt },
      rw is so,
      rw is h.2,
    )
config_refused (Err x) path text e old new told known so h = tt

-- the configuration is not read
pub site_unread : (path : List ℕ) (e : FileFault) (old new : Option (List ℕ)) → Appends old new (unread_line path e)
    → (s : SiteReads) × AreRead s × (start_status (file_start e) ≡ opening_status (site_begun s)) × Appends old new (site_lines path s)
site_unread path e old new h =
    let unread : ReadToml = record { read = Err e; stop = record { place = 0; message = [] } } in
    (record { config = unread; rules = unread; templates = []; limits = Err NoMemory }, record { config = tt; named = tt }, refl, h)

-- the line of the status comes behind the lines of the site
pub then_written : (path : List ℕ) (status : ℕ) (old mid new : Option (List ℕ)) → (s : SiteReads) × AreRead s × (status ≡ opening_status (site_begun s)) × Appends old mid (site_lines path s)
    → Appends mid new (status_line path status) → AppendsCheck old new path status
then_written path status old mid new h told = (h.0, h.1, h.2, Appends-trans old mid new (site_lines path h.0) _ h.3 told)
