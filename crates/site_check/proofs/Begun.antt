-- What a server begins with on what was read of the files of a site.
use Rattle.std.proofs.Common.{◌≡◌, ◌+◌, ◌++◌, ◌∷◌, [], ℕ, true, List, length, Option, Some, None, Result, Ok, Err, IfOk, refl, sym, ap, subst, ◌∙◌, arith}
use Rattle.std.specs.FinMap as fin
use Rattle.std.specs.Prelude.{is_some}
use Rattle.std.specs.Option.{option_map, option_map_or, option_and_then}
use Rattle.std.specs.Result.{result_and, result_ok}
use Rattle.std.proofs.lemmas.List.{length-map}
use Rattle.access_rules.specs.Deciding.{SiteRules, no_rules}
use Rattle.rule_files.specs.RuleFiles.{rules_in_text}
use Rattle.rule_files.specs.declared.fault.RuleFault.{RuleFault}
use Rattle.site_config.specs.Configurations.{config_of}
use Rattle.site_config.specs.declared.config.Config.{Config}
use Rattle.site_config.specs.declared.fault.ConfigFault.{ConfigFault}
use Rattle.site_opening.specs.Openings.{SiteTexts, config_start_of, files_with, named_start_of, rules_start_of, start_of, started, templates_and, templates_start_of, IsReadAs}
use Rattle.site_opening.specs.Openings as openings
use Rattle.site_opening.proofs.Readings.{failed_file, refused_by_one}
use Rattle.site_opening.specs.Statuses.{config_start, opening_status, rules_start}
use Rattle.site_opening.specs.declared.fault.StartFault.{StartFault}
use Rattle.site_opening.specs.declared.fault.StartFault.TheVariants as start
use Rattle.site_opening.specs.declared.files.FileFault.{FileFault}
use Rattle.slp_text.specs.Reading.{read_map, read_then}
use Rattle.srv_template.specs.Conformity.{SiteTemplates}
use Rattle.site_check.specs.SiteLines.{AreNamed, AreRead, ReadTemplate, ReadToml, SiteReads, named_rules, rules_read}
use Rattle.site_check.specs.SiteStatus.{begun_of, named_begun, rule_file_begun, rules_begun, site_begun, templates_begun}

-- ---- what is refused

-- a fault says what it is of some texts, if it says anything
of_texts : {T A : Type 0} (are : T → A → Type 0) (read : T → Result A StartFault) (t : T) (e : StartFault) → read t ≡ Err e → IsReadAs are read (Err e)
of_texts are read t start.Failed h = tt
of_texts are read t (start.Config e) h = (t, h)
of_texts are read t (start.Rules e) h = (t, h)
of_texts are read t (start.Template e) h = (t, h)
of_texts are read t start.NoMemory h = tt

-- ---- templates

-- so many texts
abbrev AreMany : ℕ → List (List ℕ) → SiteTemplates → Type 0
AreMany n texts templates = length texts ≡ n

recount : (m n : ℕ) (r : Result SiteTemplates StartFault) → m ≡ n → IsReadAs (AreMany m) templates_start_of r → IsReadAs (AreMany n) templates_start_of r
recount m n r is h = subst (λ k. IsReadAs (AreMany k) templates_start_of r) is h

-- templates of files, beside those of texts that came before: of one text more, and of one file more
next_text : (n : ℕ) (fs : List ReadTemplate) (texts : List (List ℕ)) (r : Result SiteTemplates StartFault) → templates_start_of texts ≡ r
    → ((more : SiteTemplates) → templates_start_of texts ≡ Ok more → IsReadAs (AreMany n) templates_start_of (templates_begun more fs))
    → IsReadAs (AreMany n) templates_start_of (read_then (λ more. templates_begun more fs) r)
next_text n fs texts (Err e) is more = of_texts (AreMany n) templates_start_of texts e is
next_text n fs texts (Ok x) is more = more x is

next_file : (n : ℕ) (fs : List ReadTemplate) (texts : List (List ℕ)) (templates : SiteTemplates) (read : Result (List ℕ) FileFault) → templates_start_of texts ≡ Ok templates
    → ((text : List ℕ) (more : SiteTemplates) → templates_start_of (text ∷ texts) ≡ Ok more → IsReadAs (AreMany n) templates_start_of (templates_begun more fs))
    → IsReadAs (AreMany n) templates_start_of (read_then (λ more. templates_begun more fs) (begun_of (templates_and templates) read))
next_file n fs texts templates (Err e) is more = failed_file (AreMany n) templates_start_of e
next_file n fs texts templates (Ok text) is more = next_text n fs (text ∷ texts) (templates_and templates text) (ap (read_then (λ (ts : SiteTemplates). templates_and ts text)) is) (more text)

begun_templates : (fs : List ReadTemplate) (texts : List (List ℕ)) (templates : SiteTemplates) → templates_start_of texts ≡ Ok templates
    → IsReadAs (AreMany (length texts + length fs)) templates_start_of (templates_begun templates fs)
begun_templates [] texts templates is = (texts, omega arith, is)
begun_templates (f ∷ fs) texts templates is =
    next_file (length texts + length (f ∷ fs)) fs texts templates f.read is
    (λ text more h. recount (length (text ∷ texts) + length fs) (length texts + length (f ∷ fs)) (templates_begun more fs) (omega arith) (begun_templates fs (text ∷ texts) more h))

-- one template more
one : (r : Result SiteTemplates StartFault) → read_then (λ more. templates_begun more []) r ≡ r
one (Ok x) = refl
one (Err e) = refl

then_more : (fs : List ReadTemplate) (f : ReadTemplate) (r : Result SiteTemplates StartFault)
    → ((templates : SiteTemplates) → templates_begun templates (fs ++ f ∷ []) ≡ read_then (λ more. begun_of (templates_and more) f.read) (templates_begun templates fs))
    → read_then (λ more. templates_begun more (fs ++ f ∷ [])) r ≡ read_then (λ more. begun_of (templates_and more) f.read) (read_then (λ more. templates_begun more fs) r)
then_more fs f (Ok templates) h = h templates
then_more fs f (Err e) h = refl

pub begun_more : (templates : SiteTemplates) (fs : List ReadTemplate) (f : ReadTemplate) → templates_begun templates (fs ++ f ∷ []) ≡ read_then (λ more. begun_of (templates_and more) f.read) (templates_begun templates fs)
begun_more templates [] f = one (begun_of (templates_and templates) f.read)
begun_more templates (g ∷ fs) f = then_more fs f (begun_of (templates_and templates) g.read) (λ ts. begun_more ts fs f)

-- the first reason stays
pub first_stays : (told added : Result (Unit {0}) StartFault) (templates more : SiteTemplates) (begun next : Result SiteTemplates StartFault) (f : SiteTemplates → Result SiteTemplates StartFault)
    → read_map (λ x. templates) told ≡ begun → read_map (λ x. more) added ≡ f templates → next ≡ read_then f begun → read_map (λ x. more) (result_and told added) ≡ next
first_stays (Ok x) added templates more begun next f before now is = now ∙ sym (is ∙ ap (read_then f) (sym before))
first_stays (Err e) added templates more begun next f before now is = sym (is ∙ ap (read_then f) (sym before))

-- and its status is that of all
pub first_status : (told : Result (Unit {0}) StartFault) (templates : SiteTemplates) (begun : Result SiteTemplates StartFault) → read_map (λ x. templates) told ≡ begun → opening_status told ≡ opening_status begun
first_status (Ok x) templates begun is = ap opening_status is
first_status (Err e) templates begun is = ap opening_status is

-- ---- rules

-- those of a rule file, where one is named
abbrev AreNamedSo : Option (List ℕ) → Option (List ℕ) → SiteRules → Type 0
AreNamedSo c text rules = is_some text ≡ is_some c

rules_taken : (c : Option (List ℕ)) (text : List ℕ) (rules : Result SiteRules StartFault) → true ≡ is_some c → rules_start_of (Some text) ≡ rules → IsReadAs (AreNamedSo c) rules_start_of rules
rules_taken c text (Ok x) is h = (Some text, is, h)
rules_taken c text (Err e) is h = of_texts (AreNamedSo c) rules_start_of (Some text) e h

rules_of_file : (c : Option (List ℕ)) (read : Result (List ℕ) FileFault) → true ≡ is_some c → IsReadAs (AreNamedSo c) rules_start_of (begun_of (λ text. rules_start_of (Some text)) read)
rules_of_file c (Err e) is = failed_file (AreNamedSo c) rules_start_of e
rules_of_file c (Ok text) is = rules_taken c text (rules_start_of (Some text)) is refl

begun_rules : (c : Option (List ℕ)) (r : ReadToml) → IsReadAs (AreNamedSo c) rules_start_of (rules_begun c r)
begun_rules None r = (None, refl, refl)
begun_rules (Some file) r = rules_of_file (Some file) r.read refl

started_ok : (r : Result SiteRules RuleFault) → result_ok (started rules_start r) ≡ result_ok r
started_ok (Ok x) = refl
started_ok (Err e) = refl

-- those that are taken
pub taken_named : (c : Option (List ℕ)) (r : ReadToml) → option_and_then result_ok (option_map (λ file. rule_file_begun r) c) ≡ named_rules c r
taken_named None r = refl
taken_named (Some file) r = by r.read
  where
    by : (read : Result (List ℕ) FileFault) → result_ok (begun_of (λ text. rules_start_of (Some text)) read) ≡ rules_read read
    by (Err e) = refl
    by (Ok text) = started_ok (rules_in_text text)

-- ---- the status of what a configuration names

mapped : (config : Config) (rules : SiteRules) (templates : Result SiteTemplates StartFault) → opening_status (read_map (λ ts. files_with config (rules, ts)) templates) ≡ opening_status templates
mapped config rules (Ok x) = refl
mapped config rules (Err e) = refl

pub named_status_is : (config : Config) (c : Option (List ℕ)) (r : ReadToml) (told : Result (Unit {0}) StartFault) (templates : Result SiteTemplates StartFault) → opening_status told ≡ opening_status templates
    → option_map_or (λ rules. opening_status (result_and rules told)) (option_map (λ file. rule_file_begun r) c) (opening_status told)
    ≡ opening_status (read_then (λ rules. read_map (λ ts. files_with config (rules, ts)) templates) (rules_begun c r))
named_status_is config None r told templates h = h ∙ sym (mapped config no_rules templates)
named_status_is config (Some file) r told templates h = by (rule_file_begun r)
  where
    by : (rules : Result SiteRules StartFault) → opening_status (result_and rules told) ≡ opening_status (read_then (λ rs. read_map (λ ts. files_with config (rs, ts)) templates) rules)
    by (Ok rs) = h ∙ sym (mapped config rs templates)
    by (Err e) = refl

-- ---- the site

-- what a configuration names, by the text of the configuration
begun_named : (text : List ℕ) (config : Config) (fs : List ReadTemplate) (rules : Result SiteRules StartFault) (templates : Result SiteTemplates StartFault) → config_start_of text ≡ Ok config → length fs ≡ length config.templates
    → IsReadAs (AreNamedSo config.rules) rules_start_of rules → IsReadAs (AreMany (0 + length fs)) templates_start_of templates
    → IsReadAs openings.AreNamed start_of (read_then (λ rs. read_map (λ ts. files_with config (rs, ts)) templates) rules)
begun_named text config fs (Err e) templates is count h k =
    refused_by_one (AreNamedSo config.rules) rules_start_of openings.AreNamed start_of e
    (λ t no. (
      record { config = text; rules = t; templates = [] },
      ap (read_then (λ c. read_map (files_with c) (named_start_of (t, [])))) is
          ∙ ap (λ (r : Result SiteRules StartFault). read_map (files_with config) (read_then (λ rs. read_map (λ ts. (rs, ts)) (templates_start_of [])) r)) no,
    )) h
begun_named text config fs (Ok rs) (Err e) is count h k =
    refused_by_one (AreMany (0 + length fs)) templates_start_of openings.AreNamed start_of e
    (λ t no. (
      record { config = text; rules = h.0; templates = t },
      ap (read_then (λ c. read_map (files_with c) (named_start_of (h.0, t)))) is
          ∙ ap (λ (r : Result SiteRules StartFault). read_map (files_with config) (read_then (λ rs. read_map (λ ts. (rs, ts)) (templates_start_of t)) r)) h.2
          ∙ ap (λ (r : Result SiteTemplates StartFault). read_map (files_with config) (read_map (λ ts. (rs, ts)) r)) no,
    )) k
begun_named text config fs (Ok rs) (Ok ts) is count h k = (
  record { config = text; rules = h.0; templates = k.0 },
  (h.1, omega (arith, k.1, count)),
  ap (read_then (λ c. read_map (files_with c) (named_start_of (h.0, k.0)))) is
      ∙ ap (λ (r : Result SiteRules StartFault). read_map (files_with config) (read_then (λ rs. read_map (λ ts. (rs, ts)) (templates_start_of k.0)) r)) h.2
      ∙ ap (λ (r : Result SiteTemplates StartFault). read_map (files_with config) (read_map (λ ts. (rs, ts)) r)) k.2,
)

-- what was read of a site reads as its texts do
pub begun_is_read : (s : SiteReads) → AreRead s → IsReadAs openings.AreNamed start_of (site_begun s)
begun_is_read s h = by s.config.read h.named
  where
    named : (text : List ℕ) (read : Result Config ConfigFault) → config_of text ≡ read → IfOk read (AreNamed s) → IsReadAs openings.AreNamed start_of (read_then (named_begun s) (started config_start read))
    named text (Ok config) is n =
        begun_named text config s.templates (rules_begun config.rules s.rules) (templates_begun fin.empty s.templates) (ap (started config_start) is) (sym (length-map s.templates (λ t. t.path)) ∙ ap length n.templates)
        (begun_rules config.rules s.rules) (begun_templates s.templates [] fin.empty refl)
    named text (Err e) is n =
        of_texts openings.AreNamed start_of (record { config = text; rules = None; templates = [] }) (config_start e)
        (ap (λ (r : Result Config ConfigFault). read_then (λ c. read_map (files_with c) (named_start_of (None, []))) (started config_start r)) is)

    by : (read : Result (List ℕ) FileFault) → IfOk read (λ text. IfOk (config_of text) (AreNamed s)) → IsReadAs openings.AreNamed start_of (read_then (named_begun s) (begun_of config_start_of read))
    by (Err e) n = failed_file openings.AreNamed start_of e
    by (Ok text) n = named text (config_of text) refl n
