-- Which rule decides, and which never does.
use Rattle.std.proofs.Common.{◌≡◌, ◌≢◌, ◌<◌, ℕ, true, false, List, [], Option, Some, None, get_or, refl, sym, ap, ◌∙◌}
use Rattle.std.specs.Prelude.{◌&&◌, position, slice_get}
use Rattle.std.specs.List.{list_any}
use Rattle.std.specs.Option.{option_map_or}
use Rattle.std.proofs.lemmas.List.Folds.{list_any_at}
use Rattle.std.proofs.lemmas.List.Quantifiers.{position-Some}
use Rattle.std.proofs.lemmas.Option.{get_or_from_slice_get, slice_get-get_or}
use Rattle.access_rules.specs.Deciding.{Deed, SiteRules, deciding, fits, rules_in, verdict_at}
use Rattle.access_rules.specs.declared.rule.Action.TheVariants.{See}
use Rattle.access_rules.specs.declared.rule.Rule.{Rule}
use Rattle.access_rules.specs.declared.rules.Verdict.{Verdict}

-- some rule, for what is read past the last
no_rule : Rule
no_rule = record { name = []; from = []; action = See; kind = None; scopes = None; allow = false; owner = false }

rule_of_verdict : (rules : SiteRules) (o : Option ℕ) → (verdict_at rules o).rule ≡ o
rule_of_verdict rules None = refl
rule_of_verdict rules (Some i) = refl

-- the place that decides is the first that fits
place_first : (rules : SiteRules) (d : Deed) (scope : List ℕ) (i : ℕ) → (deciding rules d scope).rule ≡ Some i → position (fits d scope) (rules_in rules) ≡ Some i
place_first rules d scope i h = sym (rule_of_verdict rules (position (fits d scope) (rules_in rules))) ∙ h

pub first_fits : (rules : SiteRules) (d : Deed) (scope : List ℕ) (place : ℕ) → (deciding rules d scope).rule ≡ Some place
    → (r : Rule) × (slice_get (rules_in rules) place ≡ Some r) × (fits d scope r ≡ true) × ((deciding rules d scope).allow ≡ r.allow)
    × ((other : ℕ) (s : Rule) → other < place → slice_get (rules_in rules) other ≡ Some s → fits d scope s ≡ false)
first_fits rules d scope place h =
    let first = place_first rules d scope place h in
    let found = position-Some (fits d scope) (rules_in rules) place no_rule first in
    let there = slice_get-get_or (rules_in rules) place no_rule found.0 in (
      get_or (rules_in rules) place no_rule,
      there,
      found.1,
      ap (λ o. (verdict_at rules o).allow) first ∙ ap (λ (o : Option Rule). option_map_or (λ r. r.allow) o false) there,
      λ other s before is. ap (fits d scope) (sym (get_or_from_slice_get (rules_in rules) other s no_rule is)) ∙ found.2 other before,
    )

-- a rule that would be allowed is one that some rule allows
unless_allowed : (rules : SiteRules) (d : Deed) (scope : List ℕ) (o : Option ℕ) → position (fits d scope) (rules_in rules) ≡ o
    → list_any (λ r. fits d scope r && r.allow) (rules_in rules) ≡ false → (verdict_at rules o).allow ≡ false
unless_allowed rules d scope None is none = refl
unless_allowed rules d scope (Some i) is none =
    let found = position-Some (fits d scope) (rules_in rules) i no_rule is in
    let there = slice_get-get_or (rules_in rules) i no_rule found.0 in
    let word = ap (λ (o : Option Rule). option_map_or (λ r. r.allow) o false) there in
    elim (get_or (rules_in rules) i no_rule).allow as (λ b. (get_or (rules_in rules) i no_rule).allow ≡ b → (verdict_at rules (Some i)).allow ≡ false) [
      | true ↦ λ allowed.
          let both : (fits d scope (get_or (rules_in rules) i no_rule) && (get_or (rules_in rules) i no_rule).allow) ≡ true = rw (found.1, allowed) refl in
          let some = list_any_at (λ r. fits d scope r && r.allow) (rules_in rules) i no_rule found.0 both in
          absurd (let e : true ≡ false = sym some ∙ none in cc)
      | false ↦ λ denied. word ∙ denied
    ] refl

pub no_rule_allows : (rules : SiteRules) (d : Deed) (scope : List ℕ)
    → list_any (λ r. fits d scope r && r.allow) (rules_in rules) ≡ false → (deciding rules d scope).allow ≡ false
no_rule_allows rules d scope none = unless_allowed rules d scope (position (fits d scope) (rules_in rules)) refl none

no_rule_fits : (rules : SiteRules) (d : Deed) (scope : List ℕ) (o : Option ℕ) → position (fits d scope) (rules_in rules) ≡ o
    → list_any (fits d scope) (rules_in rules) ≡ false → ◌≡◌ {A = Verdict} (verdict_at rules o) (record { allow = false; rule = None })
no_rule_fits rules d scope None is none = refl
no_rule_fits rules d scope (Some i) is none =
    let found = position-Some (fits d scope) (rules_in rules) i no_rule is in
    let some = list_any_at (fits d scope) (rules_in rules) i no_rule found.0 found.1 in
    absurd (let e : true ≡ false = sym some ∙ none in cc)

pub default_decides : (rules : SiteRules) (d : Deed) (scope : List ℕ)
    → list_any (fits d scope) (rules_in rules) ≡ false → ◌≡◌ {A = Verdict} (deciding rules d scope) (record { allow = false; rule = None })
default_decides rules d scope none = no_rule_fits rules d scope (position (fits d scope) (rules_in rules)) refl none

pub covered_rule : (rules : SiteRules) (first later : ℕ) (wide narrow : Rule) → first < later → slice_get (rules_in rules) first ≡ Some wide → slice_get (rules_in rules) later ≡ Some narrow
    → ((d : Deed) (scope : List ℕ) → fits d scope narrow ≡ true → fits d scope wide ≡ true)
    → (d : Deed) (scope : List ℕ) → (deciding rules d scope).rule ≢ Some later
covered_rule rules first later wide narrow before is_wide is_narrow covers d scope h =
    let found = position-Some (fits d scope) (rules_in rules) later no_rule (place_first rules d scope later h) in
    let narrow_fits = ap (fits d scope) (sym (get_or_from_slice_get (rules_in rules) later narrow no_rule is_narrow)) ∙ found.1 in
    let wide_not = ap (fits d scope) (sym (get_or_from_slice_get (rules_in rules) first wide no_rule is_wide)) ∙ found.2 first before in
    let e : true ≡ false = sym (covers d scope narrow_fits) ∙ wide_not in cc
