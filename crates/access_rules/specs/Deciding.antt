-- Which rule decides, and which tags are hidden.
use Rattle.std.specs.Prelude.{◌≡◌, ℕ, Bool, true, false, ◌==◌, ◌&&◌, ◌||◌, not, List, [], ◌++◌, length, position, slice_get, Option, Some, None}
use Rattle.std.specs.List.{list_all, list_any}
use Rattle.std.specs.Option.{option_map_or}
use Rattle.slp_tags.specs.Tags.{selects}
use Rattle.slp_text.specs.Words.{bytes_eq}
use Rattle.service_url.specs.Types.{covers}
use Rattle.access_rules.specs.declared.about.RulesAbout.{RulesAbout}
use Rattle.access_rules.specs.declared.hide.FittingHides.{FittingHides}
use Rattle.access_rules.specs.declared.hide.Hide.{Hide}
use Rattle.access_rules.specs.declared.rule.Action.{Action}
use Rattle.access_rules.specs.declared.rule.Action.TheVariants.{Register, Withdraw, See}
use Rattle.access_rules.specs.declared.rule.Deed as code
use Rattle.addresses.specs.Addresses.{has_address}
use Rattle.access_rules.specs.declared.rule.Rule.{Rule}
use Rattle.access_rules.specs.declared.rules.Verdict.{Verdict}

-- two actions are the same
abbrev pub action_eq : Action → Action → Bool
action_eq Register Register = true
action_eq Withdraw Withdraw = true
action_eq See See = true
action_eq Register Withdraw = false
action_eq Register See = false
action_eq Withdraw Register = false
action_eq Withdraw See = false
action_eq See Register = false
action_eq See Withdraw = false

-- no type named is every type
abbrev pub allows_kind : Option (List ℕ) → List ℕ → Bool
allows_kind None kind = true
allows_kind (Some named) kind = covers named kind

-- no scopes named are every scope
abbrev pub allows_scope : Option (List (List ℕ)) → List ℕ → Bool
allows_scope None scope = true
allows_scope (Some named) scope = list_any (λ s. bytes_eq s scope) named

-- what is asked of the rules, but for the scope: who asks, to do what, of which type, and who registered it
pub record Deed : Type 0 where
  pub asker : ℕ
  pub action : Action
  pub kind : List ℕ
  pub registrant : ℕ

-- an action that an asker asks for, on a type, and who registered what it is about
abbrev pub deed : ℕ → Action → List ℕ → ℕ → Deed
deed asker action kind registrant = record { asker = asker; action = action; kind = kind; registrant = registrant }

-- the same, wherever its type lies
abbrev pub deed_in : code.Deed → Deed
deed_in d = deed d.asker d.action d.kind.now d.registrant

-- who asks is who registered
abbrev pub is_own : Deed → Bool
is_own d = d.asker == d.registrant

-- a rule fits a deed in a scope; one of owners fits no deed of another
abbrev pub fits : Deed → List ℕ → Rule → Bool
fits d scope r =
    list_any (λ p. has_address p d.asker) r.from && action_eq r.action d.action && allows_kind r.kind d.kind
    && allows_scope r.scopes scope
    && (not r.owner || is_own d)

-- what decides for a site: its rules, in their order, and what it hides
pub record SiteRules : Type 0 where
  pub rules : List Rule
  pub hides : List Hide

-- the rules of a site, in their order
abbrev pub rules_in : SiteRules → List Rule
rules_in s = s.rules

-- its hide tables, in their order
abbrev pub hides_in : SiteRules → List Hide
hides_in s = s.hides

-- how many rules there are
abbrev pub number : SiteRules → ℕ
number rules = length (rules_in rules)

-- a site without any
abbrev pub no_rules : SiteRules
no_rules = record { rules = []; hides = [] }

-- what the rule at an index says, if there is one; without a rule all is denied
abbrev pub verdict_at : SiteRules → Option ℕ → Verdict
verdict_at rules None = record { allow = false; rule = None }
verdict_at rules (Some index) =
    record { allow = option_map_or (λ r. r.allow) (slice_get (rules_in rules) index) false; rule = Some index }

-- The first rule that fits decides.
abbrev pub deciding : SiteRules → Deed → List ℕ → Verdict
deciding rules d scope = verdict_at rules (position (fits d scope) (rules_in rules))

-- a rule is about owners, if it is about this action
abbrev pub is_owners : Action → Rule → Bool
is_owners action r = not (action_eq r.action action) || r.owner

-- no rule is about owners
abbrev pub is_without_owners : SiteRules → Bool
is_without_owners rules = list_all (λ r. not r.owner) (rules_in rules)

-- some type is covered by both; no type named is every type
abbrev pub overlaps : Option (List ℕ) → List ℕ → Bool
overlaps None kind = true
overlaps (Some named) kind = covers named kind || covers kind named

-- the rule may show something to an asker, of the types that one covers, in a scope
abbrev pub may_show : ℕ → List ℕ → List ℕ → Rule → Bool
may_show asker kind scope r = r.allow && (action_eq r.action See && (overlaps r.kind kind && (allows_scope r.scopes scope && list_any (λ p. has_address p asker) r.from)))

-- ---- what is hidden

-- A hide table fits what is asked in a scope, whatever is done; one that spares owners does not fit what the asker
-- registered.
abbrev pub is_hiding : Deed → List ℕ → Hide → Bool
is_hiding d scope h =
    list_any (λ p. has_address p d.asker) h.from && allows_kind h.kind d.kind && allows_scope h.scopes scope
    && not (h.spares_owner && is_own d)

-- one of some tables fits, and selects a tag
abbrev pub some_hides : List Hide → Deed → List ℕ → List ℕ → Bool
some_hides hides d scope tag = list_any (λ h. is_hiding d scope h && selects h.tags tag) hides

-- a tag of what is asked about is hidden in a scope: some table that fits selects it
abbrev pub is_hidden : SiteRules → Deed → List ℕ → List ℕ → Bool
is_hidden rules = some_hides (hides_in rules)

-- one of the tables that fit selects a tag
abbrev pub is_hidden_by : FittingHides → Deed → List ℕ → List ℕ → Bool
is_hidden_by f d scope tag = selects f.first.now.tags tag || some_hides f.rest.now d scope tag

-- where there are none, nothing is hidden
abbrev pub is_hidden_from : Option FittingHides → Deed → List ℕ → List ℕ → Bool
is_hidden_from None d scope tag = false
is_hidden_from (Some f) d scope tag = is_hidden_by f d scope tag

-- ---- what is about one asker

-- the rule is about what this asker sees
abbrev pub is_rule_about : Rule → ℕ → Bool
is_rule_about r asker = action_eq r.action See && list_any (λ p. has_address p asker) r.from

-- the table hides from this asker
abbrev pub is_hide_about : Hide → ℕ → Bool
is_hide_about h asker = list_any (λ p. has_address p asker) h.from

-- a part of a list: what is in front of it and behind it is none of these
pub record IsPart {A : Type 0} (is : A → Bool) (part all : List A) : Type 0 where
  pub before : List A
  pub after : List A
  pub whole : all ≡ before ++ (part ++ after)
  pub none_before : list_any is before ≡ false
  pub none_after : list_any is after ≡ false

-- what is about an asker, wherever it lies
abbrev pub part_in : RulesAbout → SiteRules
part_in a = record { rules = a.rules.now; hides = a.hides.now }

-- some rules and tables decide of what an asker sees as all do
pub record SeeAlike (asker : ℕ) (some all : SiteRules) : Type 0 where
  pub opens : (d : Deed) (scope : List ℕ) → d.asker ≡ asker → d.action ≡ See → (deciding some d scope).allow ≡ (deciding all d scope).allow
  pub hides : (d : Deed) (scope tag : List ℕ) → d.asker ≡ asker → is_hidden some d scope tag ≡ is_hidden all d scope tag
