-- What is surely not meant with the rules and the hide tables of a site.
use Rattle.std.specs.Prelude.{ℕ, ◌+◌, ◌-◌, ◌*◌, ◌/◌, ◌^◌, not, Bool, true, ◌&&◌, ◌||◌, ◌==◌, List, [], ◌∷◌, ◌++◌, find, is_some, length, take, Option, Some, None, if◌then◌else◌}
use Rattle.std.specs.List.{enumerate_from, flat_map, list_any}
use Rattle.std.specs.Option.{option_map_or}
use Rattle.slp_text.specs.Words.{bytes_eq}
use Rattle.service_url.specs.Types.{covers, service_name_of}
use Rattle.access_rules.specs.Deciding.{SiteRules, action_eq, hides_in, rules_in}
use Rattle.access_rules.specs.declared.hide.Hide.{Hide}
use Rattle.access_rules.specs.declared.rule.Action.TheVariants.{Register, See}
use Rattle.access_rules.specs.declared.rule.Rule.{Rule}
use Rattle.addresses.specs.declared.prefix.Prefix.{Prefix}
use Rattle.site_check.specs.Hiding.{hides}
use Rattle.site_check.specs.Lines.{Place, AnyType, At, File, Hidden, MoreBits, NoRules, NoScope, NoService, NoSight, NoType, warning_line}
use Rattle.site_check.specs.declared.problem.Numbered.TheVariants as numbered

-- the first of some earlier rules that hides one, by its number and its name
abbrev pub hidden_lines : Place → Rule → List Rule → List ℕ
hidden_lines place rule earlier =
    option_map_or (λ other. warning_line place (Hidden other.0 other.1.name)) (find (λ other. hides other.1 rule) (enumerate_from 1 earlier)) []

-- a scope that a site does not have
abbrev pub scope_line : Place → List (List ℕ) → List ℕ → List ℕ
scope_line place scopes scope = if list_any (λ s. bytes_eq s scope) scopes then [] else warning_line place (NoScope scope)

-- each scope that a rule or a hide table names, and the site does not have
abbrev pub scope_lines : Place → List (List ℕ) → Option (List (List ℕ)) → List ℕ
scope_lines place scopes None = []
scope_lines place scopes (Some named) = flat_map (scope_line place scopes) named

-- not all bits behind those that count are 0
abbrev pub has_more : Prefix → Bool
has_more p = not (p.addr / 2 ^ (32 - p.bits) * 2 ^ (32 - p.bits) == p.addr)

-- a prefix, with its index, that has such bits
abbrev pub from_line : Place → ℕ × Prefix → List ℕ
from_line place indexed = if has_more indexed.1 then warning_line place (MoreBits (indexed.0 + 1)) else []

-- each such prefix of a rule or a hide table
abbrev pub from_lines : Place → List Prefix → List ℕ
from_lines place from = flat_map (from_line place) (enumerate_from 0 from)

-- two types have one in common; no type named is every type
abbrev pub meets : Option (List ℕ) → Option (List ℕ) → Bool
meets None b = true
meets (Some a) None = true
meets (Some a) (Some b) = covers a b || covers b a

-- a rule lets someone register some type that one of this type is about
abbrev pub lets_stand : Option (List ℕ) → Rule → Bool
lets_stand kind rule = rule.allow && action_eq rule.action Register && meets rule.kind kind

abbrev pub may_stand : List Rule → Option (List ℕ) → Bool
may_stand rules kind = list_any (lets_stand kind) rules

-- a type that no rule lets anyone register
abbrev pub kind_line : Place → List Rule → Option (List ℕ) → List ℕ
kind_line place rules None = []
kind_line place rules (Some kind) = if may_stand rules (Some kind) then [] else warning_line place (NoType kind)

-- a rule that names its type lets someone register some type that one of this type is about
abbrev pub lets_named_stand : Option (List ℕ) → Rule → Bool
lets_named_stand kind rule = is_some rule.kind && lets_stand kind rule

abbrev pub named_may_stand : List Rule → Option (List ℕ) → Bool
named_may_stand rules kind = list_any (lets_named_stand kind) rules

-- a type that no rule lets anyone register, or none but rules about every type
abbrev pub stand_line : Place → List Rule → Option (List ℕ) → List ℕ
stand_line place rules None = []
stand_line place rules (Some kind) =
    if named_may_stand rules (Some kind) then [] else warning_line place (if may_stand rules (Some kind) then AnyType kind else NoType kind)

-- a type that no rule lets anyone register, of a rule, which may itself be about registering
abbrev pub rule_kind_line : Place → List Rule → Rule → List ℕ
rule_kind_line place rules rule = if action_eq rule.action Register then [] else kind_line place rules rule.kind

-- a rule about a type that does not begin with service:
abbrev pub is_of_service : List ℕ → Bool
is_of_service kind = is_some (service_name_of kind)

abbrev pub form_line : Place → Option (List ℕ) → List ℕ
form_line place None = []
form_line place (Some kind) = if is_of_service kind then [] else warning_line place (NoService kind)

-- what is said of the type of a rule
abbrev pub kind_lines : Place → List Rule → Rule → List ℕ
kind_lines place rules rule = rule_kind_line place rules rule ++ form_line place rule.kind

-- a rule with its index among these
abbrev pub rule_lines : List ℕ → List Rule → List (List ℕ) → ℕ × Rule → List ℕ
rule_lines file rules scopes indexed =
    let rule = indexed.1 in
    let place = At file (numbered.Rule (indexed.0 + 1)) (Some rule.name) in
    hidden_lines place rule (take indexed.0 rules) ++ from_lines place rule.from ++ scope_lines place scopes rule.scopes ++ kind_lines place rules rule

-- a hide table with its index, which comes after these rules
abbrev pub hide_lines : List ℕ → List Rule → List (List ℕ) → ℕ × Hide → List ℕ
hide_lines file rules scopes indexed =
    let hide = indexed.1 in
    let place = At file (numbered.Hide (length rules + indexed.0 + 1)) (Some hide.name) in
    from_lines place hide.from ++ scope_lines place scopes hide.scopes ++ kind_line place rules hide.kind

-- that there are no rules
abbrev pub absence_line : List ℕ → List Rule → List ℕ
absence_line file [] = warning_line (File file) NoRules
absence_line file (rule ∷ rules) = []

-- that there are rules, and none lets anyone see anything
abbrev pub lets_see : Rule → Bool
lets_see rule = rule.allow && action_eq rule.action See

abbrev pub lets_any_see : List Rule → Bool
lets_any_see rules = list_any lets_see rules

abbrev pub has_sight : List Rule → Bool
has_sight rules = length rules == 0 || lets_any_see rules

abbrev pub sight_line : List ℕ → List Rule → List ℕ
sight_line file rules = if has_sight rules then [] else warning_line (File file) NoSight

-- rule after rule, then hide table after hide table
abbrev pub warnings_of_rules : List ℕ → SiteRules → List (List ℕ) → List ℕ
warnings_of_rules file site scopes =
    absence_line file (rules_in site)
    ++ sight_line file (rules_in site)
    ++ flat_map (rule_lines file (rules_in site) scopes) (enumerate_from 0 (rules_in site))
    ++ flat_map (hide_lines file (rules_in site) scopes) (enumerate_from 0 (hides_in site))
