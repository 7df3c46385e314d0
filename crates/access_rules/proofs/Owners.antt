-- Rules about owners, and rules without them.
use Rattle.std.proofs.Common.{◌≡◌, ℕ, ◌+◌, Bool, true, false, cond, List, [], ◌∷◌, length, Some, None, refl, sym, ap, ap₂, ◌∙◌}
use Rattle.std.specs.Prelude.{◌&&◌, ◌||◌, not, nat_lt, position}
use Rattle.std.specs.List.{list_all, list_any, prefix_len}
use Rattle.std.proofs.lemmas.Bool.{and_parts}
use Rattle.access_rules.specs.Deciding.{Deed, SiteRules, action_eq, allows_kind, allows_scope, deciding, deed, fits, is_own, is_owners, is_without_owners, rules_in, verdict_at}
use Rattle.addresses.specs.Addresses.{has_address}
use Rattle.access_rules.specs.declared.rule.Action.{Action}
use Rattle.access_rules.specs.declared.rule.Rule.{Rule}
use Rattle.access_rules.proofs.DecidingRules.{no_rule_allows}

-- ---- owners alone

and-none : (a b : Bool) → b ≡ false → (a && b) ≡ false
and-none true b h = h
and-none false b h = refl

none-and : (a b : Bool) → a ≡ false → (a && b) ≡ false
none-and true b h = cc
none-and false b h = refl

true-false : {A : Type 0} (b : Bool) → b ≡ true → b ≡ false → A
true-false true h k = absurd cc
true-false false h k = absurd cc

-- a rule about owners fits no deed of another
owners-miss : (d : Deed) (scope : List ℕ) (r : Rule) → is_owners d.action r ≡ true → is_own d ≡ false → fits d scope r ≡ false
owners-miss d scope r owners other =
    let from = list_any (λ p. has_address p d.asker) r.from in
    let kind = allows_kind r.kind d.kind in
    let scoped = allows_scope r.scopes scope in
    elim (action_eq r.action d.action) as (λ b. action_eq r.action d.action ≡ b → (not b || r.owner) ≡ true → ((((from && b) && kind) && scoped) && (not r.owner || is_own d)) ≡ false) [
      | true ↦ λ e is. and-none (((from && true) && kind) && scoped) (not r.owner || is_own d) (ap₂ (λ a b. not a || b) is other)
      | false ↦ λ e is. none-and (((from && false) && kind) && scoped) (not r.owner || is_own d) (none-and ((from && false) && kind) scoped (none-and (from && false) kind (and-none from false refl)))
    ] refl owners

none-fits : (d : Deed) (scope : List ℕ) (rules : List Rule) → list_all (is_owners d.action) rules ≡ true → is_own d ≡ false → list_any (λ r. fits d scope r && r.allow) rules ≡ false
none-fits d scope [] owners other = refl
none-fits d scope (r ∷ rs) owners other =
    let parts = and_parts (is_owners d.action r) (list_all (is_owners d.action) rs) owners in
    ap₂ ◌||◌ (none-and (fits d scope r) r.allow (owners-miss d scope r parts.0 other)) (none-fits d scope rs parts.1 other)

pub owners-alone : (rules : SiteRules) (d : Deed) (scope : List ℕ) → list_all (is_owners d.action) (rules_in rules) ≡ true → is_own d ≡ false → (deciding rules d scope).allow ≡ false
owners-alone rules d scope owners other = no_rule_allows rules d scope (none-fits d scope (rules_in rules) owners other)

-- ---- without owners

same-fit : (asker : ℕ) (action : Action) (kind : List ℕ) (one other : ℕ) (scope : List ℕ) (r : Rule) → not r.owner ≡ true → fits (deed asker action kind one) scope r ≡ fits (deed asker action kind other) scope r
same-fit asker action kind one other scope r plain =
    ap (λ b. ((((list_any (λ p. has_address p asker) r.from && action_eq r.action action) && allows_kind r.kind kind) && allows_scope r.scopes scope) && (b || is_own (deed asker action kind one)))) plain
    ∙ sym (ap (λ b. ((((list_any (λ p. has_address p asker) r.from && action_eq r.action action) && allows_kind r.kind kind) && allows_scope r.scopes scope) && (b || is_own (deed asker action kind other)))) plain)

same-prefix : (p q : Rule → Bool) → ((r : Rule) → not r.owner ≡ true → p r ≡ q r) → (rules : List Rule) → list_all (λ r. not r.owner) rules ≡ true → prefix_len (λ r. not (p r)) rules ≡ prefix_len (λ r. not (q r)) rules
same-prefix p q same [] plain = refl
same-prefix p q same (r ∷ rs) plain =
    let parts = and_parts (not r.owner) (list_all (λ x. not x.owner) rs) plain in
    ap₂ (λ b n. cond (not b) (1 + n) 0) (same r parts.0) (same-prefix p q same rs parts.1)

same-place : (asker : ℕ) (action : Action) (kind : List ℕ) (one other : ℕ) (scope : List ℕ) (rules : List Rule) → list_all (λ r. not r.owner) rules ≡ true
    → position (fits (deed asker action kind one) scope) rules ≡ position (fits (deed asker action kind other) scope) rules
same-place asker action kind one other scope rules plain =
    ap (λ n. cond (nat_lt n (length rules)) (Some n) None) (same-prefix (fits (deed asker action kind one) scope) (fits (deed asker action kind other) scope) (same-fit asker action kind one other scope) rules plain)

pub whoever-registered : (rules : SiteRules) (asker : ℕ) (action : Action) (kind : List ℕ) (one other : ℕ) (scope : List ℕ) → is_without_owners rules ≡ true
    → deciding rules (deed asker action kind one) scope ≡ deciding rules (deed asker action kind other) scope
whoever-registered rules asker action kind one other scope plain = ap (verdict_at rules) (same-place asker action kind one other scope (rules_in rules) plain)
