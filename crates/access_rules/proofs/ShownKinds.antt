-- What no rule may show is denied.
use Rattle.std.proofs.Common.{◌≡◌, ℕ, Bool, true, false, List, [], ◌∷◌, Option, Some, None, refl, sym, ap, subst, ◌∙◌}
use Rattle.std.specs.Prelude.{◌&&◌, ◌||◌}
use mathlib.Core.Bool.{true≢false}
use Rattle.std.specs.List.{list_any}
use Rattle.std.proofs.lemmas.Bool.{and_from, and_parts, or_left, or_right}
use Rattle.addresses.specs.Addresses.{has_address}
use Rattle.service_url.proofs.Covered.{covers_itself}
use Rattle.service_url.proofs.Roots.{covered_root, covered_same}
use Rattle.service_url.specs.Types.{covers, is_abstract}
use Rattle.access_rules.proofs.DecidingRules.{no_rule_allows}
use Rattle.access_rules.specs.Deciding.{Deed, SiteRules, action_eq, allows_kind, allows_scope, deciding, fits, may_show, overlaps, rules_in}
use Rattle.access_rules.specs.declared.rule.Action.TheVariants.{See}
use Rattle.access_rules.specs.declared.rule.Rule.{Rule}

-- two types that cover a third cover one another, this way or that
covered_both : (named kind third : List ℕ) → covers named third ≡ true → covers kind third ≡ true → (covers named kind || covers kind named) ≡ true
covered_both named kind third n k = by (is_abstract named) (is_abstract kind) refl refl
  where
    by : (a b : Bool) → is_abstract named ≡ a → is_abstract kind ≡ b → (covers named kind || covers kind named) ≡ true
    by false b p q = or_right (covers named kind) (covers kind named) (subst (λ t. covers kind t ≡ true) (covered_same named third p n) k)
    by true false p q = or_left (covers named kind) (covers kind named) (subst (λ t. covers named t ≡ true) (covered_same kind third q k) n)
    by true true p q = or_left (covers named kind) (covers kind named) (subst (λ t. covers named t ≡ true) (sym (covered_root named third p n) ∙ covered_root kind third q k) (covers_itself named))

overlaps-covered : (named : Option (List ℕ)) (kind third : List ℕ) → allows_kind named third ≡ true → covers kind third ≡ true → overlaps named kind ≡ true
overlaps-covered None kind third n k = refl
overlaps-covered (Some named) kind third n k = covered_both named kind third n k

-- a rule that allows what is asked may show it
may_show-allows : (d : Deed) (kind scope : List ℕ) (r : Rule) → d.action ≡ See → covers kind d.kind ≡ true → (fits d scope r && r.allow) ≡ true → may_show d.asker kind scope r ≡ true
may_show-allows d kind scope r see covered h =
    let word = and_parts (fits d scope r) r.allow h in
    let owned = and_parts _ _ word.0 in
    let scopes = and_parts _ _ owned.0 in
    let named = and_parts _ _ scopes.0 in
    let asked = and_parts _ _ named.0 in
    and_from _ _ word.1 (and_from _ _ (subst (λ a. action_eq r.action a ≡ true) see asked.1) (and_from _ _ (overlaps-covered r.kind kind d.kind named.1 covered) (and_from _ _ scopes.1 asked.0)))

none_allows : (d : Deed) (kind scope : List ℕ) (rules : List Rule) → d.action ≡ See → covers kind d.kind ≡ true → list_any (may_show d.asker kind scope) rules ≡ false
    → list_any (λ r. fits d scope r && r.allow) rules ≡ false
none_allows d kind scope [] see covered h = refl
none_allows d kind scope (r ∷ rules) see covered h =
    let parts = neither (may_show d.asker kind scope r) (list_any (may_show d.asker kind scope) rules) h in
    let not_this : (fits d scope r && r.allow) ≡ false = denied (fits d scope r && r.allow) (may_show d.asker kind scope r) (may_show-allows d kind scope r see covered) parts.0 in
    ap (λ b. b || list_any (λ r. fits d scope r && r.allow) rules) not_this ∙ none_allows d kind scope rules see covered parts.1
  where
    neither : (a b : Bool) → (a || b) ≡ false → (a ≡ false) × (b ≡ false)
    neither false b h = (refl, h)
    neither true b h = absurd (true≢false h)

    denied : (a b : Bool) → (a ≡ true → b ≡ true) → b ≡ false → a ≡ false
    denied false b f h = refl
    denied true b f h = absurd (true≢false (sym (f refl) ∙ h))

pub none-shown : (rules : SiteRules) (d : Deed) (kind scope : List ℕ) → d.action ≡ See → covers kind d.kind ≡ true
    → list_any (may_show d.asker kind scope) (rules_in rules) ≡ false → (deciding rules d scope).allow ≡ false
none-shown rules d kind scope see covered h = no_rule_allows rules d scope (none_allows d kind scope (rules_in rules) see covered h)
