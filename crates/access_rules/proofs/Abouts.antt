-- What is about one asker decides of what it sees as all does.
use Rattle.std.proofs.Common.{◌≡◌, ◌≤◌, ℕ, suc, Bool, true, false, cond, List, [], ◌∷◌, ◌++◌, ◌+◌, Option, Some, None, arith, refl, sym, ap, ◌∙◌}
use Rattle.std.specs.Prelude.{◌&&◌, ◌||◌, not, position, slice_get, nat_lt, length, if◌then◌else◌}
use Rattle.std.specs.List.{list_any, position_or_len}
use Rattle.std.specs.Option.{option_map_or}
use Rattle.std.proofs.lemmas.Bool.Decides.{nat_tests}
use Rattle.std.proofs.lemmas.List.Folds.{list_any-append}
use Rattle.std.proofs.lemmas.Option.{slice_get_past}
use Rattle.slp_tags.specs.Tags.{selects}
use Rattle.access_rules.specs.Deciding.{Deed, SiteRules, IsPart, SeeAlike, action_eq, allows_kind, allows_scope, deciding, fits, hides_in, is_hide_about, is_hiding, is_own, is_rule_about, rules_in, verdict_at}
use Rattle.addresses.specs.Addresses.{has_address}
use Rattle.access_rules.specs.declared.hide.Hide.{Hide}
use Rattle.access_rules.specs.declared.rule.Action.TheVariants.{See}
use Rattle.access_rules.specs.declared.rule.Rule.{Rule}

not_less : {A : Type 0} (xs : List A) (n : ℕ) → nat_lt n (length xs) ≡ false → length xs ≤ n
not_less xs n e = grind (arith, nat_tests)

-- whether the first rule that fits allows; without one all is denied
abbrev allowed_by : List Rule → Deed → List ℕ → Bool
allowed_by [] d scope = false
allowed_by (r ∷ rs) d scope = if fits d scope r then r.allow else allowed_by rs d scope

module _ (d : Deed) (scope : List ℕ) where
  -- what the rule at a place says
  abbrev said : List Rule → Option ℕ → Bool
  said rs None = false
  said rs (Some i) = option_map_or (λ r. r.allow) (slice_get rs i) false

  -- the first that fits lies at its place
  at_first : (rs : List Rule) → allowed_by rs d scope ≡ option_map_or (λ r. r.allow) (slice_get rs (position_or_len (fits d scope) rs)) false
  at_first [] = refl
  at_first (r ∷ rs) = elim (fits d scope r) as (λ b. (if b then r.allow else allowed_by rs d scope) ≡ option_map_or (λ r. r.allow) (slice_get (r ∷ rs) (cond (not b) (1 + position_or_len (fits d scope) rs) 0)) false) [
    | true ↦ refl
    | false ↦
        let n = position_or_len (fits d scope) rs in
        let next : 1 + n ≡ suc n = omega arith in
        at_first rs ∙ sym (ap (λ k. option_map_or (λ r. r.allow) (slice_get (r ∷ rs) k) false) next)
  ]

  said_first : (rs : List Rule) → allowed_by rs d scope ≡ said rs (position (fits d scope) rs)
  said_first rs =
      let n = position_or_len (fits d scope) rs in
      at_first rs ∙ sym (elim (nat_lt n (length rs)) as (λ b. nat_lt n (length rs) ≡ b → said rs (cond b (Some n) None) ≡ option_map_or (λ r. r.allow) (slice_get rs n) false) [
        | true ↦ λ e. refl
        | false ↦ λ e. sym (ap (λ o. option_map_or (λ r. r.allow) o false) (slice_get_past rs n (not_less rs n e)))
      ] refl)

  said_is : (rules : SiteRules) (o : Option ℕ) → said (rules_in rules) o ≡ (verdict_at rules o).allow
  said_is rules None = refl
  said_is rules (Some i) = refl

  -- what is allowed by the first that fits is what is decided
  allowed_is : (rules : SiteRules) → allowed_by (rules_in rules) d scope ≡ (deciding rules d scope).allow
  allowed_is rules = said_first (rules_in rules) ∙ said_is rules (position (fits d scope) (rules_in rules))

-- a test that none of these passes
none_such : {A : Type 0} (is test : A → Bool) → ((x : A) → is x ≡ false → test x ≡ false) → (xs : List A) → list_any is xs ≡ false → list_any test xs ≡ false
none_such is test fails [] none = refl
none_such is test fails (x ∷ xs) none = elim (is x) as (λ b. is x ≡ b → (b || list_any is xs) ≡ false → (test x || list_any test xs) ≡ false) [
  | true ↦ λ e some. absurd (let same : true ≡ false = some in cc)
  | false ↦ λ e rest. ap (λ b. b || list_any test xs) (fails x e) ∙ none_such is test fails xs rest
] refl none

-- some of a list pass a test where some of its part do
any_of_part : {A : Type 0} (is test : A → Bool) (part all : List A) → ((x : A) → is x ≡ false → test x ≡ false) → IsPart is part all → list_any test part ≡ list_any test all
any_of_part is test part all fails p = sym (
    ap (list_any test) p.whole
    ∙ (list_any-append test p.before (part ++ p.after) ∙ (ap (λ b. b || list_any test (part ++ p.after)) (none_such is test fails p.before p.none_before)
    ∙ (list_any-append test part p.after ∙ (ap (λ b. list_any test part || b) (none_such is test fails p.after p.none_after) ∙ or_none (list_any test part))))))
  where
    or_none : (b : Bool) → (b || false) ≡ b
    or_none true = refl
    or_none false = refl

module _ (d : Deed) (scope : List ℕ) where
  -- rules that don't fit, in front and behind
  skipped_front : (before rs : List Rule) → list_any (fits d scope) before ≡ false → allowed_by (before ++ rs) d scope ≡ allowed_by rs d scope
  skipped_front [] rs none = refl
  skipped_front (r ∷ before) rs none = elim (fits d scope r) as (λ b. (b || list_any (fits d scope) before) ≡ false → (if b then r.allow else allowed_by (before ++ rs) d scope) ≡ allowed_by rs d scope) [
    | true ↦ λ e. absurd (let same : true ≡ false = e in cc)
    | false ↦ λ e. skipped_front before rs e
  ] none

  skipped_all : (after : List Rule) → list_any (fits d scope) after ≡ false → allowed_by after d scope ≡ false
  skipped_all [] none = refl
  skipped_all (r ∷ after) none = elim (fits d scope r) as (λ b. (b || list_any (fits d scope) after) ≡ false → (if b then r.allow else allowed_by after d scope) ≡ false) [
    | true ↦ λ e. absurd (let same : true ≡ false = e in cc)
    | false ↦ λ e. skipped_all after e
  ] none

  skipped_back : (rs after : List Rule) → list_any (fits d scope) after ≡ false → allowed_by (rs ++ after) d scope ≡ allowed_by rs d scope
  skipped_back [] after none = skipped_all after none
  skipped_back (r ∷ rs) after none = ap (λ b. if fits d scope r then r.allow else b) (skipped_back rs after none)

  -- what is about nobody who asks, or about something else than what is seen, does not fit
  unfit_rule : d.action ≡ See → (r : Rule) → is_rule_about r d.asker ≡ false → fits d scope r ≡ false
  unfit_rule sees r other =
      let by_action : fits d scope r ≡ (list_any (λ p. has_address p d.asker) r.from && action_eq r.action See && allows_kind r.kind d.kind && allows_scope r.scopes scope && (not r.owner || is_own d)) =
      ap (λ a. list_any (λ p. has_address p d.asker) r.from && action_eq r.action a && allows_kind r.kind d.kind && allows_scope r.scopes scope && (not r.owner || is_own d)) sees in
      by_action ∙ (elim (list_any (λ p. has_address p d.asker) r.from) as (λ b. (action_eq r.action See && b) ≡ false → (b && action_eq r.action See && allows_kind r.kind d.kind && allows_scope r.scopes scope && (not r.owner || is_own d)) ≡ false) [
        | false ↦ λ e. refl
        | true ↦ elim (action_eq r.action See) as (λ a. (a && true) ≡ false → (true && a && allows_kind r.kind d.kind && allows_scope r.scopes scope && (not r.owner || is_own d)) ≡ false) [
          | true ↦ λ e. absurd (let same : true ≡ false = e in cc)
          | false ↦ λ e. refl
        ]
      ] other)

  unfit_hide : (tag : List ℕ) (h : Hide) → is_hide_about h d.asker ≡ false → (is_hiding d scope h && selects h.tags tag) ≡ false
  unfit_hide tag h other = ap (λ b. (b && allows_kind h.kind d.kind && allows_scope h.scopes scope && not (h.spares_owner && is_own d)) && selects h.tags tag) other

pub see_alike : (asker : ℕ) (some all : SiteRules) → IsPart (λ r. is_rule_about r asker) (rules_in some) (rules_in all) → IsPart (λ h. is_hide_about h asker) (hides_in some) (hides_in all) → SeeAlike asker some all
see_alike asker some all p q = record {
  opens = λ d scope by sees.
      let unfit : (r : Rule) → is_rule_about r asker ≡ false → fits d scope r ≡ false = λ r other. unfit_rule d scope sees r (ap (is_rule_about r) by ∙ other) in
      sym (sym (allowed_is d scope all) ∙ (ap (λ rs. allowed_by rs d scope) p.whole
      ∙ (skipped_front d scope p.before (rules_in some ++ p.after) (none_such (λ r. is_rule_about r asker) (fits d scope) unfit p.before p.none_before)
      ∙ (skipped_back d scope (rules_in some) p.after (none_such (λ r. is_rule_about r asker) (fits d scope) unfit p.after p.none_after) ∙ allowed_is d scope some))));
  hides = λ d scope tag by.
      any_of_part (λ h. is_hide_about h asker) (λ h. is_hiding d scope h && selects h.tags tag) (hides_in some) (hides_in all)
      (λ h other. unfit_hide d scope tag h (ap (is_hide_about h) by ∙ other)) q;
}
