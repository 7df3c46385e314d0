-- How rules are stored as data.
use Rattle.std.specs.Prelude.{◌≡◌, ℕ, Bool, true, false, if◌then◌else◌, List, Option, refl}
use Rattle.std.specs.Coded.{Coded, code_by, coded×, coded_ℕ, coded_bool, coded_list, coded_option}
use Rattle.access_rules.specs.declared.rule.Action.{Action}
use Rattle.access_rules.specs.declared.rule.Action.TheVariants.{Register, Withdraw, See}
use Rattle.addresses.specs.declared.prefix.Prefix.{Prefix}
use Rattle.access_rules.specs.declared.rule.Rule.{Rule}
use Rattle.access_rules.specs.declared.hide.Hide.{Hide}
use Rattle.access_rules.specs.Deciding.{SiteRules}

-- an action as two answers: whether it is a registration, and whether it is a withdrawal
abbrev pub action_bits : Action → Bool × Bool
action_bits Register = (true, false)
action_bits Withdraw = (false, true)
action_bits See = (false, false)

abbrev pub action_from : Bool × Bool → Action
action_from b = if b.0 then Register else (if b.1 then Withdraw else See)

abbrev pub action_back : (a : Action) → action_from (action_bits a) ≡ a
action_back Register = refl
action_back Withdraw = refl
action_back See = refl

abbrev pub action_code : Coded Action
action_code = code_by (Bool × Bool) (coded× coded_bool coded_bool) action_bits action_from action_back

abbrev pub prefix_code : Coded Prefix
prefix_code = code_by (ℕ × ℕ) (coded× coded_ℕ coded_ℕ) (λ p. (p.addr, p.bits)) (λ t. record { addr = t.0; bits = t.1 }) (λ _. refl)

abbrev pub Text : Type 0
Text = List ℕ

abbrev pub rule_code : Coded Rule
rule_code = code_by (Text × (List Prefix × (Action × (Option Text × (Option (List Text) × (Bool × Bool))))))
    (coded× (coded_list coded_ℕ) (coded× (coded_list prefix_code) (coded× action_code (coded× (coded_option (coded_list coded_ℕ)) (coded× (coded_option (coded_list (coded_list coded_ℕ))) (coded× coded_bool coded_bool))))))
    (λ r. (r.name, (r.from, (r.action, (r.kind, (r.scopes, (r.allow, r.owner)))))))
    (λ t. record { name = t.0; from = t.1.0; action = t.1.1.0; kind = t.1.1.1.0; scopes = t.1.1.1.1.0; allow = t.1.1.1.1.1.0; owner = t.1.1.1.1.1.1 })
    (λ _. refl)

abbrev pub hide_code : Coded Hide
hide_code = code_by (Text × (List Prefix × (Option Text × (Option (List Text) × (List (List (Option ℕ)) × Bool)))))
    (coded× (coded_list coded_ℕ) (coded× (coded_list prefix_code) (coded× (coded_option (coded_list coded_ℕ)) (coded× (coded_option (coded_list (coded_list coded_ℕ))) (coded× (coded_list (coded_list (coded_option coded_ℕ))) coded_bool)))))
    (λ h. (h.name, (h.from, (h.kind, (h.scopes, (h.tags, h.spares_owner))))))
    (λ t. record { name = t.0; from = t.1.0; kind = t.1.1.0; scopes = t.1.1.1.0; tags = t.1.1.1.1.0; spares_owner = t.1.1.1.1.1 })
    (λ _. refl)

abbrev pub rules_code : Coded SiteRules
rules_code = code_by (List Rule × List Hide) (coded× (coded_list rule_code) (coded_list hide_code)) (λ s. (s.rules, s.hides)) (λ t. record { rules = t.0; hides = t.1 }) (λ _. refl)
