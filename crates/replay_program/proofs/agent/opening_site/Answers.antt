use Rattle.std.proofs.Common.{◌≡◌, ◌≢◌, List, ℕ, [], ◌∷◌, Ok, length, refl, rules, ap, ◌∙◌, arith, codes}
use Rattle.std.specs.Arc.{arc_value}
use Rattle.srv_template.specs.Conformity.{SiteTemplates}
use Rattle.slp_text.specs.Keys.{key_of}
use Rattle.slp_text.specs.Reading.{IsFault}
use Rattle.slp_scopes.specs.Scopes.{printed_scopes, scopes_of}
use Rattle.slp_text.specs.declared.faults.TextFault.{TextFault}
use Rattle.slp_text.specs.declared.faults.TextFault.TheVariants.{BadEscape, Reserved, NotUtf8, NoMemory}
use Rattle.slp_scopes.proofs.ScopeRows.{default_length, default_scopes}
use Rattle.replay_program.proofs.agent.opening_site.Goals as goal

-- `DEFAULT` reads as one scope
read_one : (ks : List (List ℕ)) → scopes_of (codes "DEFAULT") ≡ Ok ks → ks ≡ key_of (codes "DEFAULT") ∷ []
read_one ks read = cc default_scopes

-- and without a fault
no_fault : (e : TextFault) → e ≢ NoMemory → IsFault e (scopes_of (codes "DEFAULT")) → ⊥
no_fault BadEscape some read = cc default_scopes
no_fault Reserved some read = cc default_scopes
no_fault NotUtf8 some read = cc default_scopes
no_fault NoMemory some read = some refl

pub new-requires-clause-some_scope : goal.new-requires-clause-some_scope
new-requires-clause-some_scope c = omega (arith, ap length (read_one c.in-Ok.scopes c.in-Ok.ensures))

pub new-requires-clause-few_scopes : goal.new-requires-clause-few_scopes
new-requires-clause-few_scopes c = omega (arith, ap length (read_one c.in-Ok.scopes c.in-Ok.ensures))

pub new-requires-clause-short_scopes : goal.new-requires-clause-short_scopes
new-requires-clause-short_scopes c = omega (arith, ap (λ ks. length (printed_scopes ks)) (read_one c.in-Ok.scopes c.in-Ok.ensures), default_length)

pub unreachable-requires : goal.unreachable-requires
unreachable-requires c = no_fault c.in-Err-BadEscape.field-0 (search rules) c.in-Err-BadEscape.ensures

pub returns-in-Ok : goal.returns-in-Ok
returns-in-Ok c =
    c.new.ensures ∙ ap (λ (ks : List (List ℕ)). record { scopes = ks; capacity = 16; templates = arc_value c.in_ok-templates.templates; boot = 1 }) (read_one c.in-Ok.scopes c.in-Ok.ensures)
    ∙ ap (λ (ts : SiteTemplates). record { scopes = key_of (codes "DEFAULT") ∷ []; capacity = 16; templates = ts; boot = 1 }) c.in_ok-templates.ensures
