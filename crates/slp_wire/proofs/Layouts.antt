-- Layouts hold what they lay out, and a body that is laid out is read and spelled so.
use Rattle.std.proofs.Common.{◌≡◌, ℕ, ◌<◌, List, ◌++◌, length, Result, Ok, refl, sym, ap, subst, ◌∙◌, lit<}
use Rattle.slp_messages.specs.Fields.{Values, AreFit}
use Rattle.slp_messages.specs.Layouts.{Layout, FitsLayout, service_request, registration, withdrawal, acknowledgement, attribute_request, type_request, service_agent, services, attributes, directory_agent, types}
use Rattle.slp_fields.specs.Reading.{layout_at}
use Rattle.slp_fields.specs.Spelling.{SpellsValues, SpellsLayout}
use Rattle.slp_fields.specs.declared.fault.WireFault.{WireFault}
use Rattle.slp_wire.proofs.Steps.{IsBytes, Takes, from_ok}
use Rattle.slp_wire.proofs.Values.{reading_takes, reading_again, values_some}

-- what is made of values holds them, what a value holds makes it, and it has a field
pub record IsLawful {A : Type 0} (layout : Layout A) : Type 0 where
  pub keeps : (values : Values layout.kinds) → layout.held (layout.made values) ≡ values
  pub returns : (a : A) → layout.made (layout.held a) ≡ a
  pub some : (text : List ℕ) (values : Values layout.kinds) → SpellsValues layout.kinds text values → 0 < length text

pub service_request_lawful : IsLawful service_request
service_request_lawful = record { keeps = λ v. refl; returns = λ q. refl; some = values_some service_request.kinds (lit< tt) }

pub registration_lawful : IsLawful registration
registration_lawful = record { keeps = λ v. refl; returns = λ r. refl; some = values_some registration.kinds (lit< tt) }

pub withdrawal_lawful : IsLawful withdrawal
withdrawal_lawful = record { keeps = λ v. refl; returns = λ w. refl; some = values_some withdrawal.kinds (lit< tt) }

pub acknowledgement_lawful : IsLawful acknowledgement
acknowledgement_lawful = record { keeps = λ v. refl; returns = λ code. refl; some = values_some acknowledgement.kinds (lit< tt) }

pub attribute_request_lawful : IsLawful attribute_request
attribute_request_lawful = record { keeps = λ v. refl; returns = λ q. refl; some = values_some attribute_request.kinds (lit< tt) }

pub type_request_lawful : IsLawful type_request
type_request_lawful = record { keeps = λ v. refl; returns = λ q. refl; some = values_some type_request.kinds (lit< tt) }

pub service_agent_lawful : IsLawful service_agent
service_agent_lawful = record { keeps = λ v. refl; returns = λ a. refl; some = values_some service_agent.kinds (lit< tt) }

pub services_lawful : IsLawful services
services_lawful = record { keeps = λ v. refl; returns = λ es. refl; some = values_some services.kinds (lit< tt) }

pub attributes_lawful : IsLawful attributes
attributes_lawful = record { keeps = λ v. refl; returns = λ list. refl; some = values_some attributes.kinds (lit< tt) }

pub directory_agent_lawful : IsLawful directory_agent
directory_agent_lawful = record { keeps = λ v. refl; returns = λ a. refl; some = values_some directory_agent.kinds (lit< tt) }

pub types_lawful : IsLawful types
types_lawful = record { keeps = λ v. refl; returns = λ list. refl; some = values_some types.kinds (lit< tt) }

-- what was read as laid out
abbrev pub Laid : {A : Type 0} → Layout A → List ℕ → A × List ℕ → Type 0
Laid layout bytes x = (text : List ℕ) × Takes bytes text x.1 × SpellsLayout layout text x.0 × FitsLayout layout x.0

pub laid_takes : {A : Type 0} (layout : Layout A) → IsLawful layout → (bytes : List ℕ) (a : A) (rest : List ℕ) → IsBytes bytes → layout_at layout bytes ≡ Ok (a, rest) → Laid layout bytes (a, rest)
laid_takes layout lawful bytes a rest fits e =
    let t = reading_takes layout.kinds bytes (λ values r. Ok (layout.made values, r)) (a, rest) fits e in
    let holds = subst (λ (v : Values layout.kinds). SpellsValues layout.kinds t.2.text v × AreFit layout.kinds v) (sym (lawful.keeps t.0)) (t.2.spells, t.2.fit) in
    from_ok (Laid layout bytes) (layout.made t.0, t.1) (a, rest) t.3 (t.2.text, t.2.takes, holds.0, holds.1)

pub laid_again : {A : Type 0} (layout : Layout A) → IsLawful layout → (text : List ℕ) (a : A) (rest : List ℕ) → SpellsLayout layout text a → FitsLayout layout a → layout_at layout (text ++ rest) ≡ Ok (a, rest)
laid_again {A = A} layout lawful text a rest spells fit =
    let pair : A → Result (A × List ℕ) WireFault = λ (b : A). Ok (b, rest) in
    reading_again layout.kinds text rest (layout.held a) (λ values r. Ok (layout.made values, r)) spells fit ∙ ap pair (lawful.returns a)
