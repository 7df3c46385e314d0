-- The first fault of some definitions, and that there is none.
use Rattle.std.proofs.Common.{◌≡◌, ℕ, ◌+◌, List, [], ◌∷◌, Option, Some, None, refl, sym, ap, subst, ◌∙◌}
use Rattle.std.specs.Prelude.{◌↔◌, IsNone}
use Rattle.std.proofs.lemmas.Bool.{true≢false}
use Rattle.std.proofs.lemmas.Option.{none-some}
use Rattle.std.specs.Option.{option_and_then, option_map_or, unwrap_or}
use Rattle.attr_list.specs.Lists.{Attributes}
use Rattle.srv_template.specs.Conformity.{definitions_for, fault_on, first_fault, template_fault, Conforms, ConformsTo, SiteTemplates}
use Rattle.srv_template.specs.declared.definition.Definition.{Definition}
use Rattle.srv_template.specs.declared.fault.FaultKind.{FaultKind}
use Rattle.srv_template.specs.declared.fault.TemplateFault.{TemplateFault}

none_of : (n : ℕ) (o : Option FaultKind) (rest : Option TemplateFault) → option_map_or (λ k. Some (record { definition = n; kind = k })) o rest ≡ None → (o ≡ None) × (rest ≡ None)
none_of n None rest e = (refl, e)
none_of n (Some k) rest e = absurd (none-some _ (sym e))

pub conforms-no_fault : (n : ℕ) (ds : List Definition) (a : Attributes) → Conforms ds a → first_fault n ds a ≡ None
conforms-no_fault n [] a h = refl
conforms-no_fault n (d ∷ ds) a h = ap (λ o. option_map_or (λ k. Some (record { definition = n; kind = k })) o (first_fault (n + 1) ds a)) h.0 ∙ conforms-no_fault (n + 1) ds a h.1

pub no_fault-conforms : (n : ℕ) (ds : List Definition) (a : Attributes) → first_fault n ds a ≡ None → Conforms ds a
no_fault-conforms n [] a e = tt
no_fault-conforms n (d ∷ ds) a e = let p = none_of n (fault_on d a) _ e in (p.0, no_fault-conforms (n + 1) ds a p.1)

same_some : {A : Type 0} (x y : A) → Some x ≡ Some y → x ≡ y
same_some x y e = ap (λ o. unwrap_or o x) e

-- what a look-up of the definitions gives, if it gives any
conforming : (o : Option (List Definition)) (a : Attributes) → (option_and_then (λ ds. first_fault 0 ds a) o ≡ None) ↔ ((ds : List Definition) → o ≡ Some ds → Conforms ds a)
conforming None a = (λ e ds h. absurd (none-some ds h), λ h. refl)
conforming (Some ds) a = (λ e es h. subst (λ xs. Conforms xs a) (same_some _ _ h) (no_fault-conforms 0 ds a e), λ h. conforms-no_fault 0 ds a (h ds refl))

pub no_template_fault : (templates : SiteTemplates) (type : List ℕ) (a : Attributes) → (template_fault templates type a ≡ None) ↔ ConformsTo templates type a
no_template_fault templates type a = conforming (definitions_for templates type) a

is_none : (o : Option TemplateFault) → IsNone o ↔ (o ≡ None)
is_none None = (λ h. refl, λ e. refl)
is_none (Some f) = (λ h. absurd (true≢false h), λ e. absurd (none-some f (sym e)))

-- what is asked and what is answered
pub conforms-answer : (o : Option TemplateFault) (templates : SiteTemplates) (type : List ℕ) (a : Attributes) → o ≡ template_fault templates type a → IsNone o ↔ ConformsTo templates type a
conforms-answer o templates type a e =
    let law = no_template_fault templates type a in
    (λ h. law.0 (sym e ∙ (is_none o).0 h), λ h. (is_none o).1 (e ∙ law.1 h))
