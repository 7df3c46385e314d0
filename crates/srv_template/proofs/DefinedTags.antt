-- The first fault is decided by what is held at the tags that are defined.
use Rattle.std.proofs.Common.{◌≡◌, ℕ, ◌+◌, List, [], ◌∷◌, Option, Some, None, refl, ap, ◌∙◌}
use Rattle.std.specs.FinMap as fin
use Rattle.std.specs.List.{AllByRecursion}
use Rattle.std.specs.Option.{option_and_then, option_map_or}
use Rattle.attr_list.specs.Lists.{Attributes}
use Rattle.srv_template.specs.Conformity.{definitions_for, fault_of_held, fault_on, first_fault, template_fault, AgreeOn, SiteTemplates}
use Rattle.srv_template.specs.declared.definition.Definition.{Definition}

-- attributes that hold the same at each tag of some definitions
abbrev AgreeAt : Attributes → Attributes → List Definition → Type 0
AgreeAt a b ds = AllByRecursion (λ d. fin.get a d.tag ≡ fin.get b d.tag) ds

same_first : (n : ℕ) (ds : List Definition) (a b : Attributes) → AgreeAt a b ds → first_fault n ds a ≡ first_fault n ds b
same_first n [] a b h = refl
same_first n (d ∷ ds) a b h =
    ap (λ o. option_map_or (λ k. Some (record { definition = n; kind = k })) (fault_of_held d o) (first_fault (n + 1) ds a)) h.0
    ∙ ap (option_map_or (λ k. Some (record { definition = n; kind = k })) (fault_on d b)) (same_first (n + 1) ds a b h.1)

same_of : (o : Option (List Definition)) (a b : Attributes) → ((ds : List Definition) → o ≡ Some ds → AgreeAt a b ds)
    → option_and_then (λ ds. first_fault 0 ds a) o ≡ option_and_then (λ ds. first_fault 0 ds b) o
same_of None a b h = refl
same_of (Some ds) a b h = same_first 0 ds a b (h ds refl)

pub same_fault : (templates : SiteTemplates) (type : List ℕ) (a b : Attributes) → AgreeOn templates type a b → template_fault templates type a ≡ template_fault templates type b
same_fault templates type a b h = same_of (definitions_for templates type) a b h
