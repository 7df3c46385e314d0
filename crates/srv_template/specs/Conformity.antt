-- What a template asks of attributes (RFC 2609, section 4).
use Rattle.std.specs.Prelude.{◌≡◌, ℕ, ◌+◌, Bool, true, false, not, ◌==◌, ◌&&◌, ◌||◌, nat_lt, List, [], ◌∷◌, length, Option, Some, None, if◌then◌else◌}
use Rattle.std.specs.FinMap as fin
use Rattle.std.specs.List.{AllByRecursion, list_all, list_any}
use Rattle.std.specs.Option.{option_and_then, option_map_or}
use Rattle.attr_values.specs.declared.value.Value.{Value}
use Rattle.attr_values.specs.declared.value.Value.TheVariants as value
use Rattle.attr_list.specs.Lists.{Attributes}
use Rattle.attr_list.specs.declared.held.Held.{Held}
use Rattle.attr_list.specs.declared.held.Held.TheVariants.{Keyword, Values}
use Rattle.service_url.specs.Types.{service_name_of}
use Rattle.attr_operands.specs.Operands.{is_equal}
use Rattle.attr_operands.specs.declared.operand.Operand.{Operand}
use Rattle.slp_text.specs.Words.{bytes_cmp}
use Rattle.srv_template.specs.declared.definition.Definition.{Definition}
use Rattle.srv_template.specs.declared.definition.ValueKind.{ValueKind}
use Rattle.srv_template.specs.declared.definition.ValueKind.TheVariants as kind
use Rattle.srv_template.specs.declared.fault.FaultKind.{FaultKind}
use Rattle.srv_template.specs.declared.fault.FaultKind.TheVariants as fault
use Rattle.srv_template.specs.declared.fault.TemplateFault.{TemplateFault}

-- ---- one definition

-- a STRING may be what is not opaque; a keyword has no values
abbrev pub takes : ValueKind → Value → Bool
takes kind.Text (value.Text t) = true
takes kind.Text (value.Int n) = true
takes kind.Text (value.Bool b) = true
takes kind.Text (value.Opaque bytes) = false
takes kind.Integer (value.Int n) = true
takes kind.Integer _ = false
takes kind.Boolean (value.Bool b) = true
takes kind.Boolean _ = false
takes kind.Opaque (value.Opaque bytes) = true
takes kind.Opaque _ = false
takes kind.Keyword v = false

-- the definition is of a keyword
abbrev pub is_keyword : ValueKind → Bool
is_keyword kind.Keyword = true
is_keyword kind.Text = false
is_keyword kind.Integer = false
is_keyword kind.Boolean = false
is_keyword kind.Opaque = false

-- the value is one of those that are allowed; where none is said, each is
abbrev pub is_allowed : List Operand → Value → Bool
is_allowed os v = length os == 0 || list_any (λ o. is_equal o v) os

-- more than one, where one is allowed
abbrev pub are_too_many : Definition → List Value → Bool
are_too_many d vs = not d.multiple && nat_lt 1 (length vs)

-- what is wrong with the values of a tag: the first of three
abbrev pub fault_of_values : Definition → List Value → Option FaultKind
fault_of_values d vs =
    if not (list_all (takes d.kind) vs) then Some fault.WrongKind
    else (if are_too_many d vs then Some fault.Count
    else (if list_all (is_allowed d.allowed) vs then None else Some fault.Value))

-- What is wrong with what a tag holds, if it is there. An optional tag need not be there, and a keyword need not either.
abbrev pub fault_of_held : Definition → Option Held → Option FaultKind
fault_of_held d None = if d.optional || is_keyword d.kind then None else Some fault.Missing
fault_of_held d (Some Keyword) = if is_keyword d.kind then None else Some fault.WrongKind
fault_of_held d (Some (Values vs)) = fault_of_values d vs

-- what is wrong with what attributes hold at the tag of a definition
abbrev pub fault_on : Definition → Attributes → Option FaultKind
fault_on d a = fault_of_held d (fin.get a d.tag)

-- ---- a template

-- no definition has a fault
abbrev pub Conforms : List Definition → Attributes → Type 0
Conforms ds a = AllByRecursion (λ d. fault_on d a ≡ None) ds

-- the first definition that has one, where the first of these has this number
abbrev pub first_fault : ℕ → List Definition → Attributes → Option TemplateFault
first_fault n [] a = None
first_fault n (d ∷ ds) a =
    option_map_or (λ k. Some (record { definition = n; kind = k })) (fault_on d a) (first_fault (n + 1) ds a)

-- ---- the templates of a site

-- the definitions of each type, by the name A of `service:A`
abbrev pub SiteTemplates : Type 0
SiteTemplates = fin.FinMap bytes_cmp (List Definition)

-- the definitions for a type: those of its abstract type, if it has one with a template
abbrev pub definitions_for : SiteTemplates → List ℕ → Option (List Definition)
definitions_for templates type = option_and_then (fin.get templates) (service_name_of type)

-- the attributes of a type conform to its template, if it has one
abbrev pub ConformsTo : SiteTemplates → List ℕ → Attributes → Type 0
ConformsTo templates type a = (ds : List Definition) → definitions_for templates type ≡ Some ds → Conforms ds a

-- what is wrong with the attributes of a type by its template, if it has one
abbrev pub template_fault : SiteTemplates → List ℕ → Attributes → Option TemplateFault
template_fault templates type a = option_and_then (λ ds. first_fault 0 ds a) (definitions_for templates type)

-- attributes that hold the same at each tag that is defined for a type
abbrev pub AgreeOn : SiteTemplates → List ℕ → Attributes → Attributes → Type 0
AgreeOn templates type a b = (ds : List Definition) → definitions_for templates type ≡ Some ds → AllByRecursion (λ d. fin.get a d.tag ≡ fin.get b d.tag) ds
