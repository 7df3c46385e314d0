-- How templates are stored as data.
use Rattle.std.specs.Prelude.{◌≡◌, ℕ, Bool, ◌==◌, List, refl, if◌then◌else◌}
use Rattle.std.specs.Coded.{Coded, code_by, coded×, coded_ℕ, coded_bool, coded_list}
use Rattle.std.specs.FinMap as fin
use Rattle.attr_operands.specs.Codes.{OperandChoice, operand_back, operand_choice, operand_choice_code, operand_from}
use Rattle.attr_operands.specs.declared.operand.Operand.{Operand}
use Rattle.srv_template.specs.Conformity.{SiteTemplates}
use Rattle.srv_template.specs.Templates.{Template}
use Rattle.srv_template.specs.declared.definition.Definition.{Definition}
use Rattle.srv_template.specs.declared.definition.ValueKind.{ValueKind}
use Rattle.srv_template.specs.declared.definition.ValueKind.TheVariants as kind

-- a kind as one of five numbers
abbrev pub kind_number : ValueKind → ℕ
kind_number kind.Text = 0
kind_number kind.Integer = 1
kind_number kind.Boolean = 2
kind_number kind.Opaque = 3
kind_number kind.Keyword = 4

abbrev pub kind_from : ℕ → ValueKind
kind_from n = if n == 0 then kind.Text else (if n == 1 then kind.Integer else (if n == 2 then kind.Boolean else (if n == 3 then kind.Opaque else kind.Keyword)))

abbrev pub kind_back : (k : ValueKind) → kind_from (kind_number k) ≡ k
kind_back kind.Text = refl
kind_back kind.Integer = refl
kind_back kind.Boolean = refl
kind_back kind.Opaque = refl
kind_back kind.Keyword = refl

abbrev pub kind_code : Coded ValueKind
kind_code = code_by ℕ coded_ℕ kind_number kind_from kind_back

abbrev pub operand_code : Coded Operand
operand_code = code_by OperandChoice operand_choice_code operand_choice operand_from operand_back

abbrev pub definition_code : Coded Definition
definition_code = code_by (List ℕ × (ValueKind × (Bool × (Bool × List Operand))))
    (coded× (coded_list coded_ℕ) (coded× kind_code (coded× coded_bool (coded× coded_bool (coded_list operand_code)))))
    (λ d. (d.tag, (d.kind, (d.multiple, (d.optional, d.allowed)))))
    (λ t. record { tag = t.0; kind = t.1.0; multiple = t.1.1.0; optional = t.1.1.1.0; allowed = t.1.1.1.1 })
    (λ _. refl)

abbrev pub template_code : Coded Template
template_code = code_by (List ℕ × List Definition) (coded× (coded_list coded_ℕ) (coded_list definition_code))
    (λ t. (t.name, t.definitions)) (λ p. record { name = p.0; definitions = p.1 }) (λ _. refl)

-- the templates of a site by their sorted list
abbrev pub templates_code : Coded SiteTemplates
templates_code = fin.code (coded_list coded_ℕ) (coded_list definition_code)
