-- How operands are stored as data: as one of four.
use Rattle.std.specs.Prelude.{◌≡◌, ◌⊎◌, ℕ, ℤ, Bool, List, refl}
use Rattle.std.specs.Coded.{Coded, coded⊎, coded_ℕ, coded_ℤ, coded_bool, coded_list}
use mathlib.Core.Logic.{inl, inr}
use Rattle.attr_operands.specs.declared.operand.Operand.{Operand}
use Rattle.attr_operands.specs.declared.operand.Operand.TheVariants as operand

-- an operand as one of four
abbrev pub OperandChoice : Type 0
OperandChoice = Bool ⊎ (ℤ ⊎ (List ℕ ⊎ List ℕ))

abbrev pub operand_choice : Operand → OperandChoice
operand_choice (operand.Bool b) = inl b
operand_choice (operand.Int n) = inr (inl n)
operand_choice (operand.Opaque bytes) = inr (inr (inl bytes))
operand_choice (operand.Text k) = inr (inr (inr k))

abbrev pub operand_from : OperandChoice → Operand
operand_from (inl b) = operand.Bool b
operand_from (inr (inl n)) = operand.Int n
operand_from (inr (inr (inl bytes))) = operand.Opaque bytes
operand_from (inr (inr (inr k))) = operand.Text k

abbrev pub operand_back : (o : Operand) → operand_from (operand_choice o) ≡ o
operand_back (operand.Bool b) = refl
operand_back (operand.Int n) = refl
operand_back (operand.Opaque bytes) = refl
operand_back (operand.Text k) = refl

abbrev pub operand_choice_code : Coded OperandChoice
operand_choice_code = coded⊎ coded_bool (coded⊎ coded_ℤ (coded⊎ (coded_list coded_ℕ) (coded_list coded_ℕ)))
