-- How attributes are stored as data.
use Rattle.std.specs.Prelude.{◌≡◌, ◌⊎◌, ℕ, ℤ, Bool, List, refl}
use Rattle.std.specs.Coded.{Coded, code_by, coded⊎, coded_ℕ, coded_ℤ, coded_bool, coded_list, coded_option}
use Rattle.std.specs.FinMap as fin
use Rattle.std.specs.Prelude.{Option, Some, None}
use mathlib.Core.Logic.{inl, inr}
use Rattle.attr_values.specs.declared.value.Value.{Value}
use Rattle.attr_values.specs.declared.value.Value.TheVariants as value
use Rattle.attr_list.specs.Lists.{Attributes}
use Rattle.attr_list.specs.declared.held.Held.{Held}
use Rattle.attr_list.specs.declared.held.Held.TheVariants.{Keyword, Values}

-- a value as one of four
abbrev pub Choice : Type 0
Choice = Bool ⊎ (ℤ ⊎ (List ℕ ⊎ List ℕ))

abbrev pub value_choice : Value → Choice
value_choice (value.Bool b) = inl b
value_choice (value.Int n) = inr (inl n)
value_choice (value.Opaque bytes) = inr (inr (inl bytes))
value_choice (value.Text t) = inr (inr (inr t))

abbrev pub value_from : Choice → Value
value_from (inl b) = value.Bool b
value_from (inr (inl n)) = value.Int n
value_from (inr (inr (inl bytes))) = value.Opaque bytes
value_from (inr (inr (inr t))) = value.Text t

abbrev pub value_back : (v : Value) → value_from (value_choice v) ≡ v
value_back (value.Bool b) = refl
value_back (value.Int n) = refl
value_back (value.Opaque bytes) = refl
value_back (value.Text t) = refl

abbrev pub value_code : Coded Value
value_code = code_by Choice (coded⊎ coded_bool (coded⊎ coded_ℤ (coded⊎ (coded_list coded_ℕ) (coded_list coded_ℕ)))) value_choice value_from value_back

-- the values of a tag, if it is not a keyword
abbrev pub held_values : Held → Option (List Value)
held_values Keyword = None
held_values (Values vs) = Some vs

abbrev pub held_from : Option (List Value) → Held
held_from None = Keyword
held_from (Some vs) = Values vs

abbrev pub held_back : (h : Held) → held_from (held_values h) ≡ h
held_back Keyword = refl
held_back (Values vs) = refl

abbrev pub held_code : Coded Held
held_code = code_by (Option (List Value)) (coded_option (coded_list value_code)) held_values held_from held_back

-- a map of attributes by its sorted list
abbrev pub attributes_code : Coded Attributes
attributes_code = fin.code (coded_list coded_ℕ) held_code
