-- Which values there are: those that are read of some text.
use Rattle.std.specs.Prelude.{◌≡◌, ◌<◌, ◌^◌, ℕ, ℤ, pos, negsuc, List, chars, IsUtf8}
use Rattle.std.specs.List.{AllByRecursion}
use Rattle.slp_text.specs.Keys.{squeezed_text}
use Rattle.attr_values.specs.Values.{value_of_form}
use Rattle.attr_values.specs.declared.value.Value.{Value}
use Rattle.attr_values.specs.declared.value.Value.TheVariants as value

-- a text is squeezed, and would not be read as a value of another kind
pub record IsTextValue (t : List ℕ) : Type 0 where
  pub utf8 : IsUtf8 t
  pub squeezed : squeezed_text (chars t) ≡ chars t
  pub is_text : value_of_form (chars t) ≡ value.Text t

-- from -2147483648 to 2147483647
abbrev pub IsNumber : ℤ → Type 0
IsNumber (pos n) = n < 2 ^ 31
IsNumber (negsuc n) = n < 2 ^ 31

abbrev pub IsValue : Value → Type 0
IsValue (value.Bool b) = Unit {0}
IsValue (value.Int n) = IsNumber n
IsValue (value.Opaque bytes) = AllByRecursion (λ b. b < 256) bytes
IsValue (value.Text t) = IsTextValue t
