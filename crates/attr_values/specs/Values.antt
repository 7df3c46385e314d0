-- Values of attributes, as they are read and as they are written (RFC 2608, section 5).
use Rattle.std.specs.Prelude.{ℕ, zero, suc, ℤ, pos, negsuc, ◌+◌, ◌*◌, ◌-◌, ◌/◌, ◌%◌, ◌^◌, Bool, true, false, ◌==◌, ◌&&◌, ◌||◌, nat_lt, List, [], ◌∷◌, ◌++◌, flat_map, chars, codes, encode_utf8_all, Option, Some, None, Result, Ok, Err, if◌then◌else◌}
use Rattle.std.specs.Fmt.{signed_decimal}
use Rattle.std.specs.Option.{option_and_then, option_map_or}
use Rattle.slp_text.specs.Ascii.{backslash, digit_zero, hyphen, is_digit, lower_f, upper_f}
use Rattle.slp_text.specs.Escapes.{capital_digit, escaped_text, unescaped_text_at, unescaped_text_from}
use Rattle.slp_text.specs.Keys.{squeezed_text, trimmed_text, folded_text}
use Rattle.slp_text.specs.Words.{bytes_eq}
use Rattle.slp_text.specs.declared.escapes.Place.TheVariants as place
use Rattle.slp_text.specs.declared.escapes.Stage.TheVariants.{Plain}
use Rattle.slp_text.specs.declared.faults.TextFault.{TextFault}
use Rattle.slp_text.specs.declared.faults.TextFault.TheVariants as text
use Rattle.attr_values.specs.declared.fault.AttrFault.{AttrFault}
use Rattle.attr_values.specs.declared.fault.AttrFault.TheVariants.{BadEscape, BadList, NoMemory}
use Rattle.attr_values.specs.declared.value.Value.{Value}
use Rattle.attr_values.specs.declared.value.Value.TheVariants as value

-- ---- whole numbers

-- digits after the value n
abbrev pub number_from : ℕ → List ℕ → Option ℕ
number_from n [] = Some n
number_from n (c ∷ cs) = if is_digit c then number_from (n * 10 + (c - digit_zero)) cs else None

-- digits, and any number of zeros before them
abbrev pub number_of : List ℕ → Option ℕ
number_of [] = None
number_of (c ∷ cs) = number_from 0 (c ∷ cs)

-- a number without a sign, below 2^31
abbrev pub positive : ℕ → Option ℤ
positive n = if nat_lt n (2 ^ 31) then Some (pos n) else None

-- a number after a minus sign, down to -2^31
abbrev pub negative : ℕ → Option ℤ
negative zero = Some (pos 0)
negative (suc n) = if nat_lt n (2 ^ 31) then Some (negsuc n) else None

-- digits, or `-` and digits, from -2147483648 to 2147483647
abbrev pub integer_of : List ℕ → Option ℤ
integer_of [] = None
integer_of (c ∷ cs) =
    if c == hyphen then option_and_then negative (number_of cs) else option_and_then positive (number_of (c ∷ cs))

-- ---- a value that is read

-- the value that unescaped characters are, by its form: a text keeps its spelling
abbrev pub value_of_form : List ℕ → Value
value_of_form cs =
    if bytes_eq (folded_text cs) (codes "true") then value.Bool true
    else (if bytes_eq (folded_text cs) (codes "false") then value.Bool false
    else option_map_or value.Int (integer_of cs) (value.Text (encode_utf8_all cs)))

-- the fault of a value: what is reserved stands raw
abbrev pub fault_in_value : TextFault → AttrFault
fault_in_value text.BadEscape = BadEscape
fault_in_value text.Reserved = BadList
fault_in_value text.NotUtf8 = BadList
fault_in_value text.NoMemory = NoMemory

-- a value made of characters that were read, or the fault of reading them
abbrev pub value_by : (List ℕ → Value) → Result (List ℕ) TextFault → Result Value AttrFault
value_by f (Ok cs) = Ok (f cs)
value_by f (Err e) = Err (fault_in_value e)

-- the character is F or f
abbrev pub is_f : ℕ → Bool
is_f c = c == upper_f || c == lower_f

-- what comes after the `\FF`, of either case, with which opaque values begin
abbrev pub opaque_rest : List ℕ → Option (List ℕ)
opaque_rest (b ∷ f ∷ g ∷ cs) = if b == backslash && is_f f && is_f g then Some cs else None
opaque_rest _ = None

-- escapes of any byte, and nothing raw
abbrev pub opaque_bytes : List ℕ → Result (List ℕ) TextFault
opaque_bytes = unescaped_text_from (λ b. true) (λ c. true) Plain

-- the value that characters spell, or their first fault; white space at their ends means nothing
abbrev pub value_of : List ℕ → Result Value AttrFault
value_of cs =
    option_map_or (λ rest. value_by value.Opaque (opaque_bytes rest)) (opaque_rest (trimmed_text cs))
    (value_by (λ read. value_of_form (squeezed_text read)) (unescaped_text_at place.Value cs))

-- ---- a value that is written

-- a byte as a backslash and two capital hexadecimal digits
abbrev pub escaped_byte : ℕ → List ℕ
escaped_byte b = backslash ∷ capital_digit (b / 16) ∷ capital_digit (b % 16) ∷ []

-- a value as it is written in a list
abbrev pub value_text : Value → List ℕ
value_text (value.Bool true) = codes "true"
value_text (value.Bool false) = codes "false"
value_text (value.Int n) = signed_decimal n
value_text (value.Opaque bytes) = codes "\\FF" ++ flat_map escaped_byte bytes
value_text (value.Text t) = encode_utf8_all (escaped_text place.Value (chars t))
