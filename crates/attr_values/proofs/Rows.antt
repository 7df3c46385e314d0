-- Values of small texts, by computation.
use Rattle.std.proofs.Common.{◌≡◌, [], ◌∷◌, Ok, Err, refl, true}
use Rattle.std.specs.Prelude.{codes, false, pos, negsuc}
use Rattle.std.specs.declared.cmp.Ordering.TheVariants.{Less, Equal, Greater}
use Rattle.std.specs.Str.{chars}
use Rattle.caseless.proofs.Computing.{caseless}
use Rattle.slp_text.specs.Keys.{key_of}
use Rattle.attr_values.specs.Ranks.{value_cmp}
use Rattle.attr_values.specs.Values.{value_of}
use Rattle.attr_values.specs.declared.fault.AttrFault.TheVariants.{BadEscape, BadList}
use Rattle.attr_values.specs.declared.value.Value.TheVariants.{Bool, Int, Opaque, Text}

opaque_bytes : value_of (codes "\\ff\\00\\bE") ≡ Ok (Opaque (0 ∷ 0xBE ∷ []))
opaque_bytes = refl

raw_in_opaque : value_of (codes "\\FF \\00") ≡ Err BadList
raw_in_opaque = refl

escape_of_none : value_of (codes "x\\ff") ≡ Err BadEscape
escape_of_none = refl

escaped_comma : value_of (codes " x\\2cy ") ≡ Ok (Text (codes "x,y"))
unfolding caseless lib.Utf8.encode
escaped_comma = refl

minus_zero : value_of (codes "-0") ≡ Ok (Int (pos 0))
unfolding caseless lib.Utf8.encode
minus_zero = refl

least : value_of (codes "-2147483648") ≡ Ok (Int (negsuc 2147483647))
unfolding caseless lib.Utf8.encode
least = refl

too_large : value_of (codes "2147483648") ≡ Ok (Text (codes "2147483648"))
unfolding caseless lib.Utf8.encode
too_large = refl

plus : value_of (codes "+5") ≡ Ok (Text (codes "+5"))
unfolding caseless lib.Utf8.encode
plus = refl

nothing : value_of [] ≡ Ok (Text [])
unfolding caseless lib.Utf8.encode
nothing = refl

truth : value_of (codes " TRUE ") ≡ Ok (Bool true)
unfolding caseless lib.Utf8.encode
truth = refl

-- ---- the order of values

numbers_by_size : value_cmp (Int (pos 9)) (Int (pos 10)) ≡ Less
numbers_by_size = refl

numbers_before_texts : value_cmp (Int (pos 10)) (Text (codes "1")) ≡ Less
numbers_before_texts = refl

texts_by_their_keys : value_cmp (Text (codes "A4")) (Text (codes "a4")) ≡ Equal
unfolding key_of caseless chars lib.Utf8.encode
texts_by_their_keys = refl

truths_before_numbers : value_cmp (Bool true) (Int (pos 0)) ≡ Less
truths_before_numbers = refl

false_before_true : value_cmp (Bool true) (Bool false) ≡ Greater
false_before_true = refl
