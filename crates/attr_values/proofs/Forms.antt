-- What squeezed characters are by their form.
use Rattle.std.proofs.Common.{◌≡◌, ℕ, Bool, true, false, cond, List, Option, Result, Ok, Err, sym, ap, ◌∙◌, chars, encode_utf8_all}
use Rattle.std.specs.Prelude.{IsUtf8, IfOk, OnErr, codes, ℤ}
use Rattle.std.specs.Option.{option_map_or}
use Rattle.std.proofs.lemmas.Str.{chars_from_encodes, encodes-chars}
use Rattle.slp_text.specs.Keys.{key_of, squeezed_text, folded_text}
use Rattle.slp_text.specs.Reading.{read_map}
use Rattle.slp_text.specs.Words.{bytes_eq}
use Rattle.slp_text.specs.declared.faults.TextFault.{TextFault}
use Rattle.slp_text.proofs.KeysOfKeys.{squeeze_again, key_of-folded_text}
use Rattle.attr_values.specs.Reading.{IsReading}
use Rattle.attr_values.specs.Values.{integer_of, value_by, value_of_form}
use Rattle.attr_values.specs.declared.fault.AttrFault.{AttrFault}
use Rattle.attr_values.specs.declared.fault.AttrFault.TheVariants as fault
use Rattle.attr_values.specs.declared.value.Value.{Value}
use Rattle.attr_values.specs.declared.value.Value.TheVariants as value

-- the value, where these tests came out
abbrev form_by : Bool → Bool → Option ℤ → List ℕ → Value
form_by truth lie number t = cond truth (value.Bool true) (cond lie (value.Bool false) (option_map_or value.Int number (value.Text t)))

-- the word is the key of the text
pub form_is : (t word : List ℕ) (truth lie : Bool) (number : Option ℤ) → IsUtf8 t → word ≡ key_of t → bytes_eq word (codes "true") ≡ truth → bytes_eq word (codes "false") ≡ lie → integer_of (chars t) ≡ number
    → value_of_form (chars t) ≡ form_by truth lie number t
form_is t word truth lie number u w a b n =
    let folded : folded_text (chars t) ≡ word = sym (w ∙ key_of-folded_text t) in
    ap (λ k. form_by (bytes_eq k (codes "true")) (bytes_eq k (codes "false")) (integer_of (chars t)) (encode_utf8_all (chars t))) folded
    ∙ ap (λ x. form_by x (bytes_eq word (codes "false")) (integer_of (chars t)) (encode_utf8_all (chars t))) a
    ∙ ap (λ x. form_by truth x (integer_of (chars t)) (encode_utf8_all (chars t))) b
    ∙ ap (λ x. form_by truth lie x (encode_utf8_all (chars t))) n
    ∙ ap (λ x. form_by truth lie number x) (encodes-chars t u)

pub squeezed_chars : (s xs : List ℕ) → IsUtf8 s → s ≡ encode_utf8_all (squeezed_text xs) → chars s ≡ squeezed_text xs
squeezed_chars s xs u e = sym (chars_from_encodes (squeezed_text xs) s u (sym e))

pub stays_squeezed : (s xs : List ℕ) → IsUtf8 s → s ≡ encode_utf8_all (squeezed_text xs) → squeezed_text (chars s) ≡ chars s
stays_squeezed s xs u e = let is = squeezed_chars s xs u e in ap squeezed_text is ∙ squeeze_again xs ∙ sym is

same_ok : (x y : List ℕ) → ◌≡◌ {A = Result (List ℕ) TextFault} (Ok x) (Ok y) → x ≡ y
same_ok x y h = cc

no_memory : (e : AttrFault) (r : Result Value AttrFault) → ◌≡◌ {A = Result Value AttrFault} (Err e) (Err fault.NoMemory) → IsReading (Err e) r
no_memory fault.BadEscape r h = cc
no_memory fault.BadTag r h = cc
no_memory fault.BadList r h = cc
no_memory fault.NoMemory r h = tt

-- read is what was unescaped, and squeezed is that, squeezed
pub spelled : (unescaped : Result (List ℕ) TextFault) (read squeezed : List ℕ) (r : Result Value AttrFault) → IsUtf8 read → IsUtf8 squeezed
    → read_map encode_utf8_all unescaped ≡ Ok read → squeezed ≡ encode_utf8_all (squeezed_text (chars read)) → IfOk r (λ v. v ≡ value_of_form (chars squeezed)) → OnErr r (r ≡ Err fault.NoMemory)
    → IsReading r (value_by (λ xs. value_of_form (squeezed_text xs)) unescaped)
spelled (Ok xs) read squeezed (Ok v) u w is e ok err =
    let same : xs ≡ chars read = chars_from_encodes xs read u (same_ok (encode_utf8_all xs) read is) in
    ap (λ ys. Ok (value_of_form (squeezed_text ys))) same ∙ ap (λ ys. Ok (value_of_form ys)) (sym (squeezed_chars squeezed (chars read) w e)) ∙ ap Ok (sym ok)
spelled (Err f) read squeezed (Ok v) u w is e ok err = cc
spelled unescaped read squeezed (Err f) u w is e ok err = no_memory f (value_by (λ xs. value_of_form (squeezed_text xs)) unescaped) err
