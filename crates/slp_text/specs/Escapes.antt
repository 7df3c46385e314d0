-- Escapes and reserved characters (RFC 2608, sections 5 and 6.4.1).
use Rattle.std.specs.Prelude.{ℕ, ◌+◌, ◌*◌, ◌-◌, ◌/◌, ◌%◌, Bool, false, true, not, ◌==◌, ◌&&◌, ◌||◌, nat_le, nat_lt, List, [], ◌∷◌, flat_map, Result, Ok, Err, Option, Some, None, if◌then◌else◌}
use Rattle.std.specs.Option.{option_map_or}
use Rattle.slp_text.specs.Ascii.{asterisk, backslash, comma, digit_zero, equals_sign, exclamation_mark, greater_than_sign, is_control, is_digit, left_parenthesis, less_than_sign, lower_a, lower_f, plus_sign, right_parenthesis, semicolon, tilde, underscore, upper_a, upper_f}
use Rattle.slp_text.specs.Keys.{is_white}
use Rattle.slp_text.specs.Reading.{read_map}
use Rattle.slp_text.specs.declared.escapes.Place.{Place}
use Rattle.slp_text.specs.declared.escapes.Place.TheVariants.{Value, Tag, Scope}
use Rattle.slp_text.specs.declared.escapes.Stage.{Stage}
use Rattle.slp_text.specs.declared.escapes.Stage.TheVariants.{Plain, Slash, Digit}
use Rattle.slp_text.specs.declared.faults.TextFault.{TextFault}
use Rattle.slp_text.specs.declared.faults.TextFault.TheVariants.{BadEscape, Reserved}

-- `(` `)` `,` `\` `!` `<` `=` `>` `~`
abbrev pub is_mark : ℕ → Bool
is_mark c =
    c == left_parenthesis || c == right_parenthesis || c == comma || c == backslash || c == exclamation_mark
    || c == less_than_sign || c == equals_sign
    || c == greater_than_sign || c == tilde

-- what is written as an escape at a place: in tags `*` and `_` too, in scopes `;`, `*` and `+` too
abbrev pub is_reserved : Place → ℕ → Bool
is_reserved Value c = is_control c || is_mark c
is_reserved Tag c = is_control c || is_mark c || c == asterisk || c == underscore
is_reserved Scope c = is_control c || is_mark c || c == semicolon || c == asterisk || c == plus_sign

-- what may not stand raw there: TAB, LF and CR may, as white space
abbrev pub is_refused : Place → ℕ → Bool
is_refused place c = is_reserved place c && not (is_white c)

-- what an escape may stand for in lists
abbrev pub is_escapable : ℕ → Bool
is_escapable c = is_control c || is_mark c || c == semicolon || c == asterisk || c == plus_sign || c == underscore

-- the value of a hexadecimal digit, of either case
abbrev pub digit_of : ℕ → Option ℕ
digit_of c =
    if is_digit c then Some (c - digit_zero)
    else (if nat_le upper_a c && nat_le c upper_f then Some (10 + (c - upper_a))
    else (if nat_le lower_a c && nat_le c lower_f then Some (10 + (c - lower_a)) else None))

-- What characters, or bytes, stand for with their escapes read: the first fault from the left, if there is one. An escape
-- may stand for what is allowed, and what is refused may not stand raw.
abbrev pub unescaped_text_from : (ℕ → Bool) → (ℕ → Bool) → Stage → List ℕ → Result (List ℕ) TextFault
unescaped_text_from allowed refused Plain [] = Ok []
unescaped_text_from allowed refused Slash [] = Err BadEscape
unescaped_text_from allowed refused (Digit d) [] = Err BadEscape
unescaped_text_from allowed refused Plain (c ∷ cs) =
    if c == backslash then unescaped_text_from allowed refused Slash cs
    else (if refused c then Err Reserved else read_map (λ xs. c ∷ xs) (unescaped_text_from allowed refused Plain cs))
unescaped_text_from allowed refused Slash (c ∷ cs) =
    option_map_or (λ d. unescaped_text_from allowed refused (Digit d) cs) (digit_of c) (Err BadEscape)
unescaped_text_from allowed refused (Digit d) (c ∷ cs) =
    option_map_or (λ e. if allowed (16 * d + e) then read_map (λ xs. (16 * d + e) ∷ xs)
    (unescaped_text_from allowed refused Plain cs) else Err BadEscape) (digit_of c) (Err BadEscape)

-- with the escapes of lists, whatever stands raw
abbrev pub unescaped_text : List ℕ → Result (List ℕ) TextFault
unescaped_text = unescaped_text_from is_escapable (λ c. false) Plain

-- the same, where nothing that is reserved at a place stands raw
abbrev pub unescaped_text_at : Place → List ℕ → Result (List ℕ) TextFault
unescaped_text_at place = unescaped_text_from is_escapable (is_refused place) Plain

-- with an escape of any byte
abbrev pub unescaped_bytes : List ℕ → Result (List ℕ) TextFault
unescaped_bytes = unescaped_text_from (λ b. true) (λ b. false) Plain

-- a digit of an escape as it is written, in capitals
abbrev pub capital_digit : ℕ → ℕ
capital_digit d = if nat_lt d 10 then digit_zero + d else upper_a + (d - 10)

-- a character as it is written at a place
abbrev pub written_character : Place → ℕ → List ℕ
written_character place c =
    if is_reserved place c then backslash ∷ capital_digit (c / 16) ∷ capital_digit (c % 16) ∷ [] else c ∷ []

-- characters as they are written at a place
abbrev pub escaped_text : Place → List ℕ → List ℕ
escaped_text place = flat_map (written_character place)
