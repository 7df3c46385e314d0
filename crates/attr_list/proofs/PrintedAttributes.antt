-- Attributes that are written are read again.
use Rattle.std.proofs.Common.{◌≡◌, ◌≢◌, ℕ, ◌<◌, Bool, true, false, cond, List, [], ◌∷◌, ◌++◌, map, Some, None, refl, sym, ap, ap₂, subst, ◌∙◌, arith, append-nil, chars, encode_utf8_all, IsAscii, inl, inr}
use Rattle.std.specs.Prelude.{◌/◌, ◌%◌, ◌&&◌, ◌||◌, codes, flat_map, IsUtf8, T, pos, negsuc}
use Rattle.std.specs.FinMap as fin
use Rattle.std.specs.Fmt.{signed_decimal}
use Rattle.std.specs.List.{AllByRecursion, list_all, list_any}
use Rattle.std.specs.Ordering.{is_eq, is_lt}
use Rattle.std.specs.declared.cmp.Ordering.{Ordering}
use Rattle.std.specs.declared.cmp.Ordering.TheVariants.{Less, Equal, Greater}
use Rattle.std.proofs.lemmas.Bool.{and_parts}
use Rattle.std.proofs.lemmas.Bool.Decides.{nat_tests}
use Rattle.std.proofs.lemmas.Cmp.{nat_list_cmp_total}
use Rattle.std.proofs.lemmas.Fmt.{IsAscii-signed}
use Rattle.std.proofs.lemmas.Map.Lookups.{exact_bytes}
use Rattle.std.proofs.lemmas.Str.{chars-append, chars-encodes, chars-IsAscii, chars-nil, IsUtf8-append, IsUtf8-from_ascii, IsUtf8-nil, scalars-chars}
use Rattle.std.proofs.lemmas.Str.Ascii.{IsAscii-nil, IsAscii-cons}
use lib.Utf8.{scalar, scalars}
use Rattle.slp_text.specs.Ascii.{backslash, comma, equals_sign, left_parenthesis, right_parenthesis}
use Rattle.slp_text.specs.Escapes.{capital_digit, escaped_text, is_refused, is_reserved, written_character}
use Rattle.slp_text.specs.Keys.{is_white, key_of}
use Rattle.slp_text.specs.Lists.{comma_list}
use Rattle.slp_text.specs.Words.{bytes_cmp, bytes_eq}
use Rattle.slp_text.specs.declared.escapes.Place.{Place}
use Rattle.slp_text.specs.declared.escapes.Place.TheVariants as place
use Rattle.slp_text.proofs.EscapedTexts.{escapable_small, read_again, refused_free, reserved_escapable, append-scalars, digit-scalar}
use Rattle.slp_text.proofs.KeySets.{bytes_same}
use Rattle.slp_text.proofs.KeysOfKeys.{key_of-folded_text}
use Rattle.attr_values.specs.Kinds.{IsValue}
use Rattle.attr_values.specs.Values.{escaped_byte, value_text}
use Rattle.attr_values.specs.declared.value.Value.{Value}
use Rattle.attr_values.specs.declared.value.Value.TheVariants as value
use Rattle.attr_values.proofs.PrintedValues.{value-read_again}
use Rattle.attr_list.specs.Elements.{AreElements, AreValues, Element, IsTag, SpellsElement, SpellsElements, Alone, Valued}
use Rattle.attr_list.specs.Lists.{Attributes, attributes_of, distinct_values, held_of, Means, values_in, values_named}
use Rattle.attr_list.specs.Maps.{elements_in}
use Rattle.attr_list.specs.Texts.{AreAttributes, attribute_text, attributes_text, IsAttribute, IsHeld, tag_text}
use Rattle.attr_list.specs.declared.held.Held.{Held}
use Rattle.attr_list.specs.declared.held.Held.TheVariants.{Keyword, Values}
use Rattle.attr_list.proofs.Gathered.{get-attributes_of, tags_tied}

-- ---- gathered again

-- an entry as an element
abbrev pub element_of : List ℕ × Held → Element
element_of p = record { tag = p.0; values = values_in p.1 }

-- both parts of a test that passes
both_parts : (a b : Bool) → T (a && b) → T a × T b
both_parts true b h = (tt, h)
both_parts false b h = absurd h

-- what is less is not equal
less-other : (o : Ordering) → T (is_lt o) → is_eq o ≡ false
less-other Less h = refl
less-other Equal h = absurd h
less-other Greater h = refl

-- a tag below all others has no values there
not_named : (q : List ℕ) (ps : List (List ℕ × Held)) → T (fin.Entries.below_all bytes_cmp q ps) → values_named q (map element_of ps) ≡ []
not_named q [] h = refl
not_named q (p ∷ ps) h =
    let parts = both_parts (is_lt (bytes_cmp q p.0)) (fin.Entries.below_all bytes_cmp q ps) h in
    ap (λ b. cond b (values_in p.1) [] ++ values_named q (map element_of ps)) (sym (tags_tied p.0 q) ∙ less-other (bytes_cmp q p.0) parts.0) ∙ not_named q ps parts.1

-- what is held is what its own values give
pub held_values : (held : Held) → IsHeld held → held_of (distinct_values (values_in held)) ≡ held
held_values Keyword h = refl
held_values (Values []) h = absurd (h.0 refl)
held_values (Values (v ∷ vs)) h = ap held_of h.2

-- what entries in order hold at a tag is what their elements give it
find_listed : (q : List ℕ) (ps : List (List ℕ × Held)) → T (fin.is_sorted bytes_cmp ps) → AllByRecursion (λ p. IsAttribute p.0 p.1) ps
    → cond (list_any (λ e. bytes_eq e.tag q) (map element_of ps)) (Some (held_of (distinct_values (values_named q (map element_of ps))))) None ≡ fin.find bytes_cmp q ps
find_listed q [] s h = refl
find_listed q (p ∷ ps) s h =
    let parts = both_parts (fin.Entries.below_all bytes_cmp p.0 ps) (fin.is_sorted bytes_cmp ps) s in
    let es = map element_of ps in
    elim (bytes_eq p.0 q) as (λ b. bytes_eq p.0 q ≡ b → cond (b || list_any (λ e. bytes_eq e.tag q) es) (Some (held_of (distinct_values (cond b (values_in p.1) [] ++ values_named q es)))) None ≡ cond b (Some p.1) (fin.find bytes_cmp q ps)) [
      | true ↦ λ t.
          ap (λ vs. Some (held_of (distinct_values (values_in p.1 ++ vs)))) (not_named q ps (subst (λ x. T (fin.Entries.below_all bytes_cmp x ps)) (bytes_same p.0 q t) parts.0))
          ∙ ap (λ vs. Some (held_of (distinct_values vs))) (append-nil (values_in p.1))
          ∙ ap Some (held_values p.1 h.0.holds)
      | false ↦ λ f. find_listed q ps parts.1 h.1
    ] refl
    ∙ ap (λ b. cond b (Some p.1) (fin.find bytes_cmp q ps)) (sym (tags_tied p.0 q))

-- attributes are what their own elements give
pub attributes_of-elements_in : (a : Attributes) → AreAttributes a → attributes_of (elements_in a) ≡ a
attributes_of-elements_in a is =
    fin.same_map nat_list_cmp_total exact_bytes (attributes_of (elements_in a)) a
    (λ q. get-attributes_of (elements_in a) q ∙ find_listed q (fin.entries a) (fin.entries_sorted a) is ∙ sym (fin.get-entries a q))

-- ---- characters of texts

-- the text is UTF-8 of these characters
pub record IsTextOf (text cs : List ℕ) : Type 0 where
  pub utf8 : IsUtf8 text
  pub is : chars text ≡ cs

-- the characters of two texts in a row
text_append : (t u cs ds : List ℕ) → IsTextOf t cs → IsTextOf u ds → IsTextOf (t ++ u) (cs ++ ds)
text_append t u cs ds a b = record {
  utf8 = IsUtf8-append t u a.utf8 b.utf8;
  is = chars-append t u a.utf8 ∙ ap₂ (λ xs ys. xs ++ ys) a.is b.is;
}

-- the characters of ASCII are its bytes
text_ascii : (cs : List ℕ) → IsAscii cs → IsTextOf cs cs
text_ascii cs a = record { utf8 = IsUtf8-from_ascii cs a; is = chars-IsAscii cs a }

-- a byte of ASCII before a text
text_mark : (b : ℕ) (t cs : List ℕ) → b < 128 → IsTextOf t cs → IsTextOf (b ∷ t) (b ∷ cs)
text_mark b t cs h a = text_append (b ∷ []) t (b ∷ []) cs (text_ascii (b ∷ []) (IsAscii-cons b [] h IsAscii-nil)) a

-- characters that are encoded
text_encoded : (cs : List ℕ) → scalars cs ≡ true → IsTextOf (encode_utf8_all cs) cs
text_encoded cs s = record { utf8 = (cs, (s, refl)); is = chars-encodes cs s }

-- texts with a comma between each two
text_joined : (ts : List (List ℕ)) → AllByRecursion IsUtf8 ts → IsTextOf (comma_list ts) (comma_list (map chars ts))
text_joined [] h = record { utf8 = IsUtf8-nil; is = chars-nil }
text_joined (t ∷ []) h = record { utf8 = h.0; is = refl }
text_joined (t ∷ u ∷ ts) h =
    text_append t (comma ∷ comma_list (u ∷ ts)) (chars t) (comma ∷ comma_list (map chars (u ∷ ts))) (record { utf8 = h.0; is = refl })
    (text_mark comma (comma_list (u ∷ ts)) (comma_list (map chars (u ∷ ts))) (omega arith) (text_joined (u ∷ ts) h.1))

-- ---- escaped characters

-- a character is written as characters
written_scalars : (at : Place) (c : ℕ) → scalar c ≡ true → scalars (written_character at c) ≡ true
written_scalars at c s =
    elim (is_reserved at c) as (λ b. is_reserved at c ≡ b → scalars (cond b (backslash ∷ capital_digit (c / 16) ∷ capital_digit (c % 16) ∷ []) (c ∷ [])) ≡ true) [
      | true ↦ λ t.
          let small = escapable_small c (reserved_escapable at c t) in
          let high : c / 16 < 16 = omega (arith, small) in
          let low : c % 16 < 16 = omega arith in
          rw (digit-scalar (c / 16) high, digit-scalar (c % 16) low) refl
      | false ↦ λ f. rw s refl
    ] refl

-- characters are escaped to characters
pub escaped_scalars : (at : Place) (cs : List ℕ) → scalars cs ≡ true → scalars (escaped_text at cs) ≡ true
escaped_scalars at [] s = refl
escaped_scalars at (c ∷ cs) s =
    let both = and_parts (scalar c) (scalars cs) s in
    append-scalars (written_character at c) (escaped_text at cs) (written_scalars at c both.0) (escaped_scalars at cs both.1)

-- the characters of a text that is escaped
pub text_escaped : (at : Place) (t : List ℕ) → IsUtf8 t → IsTextOf (encode_utf8_all (escaped_text at (chars t))) (escaped_text at (chars t))
text_escaped at t u = text_encoded (escaped_text at (chars t)) (escaped_scalars at (chars t) (scalars-chars t u))

-- ---- values

-- a digit of an escape is ASCII
digit-low : (d : ℕ) → d < 16 → capital_digit d < 128
digit-low d h = grind (arith, nat_tests)

-- escapes of bytes are ASCII
bytes-ascii : (bytes : List ℕ) → AllByRecursion (λ b. b < 256) bytes → IsAscii (flat_map escaped_byte bytes)
bytes-ascii [] h = IsAscii-nil
bytes-ascii (b ∷ bytes) h =
    let small = h.0 in
    let high : b / 16 < 16 = omega (arith, small) in
    let low : b % 16 < 16 = omega arith in
    let rest = flat_map escaped_byte bytes in
    let last = IsAscii-cons (capital_digit (b % 16)) rest (digit-low (b % 16) low) (bytes-ascii bytes h.1) in
    IsAscii-cons backslash (capital_digit (b / 16) ∷ capital_digit (b % 16) ∷ rest) (omega arith) (IsAscii-cons (capital_digit (b / 16)) (capital_digit (b % 16) ∷ rest) (digit-low (b / 16) high) last)

-- the words of values are UTF-8
word_utf8 : (IsUtf8 (codes "true")) × (IsUtf8 (codes "false")) × (IsUtf8 (codes "\\FF"))
unfolding lib.Utf8.encode
word_utf8 = ((codes "true", (refl, refl)), (codes "false", (refl, refl)), (codes "\\FF", (refl, refl)))

-- what is written of a value is UTF-8
pub value_text-utf8 : (v : Value) → IsValue v → IsUtf8 (value_text v)
value_text-utf8 (value.Bool true) is = word_utf8.0
value_text-utf8 (value.Bool false) is = word_utf8.1
value_text-utf8 (value.Int (pos n)) is = IsUtf8-from_ascii (signed_decimal (pos n)) (IsAscii-signed (pos n) (omega (arith, is)))
value_text-utf8 (value.Int (negsuc n)) is = IsUtf8-from_ascii (signed_decimal (negsuc n)) (IsAscii-signed (negsuc n) (omega (arith, is)))
value_text-utf8 (value.Opaque bytes) is = IsUtf8-append (codes "\\FF") (flat_map escaped_byte bytes) word_utf8.2 (IsUtf8-from_ascii (flat_map escaped_byte bytes) (bytes-ascii bytes is))
value_text-utf8 (value.Text t) is = (text_escaped place.Value t is.utf8).utf8

-- so is that of each value
values_utf8 : (vs : List Value) → AllByRecursion IsValue vs → AllByRecursion IsUtf8 (map value_text vs)
values_utf8 [] h = tt
values_utf8 (v ∷ vs) h = (value_text-utf8 v h.0, values_utf8 vs h.1)

-- what is written of values spells them
pub values_spelled : (vs : List Value) → AllByRecursion IsValue vs → AreValues (map chars (map value_text vs)) vs
values_spelled [] h = tt
values_spelled (v ∷ vs) h = (value-read_again v h.0, values_spelled vs h.1)

-- of some values something is written
values_some : (vs : List Value) → vs ≢ [] → map chars (map value_text vs) ≢ []
values_some [] some = absurd (some refl)
values_some (v ∷ vs) some = λ e. cc

-- ---- elements

-- a tag is spelled by its own characters, escaped
pub tag_spelled : (tag : List ℕ) → tag ≢ [] → key_of tag ≡ tag → IsTag (escaped_text place.Tag (chars tag)) tag
tag_spelled tag some own = record {
  read = chars tag;
  unescaped = read_again place.Tag (is_refused place.Tag) (refused_free place.Tag) (chars tag);
  is_key = sym own ∙ key_of-folded_text tag;
  is_some = some;
}

-- the characters of an attribute that is written
abbrev attribute_chars : List ℕ → Held → List ℕ
attribute_chars tag Keyword = escaped_text place.Tag (chars tag)
attribute_chars tag (Values vs) = left_parenthesis ∷ escaped_text place.Tag (chars tag) ++ equals_sign ∷ comma_list (map chars (map value_text vs)) ++ right_parenthesis ∷ []

-- those are the characters of its text
attribute_is : (tag : List ℕ) (held : Held) → IsUtf8 tag → IsHeld held → IsTextOf (attribute_text tag held) (attribute_chars tag held)
attribute_is tag Keyword u h = text_escaped place.Tag tag u
attribute_is tag (Values vs) u h =
    let cs = escaped_text place.Tag (chars tag) in
    let values = comma_list (map value_text vs) in
    let spelled = comma_list (map chars (map value_text vs)) in
    let middle = text_append (tag_text tag) (equals_sign ∷ values) cs (equals_sign ∷ spelled) (text_escaped place.Tag tag u)
    (text_mark equals_sign values spelled (omega arith) (text_joined (map value_text vs) (values_utf8 vs h.1))) in
    text_mark left_parenthesis (tag_text tag ++ equals_sign ∷ values ++ right_parenthesis ∷ []) (cs ++ equals_sign ∷ spelled ++ right_parenthesis ∷ []) (omega arith)
    (text_append (tag_text tag ++ equals_sign ∷ values) (right_parenthesis ∷ []) (cs ++ equals_sign ∷ spelled) (right_parenthesis ∷ []) middle
    (text_ascii (right_parenthesis ∷ []) (IsAscii-cons right_parenthesis [] (omega arith) IsAscii-nil)))

-- what is written of an attribute spells its element
pub attribute_spelled : (tag : List ℕ) (held : Held) → IsAttribute tag held → SpellsElement (chars (attribute_text tag held)) (element_of (tag, held))
attribute_spelled tag Keyword is =
    Alone (subst (λ cs. IsTag cs tag) (sym (attribute_is tag Keyword is.utf8 tt).is) (tag_spelled tag is.is_some is.is_own_key)) refl
attribute_spelled tag (Values vs) is =
    Valued [] (escaped_text place.Tag (chars tag)) [] (map chars (map value_text vs)) refl refl (attribute_is tag (Values vs) is.utf8 is.holds).is
    (tag_spelled tag is.is_some is.is_own_key) (values_some vs is.holds.0) (values_spelled vs is.holds.1)

-- ---- the whole text

-- what is written of each attribute is UTF-8
attributes_utf8 : (ps : List (List ℕ × Held)) → AllByRecursion (λ p. IsAttribute p.0 p.1) ps → AllByRecursion IsUtf8 (map (λ p. attribute_text p.0 p.1) ps)
attributes_utf8 [] h = tt
attributes_utf8 (p ∷ ps) h = ((attribute_is p.0 p.1 h.0.utf8 h.0.holds).utf8, attributes_utf8 ps h.1)

-- what is written of each attribute spells its element
attributes_spelled : (ps : List (List ℕ × Held)) → AllByRecursion (λ p. IsAttribute p.0 p.1) ps → AreElements (map chars (map (λ p. attribute_text p.0 p.1) ps)) (map element_of ps)
attributes_spelled [] h = tt
attributes_spelled (p ∷ ps) h = (attribute_spelled p.0 p.1 h.0, attributes_spelled ps h.1)

-- what is written of entries spells their elements
entries_spelled : (ps : List (List ℕ × Held)) → AllByRecursion (λ p. IsAttribute p.0 p.1) ps → SpellsElements (chars (comma_list (map (λ p. attribute_text p.0 p.1) ps))) (map element_of ps)
entries_spelled [] h = inl (ap (list_all is_white) chars-nil, refl)
entries_spelled (p ∷ ps) h =
    let texts = map (λ x. attribute_text x.0 x.1) (p ∷ ps) in
    inr (map chars texts, λ e. cc, (text_joined texts (attributes_utf8 (p ∷ ps) h)).is, attributes_spelled (p ∷ ps) h)

-- what is written of attributes means them
pub attributes-read_again : (a : Attributes) → AreAttributes a → Means (attributes_text a) a
attributes-read_again a is = (elements_in a, entries_spelled (fin.entries a) is, sym (attributes_of-elements_in a is))
