-- Lists of tags, in which `*` stands for any run of characters (RFC 2608, section 10.3).
use Rattle.std.specs.Prelude.{ℕ, Bool, true, false, ◌==◌, ◌&&◌, List, [], ◌∷◌, ◌++◌, map, filter, flat_map, chars, encode_utf8, Option, Some, None, Result}
use Rattle.std.specs.List.{list_any, slice_split}
use Rattle.caseless.specs.Caseless.{default_case_fold}
use Rattle.slp_text.specs.Ascii.{asterisk, space}
use Rattle.slp_text.specs.Escapes.{unescaped_text_at}
use Rattle.slp_text.specs.Keys.{is_white, squeezed_by}
use Rattle.slp_text.specs.Reading.{read_map, read_all}
use Rattle.slp_text.specs.Lists.{is_comma, is_some_text}
use Rattle.slp_text.specs.declared.escapes.Place.TheVariants.{Tag}
use Rattle.slp_text.specs.declared.faults.TextFault.{TextFault}

-- a part of a list of tags: bytes, and `None` for any run of them
abbrev pub Part : Type 0
Part = List (Option ℕ)

-- the character is *
abbrev pub is_star : ℕ → Bool
is_star c = c == asterisk

-- a character, or `None` for a raw `*`
abbrev pub Sign : Type 0
Sign = Option ℕ

-- the sign is white space
abbrev pub is_white_sign : Sign → Bool
is_white_sign None = false
is_white_sign (Some c) = is_white c

-- the signs of pieces of a text, with a raw `*` between each two
abbrev pub signs_of : List (List ℕ) → List Sign
signs_of [] = []
signs_of (p ∷ []) = map Some p
signs_of (p ∷ q ∷ ps) = map Some p ++ None ∷ signs_of (q ∷ ps)

-- the bytes of a sign
abbrev pub sign_bytes : Sign → Part
sign_bytes None = None ∷ []
sign_bytes (Some c) = map Some (encode_utf8 c)

-- The part of the pieces between its raw `*`s, folded and squeezed as a whole: white space goes at its two ends alone.
abbrev pub part_of : List (List ℕ) → Part
part_of pieces = flat_map sign_bytes (squeezed_by is_white_sign (Some space) (signs_of (map default_case_fold pieces)))

-- the pieces of a part between its raw `*`s, unescaped
abbrev pub pieces_of : List ℕ → Result (List (List ℕ)) TextFault
pieces_of part = read_all (unescaped_text_at Tag) (slice_split is_star part)

-- The parts of a list of tags, in their order: what stands between commas, unescaped, without the empty parts.
unfoldable pub tags_of : List ℕ → Result (List Part) TextFault
tags_of text =
    read_map (λ parts. filter is_some_text (map part_of parts)) (read_all pieces_of (slice_split is_comma (chars text)))

-- all that a text ends with
abbrev pub ends_of : List ℕ → List (List ℕ)
ends_of [] = [] ∷ []
ends_of (b ∷ bs) = (b ∷ bs) ∷ ends_of bs

-- a part of a list of tags selects a tag: byte for byte, with any run for each *
abbrev pub is_match : Part → List ℕ → Bool
is_match [] [] = true
is_match [] (b ∷ bs) = false
is_match (Some c ∷ ps) [] = false
is_match (Some c ∷ ps) (b ∷ bs) = c == b && is_match ps bs
is_match (None ∷ ps) tag = list_any (is_match ps) (ends_of tag)

-- some part of the list matches the tag; a list of no parts selects each tag
abbrev pub selects : List Part → List ℕ → Bool
selects [] tag = true
selects (p ∷ ps) tag = list_any (λ part. is_match part tag) (p ∷ ps)
