-- What is written of a list: its parts on lines of their own.
use Rattle.std.proofs.Common.{◌≡◌, ◌++◌, ◌∷◌, [], ◌<◌, ℕ, Bool, true, false, List, length, Option, Result, Ok, Err, refl, sym, ap, subst, ◌∙◌, append_assoc, arith}
use Rattle.std.specs.Io.KnownBytes.{Appends}
use Rattle.std.specs.declared.io.Error.{Error}
use Rattle.std.proofs.KnownBytes.{Appends-trans}
use Rattle.std.specs.Prelude.{flat_map, OnOk}
use Rattle.std.specs.List.{slice_split, onto_first}
use Rattle.slp_text.specs.Ascii.{line_feed}
use Rattle.slp_text.specs.Lists.{is_comma}
use Rattle.shown_text.specs.Shown.{shown_byte}
use Rattle.tool_program.specs.Printing.{list_lines, listed_byte, text_line}

-- a byte more in front of a part is shown there
lined_first : (b : ℕ) (part : List ℕ) (parts : List (List ℕ)) → shown_byte b ++ flat_map text_line (part ∷ parts) ≡ flat_map text_line (onto_first b (part ∷ parts))
lined_first b part parts =
    sym (ap (λ x. x ++ flat_map text_line parts) (append_assoc (shown_byte b) (flat_map shown_byte part) (line_feed ∷ [])) ∙ append_assoc (shown_byte b) (flat_map shown_byte part ++ line_feed ∷ []) (flat_map text_line parts))

-- the parts of a list: the first of them, and the others
abbrev HasPart : List (List ℕ) → Type 0
HasPart parts = (part : List ℕ) × (others : List (List ℕ)) × (parts ≡ part ∷ others)

has_part_at : (b : ℕ) (bs : List ℕ) (t : Bool) → is_comma b ≡ t → HasPart (slice_split is_comma bs) → HasPart (slice_split is_comma (b ∷ bs))
has_part_at b bs true is h = ([], slice_split is_comma bs, rw is refl)
has_part_at b bs false is h = (b ∷ h.0, h.1, rw is (ap (onto_first b) h.2))

has_part : (bs : List ℕ) → HasPart (slice_split is_comma bs)
has_part [] = ([], [], refl)
has_part (b ∷ bs) = has_part_at b bs (is_comma b) refl (has_part bs)

lined_at : (b : ℕ) (bs : List ℕ) (t : Bool) → is_comma b ≡ t → flat_map listed_byte bs ++ line_feed ∷ [] ≡ flat_map text_line (slice_split is_comma bs)
    → flat_map listed_byte (b ∷ bs) ++ line_feed ∷ [] ≡ flat_map text_line (slice_split is_comma (b ∷ bs))
lined_at b bs true is h = rw is (ap (λ x. line_feed ∷ x) h)
lined_at b bs false is h =
    let p = has_part bs in
    rw is (append_assoc (shown_byte b) (flat_map listed_byte bs) (line_feed ∷ []) ∙ ap (λ x. shown_byte b ++ x) h ∙ ap (λ x. shown_byte b ++ flat_map text_line x) p.2 ∙ lined_first b p.0 p.1 ∙ ap (λ x. flat_map text_line (onto_first b x)) (sym p.2))

-- a list whose commas end lines, as the last byte does, is its parts on lines of their own
pub parts_lined : (bs : List ℕ) → flat_map listed_byte bs ++ line_feed ∷ [] ≡ flat_map text_line (slice_split is_comma bs)
parts_lined [] = refl
parts_lined (b ∷ bs) = lined_at b bs (is_comma b) refl (parts_lined bs)

lines_are : (bs : List ℕ) → 0 < length bs → flat_map listed_byte bs ++ line_feed ∷ [] ≡ list_lines bs
lines_are [] some = absurd (omega (arith, some))
lines_are (b ∷ bs) some = parts_lined (b ∷ bs)

-- the bytes of a list and then the end of its last line are its lines
pub list_printed : (bs : List ℕ) (told : Result (Unit {0}) Error) (before between after : Option (List ℕ)) → 0 < length bs → Appends before between (flat_map listed_byte bs) → OnOk told (Appends between after (line_feed ∷ [])) → OnOk told (Appends before after (list_lines bs))
list_printed bs (Ok x) before between after some front end = subst (Appends before after) (lines_are bs some) (Appends-trans before between after (flat_map listed_byte bs) (line_feed ∷ []) front end)
list_printed bs (Err e) before between after some front end = tt
