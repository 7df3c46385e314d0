-- What a list of tags still gives.
use Rattle.std.proofs.Common.{◌≡◌, ℕ, ◌<◌, Bool, true, false, List, [], ◌∷◌, ◌++◌, map, length, length-append, arith, refl, sym, ap, ap₂, ◌∙◌, append_assoc, append-nil, chars, encode_utf8, Some, None}
use Rattle.std.specs.Prelude.{filter, flat_map}
use Rattle.std.specs.List.{slice_split}
use Rattle.std.proofs.lemmas.Grind.{flat_map-append}
use Rattle.std.proofs.lemmas.List.{length-map, map-append}
use Rattle.std.proofs.lemmas.Str.{length-le-encodes}
use Rattle.ucd_case.specs.CaseFolding.{full_fold}
use Rattle.caseless.specs.Caseless.{default_case_fold}
use Rattle.slp_text.specs.Ascii.{space}
use Rattle.slp_text.specs.Keys.{squeezed_by, squeezed_rest_by}
use Rattle.slp_tags.specs.Parts.{folded_sign, signs_left, part_with}
use Rattle.slp_text.specs.Reading.{read_map, read_all}
use Rattle.slp_text.specs.Lists.{is_comma, is_some_text}
use Rattle.slp_tags.specs.Tags.{Part, Sign, is_star, is_white_sign, signs_of, sign_bytes, part_of, pieces_of, tags_of}
use Rattle.slp_text.specs.declared.escapes.Place.TheVariants.{Tag}
use Rattle.slp_text.specs.declared.escapes.Stage.TheVariants.{Plain}
use Rattle.slp_text.proofs.Readers.{on_head, Follows, read_all-split, read_all-map, read_map-read_map}
use Rattle.slp_text.proofs.Lists.{characters_at, list_parts, kept}
use Rattle.slp_tags.proofs.SignReaders.{sign_reads, signs_in_tags}

-- ---- a part

abbrev squeezed_signs : Bool → List Sign → List Sign
squeezed_signs = squeezed_rest_by is_white_sign (Some space)

signs_left-some : (gap : Bool) (part : Part) (signs : List Sign) → 0 < length part → signs_left gap part signs ≡ squeezed_signs gap signs
signs_left-some gap [] signs h = absurd (omega (arith, h))
signs_left-some gap (b ∷ bs) signs h = refl

signs_left-first : (gap : Bool) (sign : Sign) (signs : List Sign) → is_white_sign sign ≡ false → signs_left gap [] (sign ∷ signs) ≡ sign ∷ squeezed_signs false signs
signs_left-first gap sign signs h = rw (h, h) refl

signs_left-next : (part : Part) (sign : Sign) (signs : List Sign) → is_white_sign sign ≡ false → signs_left false part (sign ∷ signs) ≡ sign ∷ squeezed_signs false signs
signs_left-next [] sign signs h = rw (h, h) refl
signs_left-next (b ∷ bs) sign signs h = rw h refl

signs_left-gap : (part : Part) (sign : Sign) (signs : List Sign) → 0 < length part → is_white_sign sign ≡ false → signs_left true part (sign ∷ signs) ≡ Some space ∷ sign ∷ squeezed_signs false signs
signs_left-gap [] sign signs s h = absurd (omega (arith, s))
signs_left-gap (b ∷ bs) sign signs s h = rw h refl

encoded-some : (c : ℕ) → 0 < length (encode_utf8 c)
encoded-some c = let k = length-le-encodes (c ∷ []) in let l = ap length (append-nil (encode_utf8 c)) in omega (arith, k, l)

bytes-some : (sign : Sign) → 0 < length (sign_bytes sign)
bytes-some None = omega arith
bytes-some (Some c) = let k = encoded-some c in let l = length-map (encode_utf8 c) Some in omega (arith, k, l)

-- a sign more after a part and what stands between them
with_sign : (part more : Part) (sign : Sign) (signs : List Sign) → part_with false ((part ++ more) ++ sign_bytes sign) signs ≡ part ++ (more ++ (sign_bytes sign ++ flat_map sign_bytes (squeezed_signs false signs)))
with_sign part more sign signs =
    let bytes = (part ++ more) ++ sign_bytes sign in
    let rest = flat_map sign_bytes (squeezed_signs false signs) in
    let some : 0 < length bytes = let k = bytes-some sign in let l = length-append (part ++ more) (sign_bytes sign) in omega (arith, k, l) in
    ap (λ xs. bytes ++ flat_map sign_bytes xs) (signs_left-some false bytes signs some) ∙ append_assoc (part ++ more) (sign_bytes sign) rest ∙ append_assoc part more (sign_bytes sign ++ rest)

pub part_with-gap : (part : Part) (sign : Sign) (signs : List Sign) → 0 < length part → is_white_sign sign ≡ false → part_with false ((part ++ Some space ∷ []) ++ sign_bytes sign) signs ≡ part_with true part (sign ∷ signs)
unfolding lib.Utf8.encode
part_with-gap part sign signs some h = with_sign part (Some space ∷ []) sign signs ∙ ap (λ xs. part ++ flat_map sign_bytes xs) (sym (signs_left-gap part sign signs some h))

pub part_with-next : (part : Part) (sign : Sign) (signs : List Sign) → is_white_sign sign ≡ false → part_with false (part ++ sign_bytes sign) signs ≡ part_with false part (sign ∷ signs)
part_with-next part sign signs h =
    ap (λ p. part_with false (p ++ sign_bytes sign) signs) (sym (append-nil part)) ∙ with_sign part [] sign signs ∙ ap (λ xs. part ++ flat_map sign_bytes xs) (sym (signs_left-next part sign signs h))

pub part_with-first : (gap : Bool) (part : Part) (sign : Sign) (signs : List Sign) → part ≡ [] → is_white_sign sign ≡ false → part_with false (part ++ sign_bytes sign) signs ≡ part_with gap part (sign ∷ signs)
part_with-first gap part sign signs none h =
    ap (λ p. part_with false (p ++ sign_bytes sign) signs) none ∙ with_sign [] [] sign signs ∙ ap (λ xs. flat_map sign_bytes xs) (sym (signs_left-first gap sign signs h)) ∙ ap (λ p. part_with gap p (sign ∷ signs)) (sym none)

-- ---- folding

abbrev folded_signs : List Sign → List Sign
folded_signs = flat_map folded_sign

folded_piece : (p : List ℕ) → map Some (default_case_fold p) ≡ folded_signs (map Some p)
unfolding default_case_fold
folded_piece [] = refl
folded_piece (c ∷ cs) = map-append Some (full_fold c) (flat_map full_fold cs) ∙ ap (λ zs. map Some (full_fold c) ++ zs) (folded_piece cs)

folded_pieces : (ps : List (List ℕ)) → signs_of (map default_case_fold ps) ≡ folded_signs (signs_of ps)
folded_pieces [] = refl
folded_pieces (p ∷ []) = folded_piece p
folded_pieces (p ∷ q ∷ ps) =
    ap (λ zs. zs ++ None ∷ signs_of (map default_case_fold (q ∷ ps))) (folded_piece p)
    ∙ ap (λ zs. folded_signs (map Some p) ++ None ∷ zs) (folded_pieces (q ∷ ps))
    ∙ sym (flat_map-append folded_sign (map Some p) (None ∷ signs_of (q ∷ ps)))

-- the part of signs
abbrev signed_part : List Sign → Part
signed_part signs = flat_map sign_bytes (squeezed_by is_white_sign (Some space) (folded_signs signs))

part_of-signs : (ps : List (List ℕ)) → part_of ps ≡ signed_part (signs_of ps)
part_of-signs ps = ap (λ signs. flat_map sign_bytes (squeezed_by is_white_sign (Some space) signs)) (folded_pieces ps)

-- ---- the list

-- the parts of lists of signs, without the empty ones
abbrev pub signed_parts : List (List Sign) → List Part
signed_parts parts = filter is_some_text (map signed_part parts)

-- the parts, where these are there and a part has begun
abbrev pub tagged : List Part → Bool → Part → List (List Sign) → List Part
tagged parts gap part [] = parts
tagged parts gap part (s ∷ ss) = parts ++ filter is_some_text (part_with gap part (folded_signs s) ∷ map signed_part ss)

pub tagged-more : (parts : List Part) (gap now : Bool) (part grows : Part) (sign : Sign) → ((rest : List Sign) → part_with now grows rest ≡ part_with gap part (folded_sign sign ++ rest)) → (ss : List (List Sign))
    → tagged parts now grows ss ≡ tagged parts gap part (on_head (λ xs. sign ∷ xs) ss)
tagged-more parts gap now part grows sign is [] = refl
tagged-more parts gap now part grows sign is (s ∷ ss) = ap (λ q. parts ++ filter is_some_text (q ∷ map signed_part ss)) (is (folded_signs s))

ended_part : (gap : Bool) (part : Part) → part_with gap part [] ≡ part
ended_part gap [] = refl
ended_part gap (b ∷ bs) = append-nil (b ∷ bs)

pub tagged-next : (parts after : List Part) (gap : Bool) (part : Part) (ss : List (List Sign)) → after ≡ parts ++ filter is_some_text (part ∷ []) → tagged after false [] ss ≡ tagged parts gap part ([] ∷ ss)
tagged-next parts after gap part [] more = more ∙ ap (λ q. parts ++ filter is_some_text (q ∷ [])) (sym (ended_part gap part))
tagged-next parts after gap part (s ∷ ss) more =
    ap (λ qs. qs ++ signed_parts (s ∷ ss)) more
    ∙ append_assoc parts (filter is_some_text (part ∷ [])) (signed_parts (s ∷ ss))
    ∙ ap (λ qs. parts ++ qs) (sym (kept part (map signed_part (s ∷ ss))))
    ∙ ap (λ q. parts ++ filter is_some_text (q ∷ map signed_part (s ∷ ss))) (sym (ended_part gap part))

tagged-start : (parts : List Part) (ss : List (List Sign)) → parts ≡ [] → tagged parts false [] ss ≡ signed_parts ss
tagged-start parts [] none = none
tagged-start parts (s ∷ ss) none = ap (λ qs. qs ++ signed_parts (s ∷ ss)) none

parts_of-signs : (pieces : List (List (List ℕ))) → map part_of pieces ≡ map signed_part (map signs_of pieces)
parts_of-signs [] = refl
parts_of-signs (ps ∷ pss) = ap₂ (λ p qs. p ∷ qs) (part_of-signs ps) (parts_of-signs pss)

read_signs : (parts : List (List ℕ)) → read_all (sign_reads Plain) parts ≡ read_map (map signs_of) (read_all pieces_of parts)
read_signs parts =
    ap (λ read. read_all read parts) (λ i part. read_map signs_of (sym (read_all-split is_star (characters_at Tag).reads part) i))
    ∙ read_all-map signs_of pieces_of parts

signed_tags : (text : List ℕ) → tags_of text ≡ read_map signed_parts (list_parts signs_in_tags Plain (chars text))
unfolding tags_of
signed_tags text =
    let parts = slice_split is_comma (chars text) in
    read_map-read_map signed_parts (map signs_of) (λ pieces. filter is_some_text (map part_of pieces)) (read_all pieces_of parts) (λ pieces. ap (filter is_some_text) (parts_of-signs pieces))
    ∙ ap (read_map signed_parts) (sym (read_signs parts) ∙ read_all-split is_comma sign_reads (chars text))

pub tags-init : (text : List ℕ) (parts : List Part) → parts ≡ [] → Follows (list_parts signs_in_tags) (tagged parts false []) Plain (chars text) (tags_of text)
tags-init text parts none = ap (λ f. read_map f (list_parts signs_in_tags Plain (chars text))) (λ i ss. tagged-start parts ss none i) ∙ sym (signed_tags text)
