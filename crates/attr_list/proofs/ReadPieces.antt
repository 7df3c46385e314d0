-- A list of attributes is read piece by piece.
use Rattle.std.proofs.Common.{◌≡◌, ℕ, true, false, cond, ◌==◌, List, [], ◌∷◌, ◌++◌, Option, Some, None, Result, Ok, Err, refl, sym, ap, ◌∙◌, append_assoc, append-nil, eqb-true, arith}
use Rattle.std.specs.Prelude.{◌&&◌}
use Rattle.std.specs.List.{list_all}
use Rattle.std.proofs.lemmas.Bool.{and_parts}
use Rattle.std.proofs.lemmas.Bool.Decides.{nat_tests}
use Rattle.slp_text.specs.Ascii.{comma, equals_sign, left_parenthesis}
use Rattle.slp_text.specs.Keys.{is_white}
use Rattle.slp_text.specs.Reading.{read_map, read_then}
use Rattle.attr_values.specs.Reading.{IsFault}
use Rattle.attr_values.specs.declared.fault.AttrFault.{AttrFault}
use Rattle.attr_values.specs.declared.fault.AttrFault.TheVariants.{BadList, BadTag}
use Rattle.attr_values.specs.declared.value.Value.{Value}
use Rattle.attr_list.specs.Elements.{Element}
use Rattle.attr_list.specs.Pieces.{followed_element, next_after, opened_rest, part_after, part_before, unvalued_reading, IsShorter}
use Rattle.attr_list.specs.Reading.{read_from, tag_or, InElement, InTag, InValue, AtEnd}
use Rattle.attr_list.proofs.CutTexts.{by_test, shorter-more}
use Rattle.attr_list.proofs.ReadTags.{fault-same, fault-then}

-- the characters so far are one more
so_far : (acc more : List ℕ) (c : ℕ) → (acc ++ c ∷ []) ++ more ≡ acc ++ c ∷ more
so_far acc more c = append_assoc acc (c ∷ []) more

-- ---- an element that begins with a tag alone

-- an element of a tag alone
abbrev alone : List ℕ → Element
alone tag = record { tag = tag; values = [] }

-- what is read of a tag alone and what comes after its comma
abbrev keyword_reading : List ℕ → Option (List ℕ) → Result (List Element) AttrFault
keyword_reading cs rest = read_then (λ tag. followed_element (alone tag) rest) (tag_or BadList cs)

-- nothing comes after a tag alone
keyword_end : (r : Result (List ℕ) AttrFault) → read_map (λ tag. alone tag ∷ []) r ≡ read_then (λ tag. followed_element (alone tag) None) r
keyword_end (Ok tag) = refl
keyword_end (Err e) = refl

-- a `(` after white space opens
white_opens : (acc more : List ℕ) → list_all is_white acc ≡ true → opened_rest (acc ++ left_parenthesis ∷ more) ≡ Some more
white_opens [] more h = refl
white_opens (w ∷ acc) more h = let both = and_parts (is_white w) (list_all is_white acc) h in rw both.0 (white_opens acc more both.1)

-- where no `(` opens, none is read
not_opened : (acc more : List ℕ) (c : ℕ) → opened_rest (acc ++ c ∷ more) ≡ None → (c == left_parenthesis && list_all is_white acc) ≡ false
not_opened acc more c h =
    by_test (c == left_parenthesis && list_all is_white acc)
    (λ t.
    let both = and_parts (c == left_parenthesis) (list_all is_white acc) t in
    let opens = white_opens acc more both.1 in
    let same : opened_rest (acc ++ c ∷ more) ≡ opened_rest (acc ++ left_parenthesis ∷ more) = ap (λ d. opened_rest (acc ++ d ∷ more)) (eqb-true c left_parenthesis both.0) in
    cc)
    (λ f. f)

-- a tag alone is read from its middle on
keyword_from : (cs acc : List ℕ) → opened_rest (acc ++ cs) ≡ None → read_from (InElement acc) cs ≡ keyword_reading (acc ++ part_before comma cs) (part_after comma cs)
keyword_from [] acc h = rw (append-nil acc) (keyword_end (tag_or BadList acc))
keyword_from (c ∷ more) acc h =
    by_test (c == comma)
    (λ t. rw (t, append-nil acc) refl)
    (λ f. rw (f, not_opened acc more c h)
    (keyword_from more (acc ++ c ∷ []) (ap opened_rest (so_far acc more c) ∙ h) ∙ ap (λ t. keyword_reading t (part_after comma more)) (so_far acc (part_before comma more) c)))

-- a list that begins with no `(` begins with a tag alone
keyword-reads : (cs t : List ℕ) (rest : Option (List ℕ)) → opened_rest cs ≡ None → t ≡ part_before comma cs → rest ≡ part_after comma cs → read_from (InElement []) cs ≡ keyword_reading t rest
keyword-reads cs t rest h before after = keyword_from cs [] h ∙ ap (λ u. keyword_reading u (part_after comma cs)) (sym before) ∙ ap (keyword_reading t) (sym after)

-- the fault of such a list is that of the tag
pub keyword-fault : (cs t : List ℕ) (rest : Option (List ℕ)) (e : AttrFault) → opened_rest cs ≡ None → t ≡ part_before comma cs → rest ≡ part_after comma cs
    → IsFault e (tag_or BadList t) → IsFault e (read_from (InElement []) cs)
keyword-fault cs t rest e h before after f =
    fault-same e (keyword_reading t rest) (read_from (InElement []) cs) (keyword-reads cs t rest h before after) (fault-then (λ tag. followed_element (alone tag) rest) e (tag_or BadList t) f)

-- such a list is read as its tag and what comes after it
pub keyword-is : (cs t : List ℕ) (rest : Option (List ℕ)) (tag : List ℕ) (vs : List Value) → opened_rest cs ≡ None → t ≡ part_before comma cs → rest ≡ part_after comma cs
    → tag_or BadList t ≡ Ok tag → vs ≡ [] → read_from (InElement []) cs ≡ followed_element (record { tag = tag; values = vs }) rest
keyword-is cs t rest tag vs h before after is none =
    keyword-reads cs t rest h before after ∙ ap (read_then (λ key. followed_element (alone key) rest)) is ∙ ap (λ ws. followed_element (record { tag = tag; values = ws }) rest) (sym none)

-- ---- an element that begins with a `(`

-- white space is no comma
white-not_comma : (c : ℕ) → is_white c ≡ true → (c == comma) ≡ false
white-not_comma c h = grind (arith, nat_tests)

-- white space is no `(`
white-not_open : (c : ℕ) → is_white c ≡ true → (c == left_parenthesis) ≡ false
white-not_open c h = grind (arith, nat_tests)

-- a `(` is no comma
open-not_comma : (c : ℕ) → (c == left_parenthesis) ≡ true → (c == comma) ≡ false
open-not_comma c h = grind (arith, nat_tests)

-- white space after white space
white_more : (acc : List ℕ) (c : ℕ) → list_all is_white acc ≡ true → is_white c ≡ true → list_all is_white (acc ++ c ∷ []) ≡ true
white_more [] c h w = rw w refl
white_more (a ∷ acc) c h w = let both = and_parts (is_white a) (list_all is_white acc) h in rw both.0 (white_more acc c both.1 w)

-- white space is passed over from its middle on
opened_from : (cs acc inside : List ℕ) → list_all is_white acc ≡ true → opened_rest cs ≡ Some inside → read_from (InElement acc) cs ≡ read_from (InTag []) inside
opened_from [] acc inside w h = cc
opened_from (c ∷ more) acc inside w h =
    by_test (is_white c)
    (λ t. rw (white-not_comma c t, white-not_open c t) (opened_from more (acc ++ c ∷ []) inside (white_more acc c w t) (rw t at h)))
    (λ f. by_test (c == left_parenthesis)
    (λ t. let k : Some more ≡ Some inside = rw (f, t) at h in let same : more ≡ inside = cc in rw (open-not_comma c t, t, w) (ap (read_from (InTag [])) same))
    (λ g. let k : ◌≡◌ {A = Option (List ℕ)} None (Some inside) = rw (f, g) at h in cc))

-- white space before a `(` is passed over
pub read-opened : (cs inside : List ℕ) → opened_rest cs ≡ Some inside → read_from (InElement []) cs ≡ read_from (InTag []) inside
read-opened cs inside h = opened_from cs [] inside refl h

-- what comes after a `(` is shorter
pub opened-shorter : (cs : List ℕ) → IsShorter (opened_rest cs) cs
opened-shorter [] = tt
opened-shorter (c ∷ cs) =
    by_test (is_white c)
    (λ t. rw t (shorter-more (opened_rest cs) c cs (opened-shorter cs)))
    (λ f. rw f (elim (c == left_parenthesis) as (λ b. IsShorter (cond b (Some cs) None) (c ∷ cs)) [ true ↦ omega arith | false ↦ tt ]))

-- ---- the tag of an element with values

-- what is read of a tag and what comes after its `=`
abbrev tag_reading : List ℕ → Option (List ℕ) → Result (List Element) AttrFault
tag_reading cs None = unvalued_reading cs
tag_reading cs (Some more) = read_then (λ tag. read_from (InValue tag [] []) more) (tag_or BadTag cs)

-- a tag is read from its middle on
tag_from : (cs acc : List ℕ) → read_from (InTag acc) cs ≡ tag_reading (acc ++ part_before equals_sign cs) (part_after equals_sign cs)
tag_from [] acc = rw (append-nil acc) refl
tag_from (c ∷ more) acc =
    by_test (c == equals_sign)
    (λ t. rw (t, append-nil acc) refl)
    (λ f. rw f (tag_from more (acc ++ c ∷ []) ∙ ap (λ t. tag_reading t (part_after equals_sign more)) (so_far acc (part_before equals_sign more) c)))

-- a tag ends at the first `=`
tag-reads : (cs t : List ℕ) (rest : Option (List ℕ)) → t ≡ part_before equals_sign cs → rest ≡ part_after equals_sign cs → read_from (InTag []) cs ≡ tag_reading t rest
tag-reads cs t rest before after = tag_from cs [] ∙ ap (λ u. tag_reading u (part_after equals_sign cs)) (sym before) ∙ ap (tag_reading t) (sym after)

-- the fault where no `=` is there
pub tag-unvalued : (cs t : List ℕ) (rest : Option (List ℕ)) (e : AttrFault) → t ≡ part_before equals_sign cs → rest ≡ part_after equals_sign cs → rest ≡ None
    → IsFault e (unvalued_reading t) → IsFault e (read_from (InTag []) cs)
tag-unvalued cs t rest e before after none f = fault-same e (unvalued_reading t) (read_from (InTag []) cs) (tag-reads cs t rest before after ∙ ap (tag_reading t) none) f

-- the fault of a tag before a `=`
pub tag-fault : (cs t : List ℕ) (rest : Option (List ℕ)) (more : List ℕ) (e : AttrFault) → t ≡ part_before equals_sign cs → rest ≡ part_after equals_sign cs → rest ≡ Some more
    → IsFault e (tag_or BadTag t) → IsFault e (read_from (InTag []) cs)
tag-fault cs t rest more e before after some f =
    fault-same e (tag_reading t (Some more)) (read_from (InTag []) cs) (tag-reads cs t rest before after ∙ ap (tag_reading t) some) (fault-then (λ tag. read_from (InValue tag [] []) more) e (tag_or BadTag t) f)

-- the values of a tag are read after its `=`
pub tag-is : (cs t : List ℕ) (rest : Option (List ℕ)) (more tag : List ℕ) → t ≡ part_before equals_sign cs → rest ≡ part_after equals_sign cs → rest ≡ Some more
    → tag_or BadTag t ≡ Ok tag → read_from (InTag []) cs ≡ read_from (InValue tag [] []) more
tag-is cs t rest more tag before after some is = tag-reads cs t rest before after ∙ ap (tag_reading t) some ∙ ap (read_then (λ key. read_from (InValue key [] []) more)) is

-- ---- the end of an element with values

-- a comma is not white space
comma-not_white : (c : ℕ) → (c == comma) ≡ true → is_white c ≡ false
comma-not_white c h = grind (arith, nat_tests)

-- after a `)` white space and a comma may come
pub read-at_end : (e : Element) (cs : List ℕ) → read_from (AtEnd e) cs ≡ read_then (followed_element e) (next_after cs)
read-at_end e [] = refl
read-at_end e (c ∷ more) =
    by_test (c == comma)
    (λ t. rw (comma-not_white c t, t) refl)
    (λ f. by_test (is_white c) (λ t. rw (f, t) (read-at_end e more)) (λ g. rw (g, f) refl))
