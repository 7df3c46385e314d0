-- What spells elements is read as them.
use Rattle.std.proofs.Common.{◌≡◌, ◌≢◌, ℕ, suc, true, false, cond, ◌==◌, List, [], ◌∷◌, ◌++◌, Option, Some, None, Result, Ok, Err, refl, sym, ap, ◌∙◌, append_assoc, append-nil, arith, inl, inr, length}
use Rattle.std.specs.List.{list_all}
use Rattle.std.proofs.lemmas.Bool.{and_parts}
use Rattle.std.proofs.lemmas.Bool.Decides.{nat_tests}
use Rattle.std.proofs.lemmas.List.Folds.{list_all-append}
use Rattle.slp_text.specs.Ascii.{comma, equals_sign, left_parenthesis, right_parenthesis}
use Rattle.slp_text.specs.Keys.{is_white}
use Rattle.slp_text.specs.Reading.{read_map, read_then}
use Rattle.slp_text.specs.Lists.{comma_list}
use Rattle.attr_values.specs.declared.fault.AttrFault.{AttrFault}
use Rattle.attr_values.specs.declared.fault.AttrFault.TheVariants.{BadList, BadTag}
use Rattle.attr_values.specs.declared.value.Value.{Value}
use Rattle.attr_list.specs.Elements.{AreElements, AreValues, Element, IsTag, SpellsElement, Alone, Valued, SpellsElements}
use Rattle.attr_list.specs.Reading.{InElement, InTag, InValue, AtEnd, elements_of, read_from, tag_by, tag_or}
use Rattle.attr_list.proofs.InnerCharacters.{AreInner, is_inner, tag-inner, value-inner, whites-inner}
use Rattle.attr_list.proofs.ReadElements.{joined}
use Rattle.attr_list.proofs.WhiteKeys.{whites-no_key}

-- ---- past characters that have no meaning

-- an inner character is no comma
inner-no_comma : (c : ℕ) → is_inner c ≡ true → (c == comma) ≡ false
inner-no_comma c h = grind (arith, nat_tests)

-- it is no `(`
inner-no_left : (c : ℕ) → is_inner c ≡ true → (c == left_parenthesis) ≡ false
inner-no_left c h = grind (arith, nat_tests)

-- it is no `)`
inner-no_right : (c : ℕ) → is_inner c ≡ true → (c == right_parenthesis) ≡ false
inner-no_right c h = grind (arith, nat_tests)

-- it is no `=`
inner-no_equals : (c : ℕ) → is_inner c ≡ true → (c == equals_sign) ≡ false
inner-no_equals c h = grind (arith, nat_tests)

-- inner characters of an element are kept
past_element : (acc cs rest : List ℕ) → AreInner cs → read_from (InElement acc) (cs ++ rest) ≡ read_from (InElement (acc ++ cs)) rest
past_element acc [] rest h = ap (λ a. read_from (InElement a) rest) (sym (append-nil acc))
past_element acc (c ∷ cs) rest h =
    let both = and_parts (is_inner c) (list_all is_inner cs) h in
    rw (inner-no_comma c both.0, inner-no_left c both.0) (past_element (acc ++ c ∷ []) cs rest both.1 ∙ ap (λ a. read_from (InElement a) rest) (append_assoc acc (c ∷ []) cs))

-- and those of a tag
past_tag : (acc cs rest : List ℕ) → AreInner cs → read_from (InTag acc) (cs ++ rest) ≡ read_from (InTag (acc ++ cs)) rest
past_tag acc [] rest h = ap (λ a. read_from (InTag a) rest) (sym (append-nil acc))
past_tag acc (c ∷ cs) rest h =
    let both = and_parts (is_inner c) (list_all is_inner cs) h in
    rw (inner-no_equals c both.0) (past_tag (acc ++ c ∷ []) cs rest both.1 ∙ ap (λ a. read_from (InTag a) rest) (append_assoc acc (c ∷ []) cs))

-- and those of a value
past_value : (tag : List ℕ) (vs : List Value) (acc cs rest : List ℕ) → AreInner cs → read_from (InValue tag vs acc) (cs ++ rest) ≡ read_from (InValue tag vs (acc ++ cs)) rest
past_value tag vs acc [] rest h = ap (λ a. read_from (InValue tag vs a) rest) (sym (append-nil acc))
past_value tag vs acc (c ∷ cs) rest h =
    let both = and_parts (is_inner c) (list_all is_inner cs) h in
    rw (inner-no_comma c both.0, inner-no_right c both.0) (past_value tag vs (acc ++ c ∷ []) cs rest both.1 ∙ ap (λ a. read_from (InValue tag vs a) rest) (append_assoc acc (c ∷ []) cs))

-- white space is no comma
white-no_comma : (c : ℕ) → is_white c ≡ true → (c == comma) ≡ false
white-no_comma c h = grind (arith, nat_tests)

-- white space after an element is passed over
past_end : (e : Element) (cs rest : List ℕ) → list_all is_white cs ≡ true → read_from (AtEnd e) (cs ++ rest) ≡ read_from (AtEnd e) rest
past_end e [] rest h = refl
past_end e (c ∷ cs) rest h =
    let both = and_parts (is_white c) (list_all is_white cs) h in
    rw (both.0, white-no_comma c both.0) (past_end e cs rest both.1)

-- ---- tags and values

-- a length with one more is not 0
not_zero : (n : ℕ) → (suc n == 0) ≡ false
not_zero n = grind (arith, nat_tests)

-- a key that is not empty is a tag
some_tag : (empty : AttrFault) (tag : List ℕ) → tag ≢ [] → ◌≡◌ {A = Result (List ℕ) AttrFault} (cond (length tag == 0) (Err empty) (Ok tag)) (Ok tag)
some_tag empty [] h = absurd (h refl)
some_tag empty (c ∷ cs) h = ap (λ b. cond b (Err empty) (Ok (c ∷ cs))) (not_zero (length cs))

-- what spells a tag is read as it
tag_read : (empty : AttrFault) (cs tag : List ℕ) → IsTag cs tag → tag_or empty cs ≡ Ok tag
tag_read empty cs tag is =
    ap (tag_by empty) is.unescaped ∙ ap (λ k. cond (length k == 0) (Err empty) (Ok k)) (sym is.is_key) ∙ some_tag empty tag is.is_some

-- what spells values is read as them
values_read : (tag : List ℕ) (vs : List Value) (texts : List (List ℕ)) (values : List Value) (rest : List ℕ) → texts ≢ [] → AreValues texts values
    → read_from (InValue tag vs []) (comma_list texts ++ right_parenthesis ∷ rest) ≡ read_from (AtEnd (record { tag = tag; values = vs ++ values })) rest
values_read tag vs [] values rest some are = absurd (some refl)
values_read tag vs (t ∷ ts) [] rest some are = absurd are
values_read tag vs (t ∷ []) (v ∷ w ∷ ws) rest some are = absurd are.1
values_read tag vs (t ∷ []) (v ∷ []) rest some are =
    past_value tag vs [] t (right_parenthesis ∷ rest) (value-inner t v are.0)
    ∙ ap (read_then (λ x. read_from (AtEnd (record { tag = tag; values = vs ++ x ∷ [] })) rest)) are.0
values_read tag vs (t ∷ u ∷ ts) (v ∷ ws) rest some are =
    let more = comma_list (u ∷ ts) ++ right_parenthesis ∷ rest in
    ap (read_from (InValue tag vs [])) (append_assoc t (comma ∷ comma_list (u ∷ ts)) (right_parenthesis ∷ rest))
    ∙ past_value tag vs [] t (comma ∷ more) (value-inner t v are.0)
    ∙ ap (read_then (λ x. read_from (InValue tag (vs ++ x ∷ []) []) more)) are.0
    ∙ values_read tag (vs ++ v ∷ []) (u ∷ ts) ws rest (λ none. cc) are.1
    ∙ ap (λ xs. read_from (AtEnd (record { tag = tag; values = xs })) rest) (append_assoc vs (v ∷ []) ws)

-- ---- elements

-- what follows an element: nothing, or a comma and more
abbrev following : Option (List ℕ) → List ℕ
following None = []
following (Some more) = comma ∷ more

-- a tag alone is read as the element that it spells
alone_read : (cs : List ℕ) (e : Element) (o : Option (List ℕ)) → IsTag cs e.tag → e.values ≡ [] → read_from (InElement []) (cs ++ following o) ≡ read_from (AtEnd e) (following o)
alone_read cs e None is none =
    past_element [] cs [] (tag-inner cs is.read is.unescaped)
    ∙ ap (read_map (λ tag. record { tag = tag; values = [] } ∷ [])) (tag_read BadList cs e.tag is)
    ∙ ap (λ vs. Ok (record { tag = e.tag; values = vs } ∷ [])) (sym none)
alone_read cs e (Some more) is none =
    past_element [] cs (comma ∷ more) (tag-inner cs is.read is.unescaped)
    ∙ ap (read_then (λ tag. read_map (λ es. record { tag = tag; values = [] } ∷ es) (read_from (InElement []) more))) (tag_read BadList cs e.tag is)
    ∙ ap (λ vs. read_map (λ es. record { tag = e.tag; values = vs } ∷ es) (read_from (InElement []) more)) (sym none)

-- a tag with values is read as the element that it spells
valued_read : (before text after : List ℕ) (texts : List (List ℕ)) (e : Element) (rest : List ℕ) → list_all is_white before ≡ true → list_all is_white after ≡ true → IsTag text e.tag → texts ≢ [] → AreValues texts e.values
    → read_from (InElement []) ((before ++ left_parenthesis ∷ text ++ equals_sign ∷ comma_list texts ++ right_parenthesis ∷ after) ++ rest) ≡ read_from (AtEnd e) rest
valued_read before text after texts e rest white end is some are =
    let values = comma_list texts ++ right_parenthesis ∷ (after ++ rest) in
    let inside = text ++ equals_sign ∷ values in
    ap (read_from (InElement [])) (joined before text (comma_list texts) after rest)
    ∙ past_element [] before (left_parenthesis ∷ inside) (whites-inner before white)
    ∙ ap (λ b. cond b (read_from (InTag []) inside) (read_from (InElement (before ++ left_parenthesis ∷ [])) inside)) white
    ∙ past_tag [] text (equals_sign ∷ values) (tag-inner text is.read is.unescaped)
    ∙ ap (read_then (λ tag. read_from (InValue tag [] []) values)) (tag_read BadTag text e.tag is)
    ∙ values_read e.tag [] texts e.values (after ++ rest) some are
    ∙ past_end e after rest end

-- each element is read as what it spells
element_read : (cs : List ℕ) (e : Element) (o : Option (List ℕ)) → SpellsElement cs e → read_from (InElement []) (cs ++ following o) ≡ read_from (AtEnd e) (following o)
element_read cs e o (Alone is none) = alone_read cs e o is none
element_read cs e o (Valued before text after texts white end split is some are) =
    ap (λ t. read_from (InElement []) (t ++ following o)) split ∙ valued_read before text after texts e (following o) white end is some are

-- elements with commas between them are read as what they spell
parts_read : (parts : List (List ℕ)) (es : List Element) → parts ≢ [] → AreElements parts es → read_from (InElement []) (comma_list parts) ≡ Ok es
parts_read [] es some are = absurd (some refl)
parts_read (p ∷ ps) [] some are = absurd are
parts_read (p ∷ []) (e ∷ f ∷ es) some are = absurd are.1
parts_read (p ∷ []) (e ∷ []) some are = ap (read_from (InElement [])) (sym (append-nil p)) ∙ element_read p e None are.0
parts_read (p ∷ q ∷ ps) (e ∷ es) some are =
    element_read p e (Some (comma_list (q ∷ ps))) are.0 ∙ ap (read_map (λ fs. e ∷ fs)) (parts_read (q ∷ ps) es (λ none. cc) are.1)

-- ---- white space

-- in white space each character is white
white_inside : (xs : List ℕ) (c : ℕ) (ys : List ℕ) → list_all is_white (xs ++ c ∷ ys) ≡ true → is_white c ≡ true
white_inside xs c ys h =
    let both = and_parts (list_all is_white xs) (list_all is_white (c ∷ ys)) (sym (list_all-append is_white xs (c ∷ ys)) ∙ h) in
    (and_parts (is_white c) (list_all is_white ys) both.1).0

-- what spells an element is not all white
element-not_white : (cs : List ℕ) (e : Element) → SpellsElement cs e → list_all is_white cs ≡ true → ⊥
element-not_white cs e (Alone is none) h = is.is_some (is.is_key ∙ whites-no_key cs is.read h is.unescaped)
element-not_white cs e (Valued before text after texts white end split is some are) h =
    let no = white_inside (before ++ left_parenthesis ∷ text ++ equals_sign ∷ comma_list texts) right_parenthesis after (ap (list_all is_white) (sym split) ∙ h) in
    cc

-- nor is what spells some elements
parts-not_white : (parts : List (List ℕ)) (es : List Element) → parts ≢ [] → AreElements parts es → list_all is_white (comma_list parts) ≡ true → ⊥
parts-not_white [] es some are h = some refl
parts-not_white (p ∷ ps) [] some are h = are
parts-not_white (p ∷ []) (e ∷ es) some are h = element-not_white p e are.0 h
parts-not_white (p ∷ q ∷ ps) (e ∷ es) some are h = let no = white_inside p comma (comma_list (q ∷ ps)) h in cc

-- some elements are read as what they spell
some_read : (parts : List (List ℕ)) (es : List Element) → parts ≢ [] → AreElements parts es → elements_of (comma_list parts) ≡ Ok es
some_read parts es some are =
    let cs = comma_list parts in
    elim (list_all is_white cs) as (λ b. list_all is_white cs ≡ b → cond b (Ok []) (read_from (InElement []) cs) ≡ Ok es) [
      | true ↦ λ t. absurd (parts-not_white parts es some are t)
      | false ↦ λ f. parts_read parts es some are
    ] refl

-- what spells elements is read as them
pub spelled-read : (cs : List ℕ) (es : List Element) → SpellsElements cs es → elements_of cs ≡ Ok es
spelled-read cs es (inl white) = ap (λ b. cond b (Ok []) (read_from (InElement []) cs)) white.0 ∙ ap Ok (sym white.1)
spelled-read cs es (inr some) = ap elements_of some.2 ∙ some_read some.0 es some.1 some.3
