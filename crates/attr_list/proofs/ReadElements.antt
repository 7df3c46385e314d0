-- What is read as elements spells them.
use Rattle.std.proofs.Common.{◌≡◌, ◌≢◌, ℕ, true, ◌==◌, List, [], ◌∷◌, ◌++◌, Result, Ok, Err, refl, sym, ap, subst, ◌∙◌, append_assoc, append-nil, eqb-true, inl, inr, length}
use Rattle.std.specs.Prelude.{◌⊎◌, ◌&&◌}
use Rattle.std.specs.List.{list_all}
use Rattle.std.proofs.lemmas.Bool.{and_parts}
use Rattle.slp_text.specs.Ascii.{comma, equals_sign, left_parenthesis, right_parenthesis}
use Rattle.slp_text.specs.Escapes.{unescaped_text_at}
use Rattle.slp_text.specs.Keys.{is_white, folded_text}
use Rattle.slp_text.specs.Reading.{read_map, read_then}
use Rattle.slp_text.specs.Lists.{comma_list}
use Rattle.slp_text.specs.declared.escapes.Place.TheVariants as place
use Rattle.attr_values.specs.Values.{value_of}
use Rattle.attr_values.specs.declared.fault.AttrFault.{AttrFault}
use Rattle.attr_values.specs.declared.fault.AttrFault.TheVariants.{BadList, BadTag}
use Rattle.attr_values.specs.declared.value.Value.{Value}
use Rattle.attr_list.specs.Elements.{AreElements, AreValues, Element, IsTag, SpellsElement, Alone, Valued, SpellsElements}
use Rattle.attr_list.specs.Reading.{Point, InElement, InTag, InValue, AtEnd, elements_of, read_end, read_from, tag_by, tag_or}
use Rattle.attr_list.proofs.InnerCharacters.{by_test, mapped_ok}

-- ---- what is said of the rest

-- one element at least
abbrev pub SpellsSome : List ℕ → List Element → Type 0
SpellsSome cs es = (parts : List (List ℕ)) × (parts ≢ []) × (cs ≡ comma_list parts) × AreElements parts es

-- what may follow an element: nothing, or a comma and further elements
abbrev pub Follow : List ℕ → List Element → Type 0
Follow cs es = ((cs ≡ []) × (es ≡ [])) ⊎ ((more : List ℕ) × (cs ≡ comma ∷ more) × SpellsSome more es)

-- after the `)` of this element
record EndsElement (e : Element) (cs : List ℕ) (es : List Element) : Type 0 where
  after : List ℕ
  rest : List ℕ
  others : List Element
  white : list_all is_white after ≡ true
  split : cs ≡ after ++ rest
  elements : e ∷ others ≡ es
  follow : Follow rest others

-- further values of a tag, and its end
record GivesValues (tag : List ℕ) (vs : List Value) (cs : List ℕ) (es : List Element) : Type 0 where
  texts : List (List ℕ)
  values : List Value
  rest : List ℕ
  some : texts ≢ []
  are : AreValues texts values
  split : cs ≡ comma_list texts ++ right_parenthesis ∷ rest
  ends : EndsElement (record { tag = tag; values = vs ++ values }) rest es

-- after the `(` of an element
record GivesTag (cs : List ℕ) (es : List Element) : Type 0 where
  text : List ℕ
  tag : List ℕ
  rest : List ℕ
  -- what is read as a tag spells it
  is_tag : IsTag text tag
  split : cs ≡ text ++ equals_sign ∷ rest
  -- what is read from a point on means what it gives
  gives : GivesValues tag [] rest es

-- what it means that elements are read from a point on
abbrev Gives : Point → List ℕ → List Element → Type 0
Gives (InElement acc) cs es = SpellsSome (acc ++ cs) es
Gives (InTag acc) cs es = GivesTag (acc ++ cs) es
Gives (InValue tag vs acc) cs es = GivesValues tag vs (acc ++ cs) es
Gives (AtEnd e) cs es = EndsElement e cs es

-- ---- parts

-- what was read first, and what was read then
then_ok : {A B E : Type 0} (f : A → Result B E) (r : Result A E) (y : B) → read_then f r ≡ Ok y → (x : A) × (r ≡ Ok x) × (f x ≡ Ok y)
then_ok f (Ok x) y h = (x, refl, h)
then_ok f (Err e) y h = cc

-- nothing is read where each way ends in a fault
never_ok : {A B E P : Type 0} (e : E) (r : Result A E) (y : B) → read_then (λ (x : A). Err e) r ≡ Ok y → P
never_ok e (Ok x) y h = cc
never_ok e (Err f) y h = cc

-- a list with a first item is not empty
pub some_more : {A : Type 0} (x : A) (xs : List A) → x ∷ xs ≢ []
some_more x xs h = cc

-- a first text and a comma stand before the others
pub comma_list-more : (t : List ℕ) (ts : List (List ℕ)) → ts ≢ [] → comma_list (t ∷ ts) ≡ t ++ comma ∷ comma_list ts
comma_list-more t [] h = absurd (h refl)
comma_list-more t (u ∷ ts) h = refl

-- an element and what may follow it are elements
one_element : (p : List ℕ) (e : Element) (rest : List ℕ) (others : List Element) → SpellsElement p e → Follow rest others → SpellsSome (p ++ rest) (e ∷ others)
one_element p e rest others s (inl h) =
    (p ∷ [], some_more p [], ap (λ cs. p ++ cs) h.0 ∙ append-nil p, (s, subst (AreElements []) (sym h.1) tt))
one_element p e rest others s (inr h) =
    let more = h.2 in
    (p ∷ more.0, some_more p more.0, ap (λ cs. p ++ cs) (h.1 ∙ ap (λ cs. comma ∷ cs) more.2) ∙ sym (comma_list-more p more.0 more.1), (s, more.3))

-- unescaped characters with a key are a tag
tag_of : (empty : AttrFault) (cs read : List ℕ) (tag : List ℕ) → unescaped_text_at place.Tag cs ≡ Ok read → tag_by empty (Ok read) ≡ Ok tag → IsTag cs tag
tag_of empty cs read tag u h =
    by_test (length (folded_text read) == 0) _ _ _ h
    (λ t e. cc)
    (λ f e. record {
      read = read;
      unescaped = u;
      is_key = cc;
      is_some = λ none. let nothing : folded_text read ≡ [] = cc in let t : (length (folded_text read) == 0) ≡ true = ap (λ xs. length xs == 0) nothing in cc;
    })

-- what is read as a tag spells it
is_tag : (empty : AttrFault) (cs tag : List ℕ) → tag_or empty cs ≡ Ok tag → IsTag cs tag
is_tag empty cs tag h =
    elim (unescaped_text_at place.Tag cs) as (λ r. unescaped_text_at place.Tag cs ≡ r → tag_by empty r ≡ Ok tag → IsTag cs tag) [
      | Ok read ↦ λ u k. tag_of empty cs read tag u k
      | Err e ↦ λ u k. cc
    ] refl h

-- ---- one step at each point

-- a tag alone and what may follow it are elements
alone_then : (acc : List ℕ) (tag : List ℕ) (rest : List ℕ) (others : List Element) → tag_or BadList acc ≡ Ok tag → Follow rest others → SpellsSome (acc ++ rest) (record { tag = tag; values = [] } ∷ others)
alone_then acc tag rest others h f = one_element acc (record { tag = tag; values = [] }) rest others (Alone (is_tag BadList acc tag h) refl) f

-- the list ends with a tag alone
element_ends : (acc : List ℕ) (es : List Element) → read_end (InElement acc) ≡ Ok es → Gives (InElement acc) [] es
element_ends acc es h =
    let r = mapped_ok (λ tag. record { tag = tag; values = [] } ∷ []) (tag_or BadList acc) es h in
    subst (SpellsSome (acc ++ [])) r.2 (alone_then acc r.0 [] [] r.1 (inl (refl, refl)))

-- a comma stands after a tag alone
element_comma : (acc more : List ℕ) (es : List Element) → ((fs : List Element) → read_from (InElement []) more ≡ Ok fs → SpellsSome more fs)
    → read_then (λ tag. read_map (λ fs. record { tag = tag; values = [] } ∷ fs) (read_from (InElement []) more)) (tag_or BadList acc) ≡ Ok es → SpellsSome (acc ++ comma ∷ more) es
element_comma acc more es next h =
    let tag = then_ok (λ tag. read_map (λ fs. record { tag = tag; values = [] } ∷ fs) (read_from (InElement []) more)) (tag_or BadList acc) es h in
    let others = mapped_ok (λ fs. record { tag = tag.0; values = [] } ∷ fs) (read_from (InElement []) more) es tag.2 in
    subst (SpellsSome (acc ++ comma ∷ more)) others.2 (alone_then acc tag.0 (comma ∷ more) others.0 tag.1 (inr (more, refl, next others.0 others.1)))

-- an element and what follows it
pub joined : (before tag values after rest : List ℕ)
    → (before ++ left_parenthesis ∷ tag ++ equals_sign ∷ values ++ right_parenthesis ∷ after) ++ rest ≡ before ++ left_parenthesis ∷ (tag ++ equals_sign ∷ (values ++ right_parenthesis ∷ (after ++ rest)))
joined before tag values after rest = simp append_assoc

-- an element with values begins
element_opens : (acc more : List ℕ) (es : List Element) → list_all is_white acc ≡ true → GivesTag more es → SpellsSome (acc ++ left_parenthesis ∷ more) es
element_opens acc more es white t =
    let v = t.gives in
    let e = v.ends in
    let split : more ≡ t.text ++ equals_sign ∷ (comma_list v.texts ++ right_parenthesis ∷ (e.after ++ e.rest)) =
    t.split ∙ ap (λ cs. t.text ++ equals_sign ∷ cs) (v.split ∙ ap (λ cs. comma_list v.texts ++ right_parenthesis ∷ cs) e.split) in
    let whole = acc ++ left_parenthesis ∷ t.text ++ equals_sign ∷ comma_list v.texts ++ right_parenthesis ∷ e.after in
    let some = one_element whole (record { tag = t.tag; values = v.values }) e.rest e.others (Valued acc t.text e.after v.texts white e.white refl t.is_tag v.some v.are) e.follow in
    subst (λ cs. SpellsSome cs es) (joined acc t.text (comma_list v.texts) e.after e.rest ∙ ap (λ cs. acc ++ left_parenthesis ∷ cs) (sym split)) (subst (SpellsSome (whole ++ e.rest)) e.elements some)

-- the tag of an element with values ends
tag_equals : (acc more : List ℕ) (es : List Element) → ((tag : List ℕ) → read_from (InValue tag [] []) more ≡ Ok es → GivesValues tag [] more es)
    → read_then (λ tag. read_from (InValue tag [] []) more) (tag_or BadTag acc) ≡ Ok es → GivesTag (acc ++ equals_sign ∷ more) es
tag_equals acc more es next h =
    let tag = then_ok (λ tag. read_from (InValue tag [] []) more) (tag_or BadTag acc) es h in
    record { text = acc; tag = tag.0; rest = more; is_tag = is_tag BadTag acc tag.0 tag.1; split = refl; gives = next tag.0 tag.2 }

-- a comma stands after a value
value_comma : (tag : List ℕ) (vs : List Value) (acc more : List ℕ) (es : List Element) → ((v : Value) → read_from (InValue tag (vs ++ v ∷ []) []) more ≡ Ok es → GivesValues tag (vs ++ v ∷ []) more es)
    → read_then (λ v. read_from (InValue tag (vs ++ v ∷ []) []) more) (value_of acc) ≡ Ok es → GivesValues tag vs (acc ++ comma ∷ more) es
value_comma tag vs acc more es next h =
    let value = then_ok (λ v. read_from (InValue tag (vs ++ v ∷ []) []) more) (value_of acc) es h in
    let g = next value.0 value.2 in
    let joins : (acc ++ comma ∷ comma_list g.texts) ++ right_parenthesis ∷ g.rest ≡ acc ++ comma ∷ (comma_list g.texts ++ right_parenthesis ∷ g.rest) = append_assoc acc (comma ∷ comma_list g.texts) (right_parenthesis ∷ g.rest) in
    record {
      texts = acc ∷ g.texts;
      values = value.0 ∷ g.values;
      rest = g.rest;
      some = some_more acc g.texts;
      are = (value.1, g.are);
      split = ap (λ cs. acc ++ comma ∷ cs) g.split ∙ sym joins ∙ ap (λ cs. cs ++ right_parenthesis ∷ g.rest) (sym (comma_list-more acc g.texts g.some));
      ends = subst (λ ws. EndsElement (record { tag = tag; values = ws }) g.rest es) (append_assoc vs (value.0 ∷ []) g.values) g.ends;
    }

-- the last value of an element ends
value_closes : (tag : List ℕ) (vs : List Value) (acc more : List ℕ) (es : List Element)
    → ((v : Value) → read_from (AtEnd (record { tag = tag; values = vs ++ v ∷ [] })) more ≡ Ok es → EndsElement (record { tag = tag; values = vs ++ v ∷ [] }) more es)
    → read_then (λ v. read_from (AtEnd (record { tag = tag; values = vs ++ v ∷ [] })) more) (value_of acc) ≡ Ok es → GivesValues tag vs (acc ++ right_parenthesis ∷ more) es
value_closes tag vs acc more es next h =
    let value = then_ok (λ v. read_from (AtEnd (record { tag = tag; values = vs ++ v ∷ [] })) more) (value_of acc) es h in
    record { texts = acc ∷ []; values = value.0 ∷ []; rest = more; some = some_more acc []; are = (value.1, tt); split = refl; ends = next value.0 value.2 }

-- a comma stands after an element with values
end_comma : (e : Element) (more : List ℕ) (es : List Element) → ((fs : List Element) → read_from (InElement []) more ≡ Ok fs → SpellsSome more fs)
    → read_map (λ fs. e ∷ fs) (read_from (InElement []) more) ≡ Ok es → EndsElement e (comma ∷ more) es
end_comma e more es next h =
    let others = mapped_ok (λ fs. e ∷ fs) (read_from (InElement []) more) es h in
    record { after = []; rest = comma ∷ more; others = others.0; white = refl; split = refl; elements = others.2; follow = inr (more, refl, next others.0 others.1) }

-- white space stands after an element with values
end_white : (e : Element) (c : ℕ) (more : List ℕ) (es : List Element) → is_white c ≡ true → EndsElement e more es → EndsElement e (c ∷ more) es
end_white e c more es w g =
    record { after = c ∷ g.after; rest = g.rest; others = g.others; white = ap (λ b. b && list_all is_white g.after) w ∙ g.white; split = ap (λ cs. c ∷ cs) g.split; elements = g.elements; follow = g.follow }

-- ---- all steps

-- what holds of a text holds where the character is known
at_character : (P : List ℕ → Type 0) (acc more : List ℕ) (c d : ℕ) → (c == d) ≡ true → P (acc ++ d ∷ more) → P (acc ++ c ∷ more)
at_character P acc more c d t p = subst (λ x. P (acc ++ x ∷ more)) (sym (eqb-true c d t)) p

-- the characters so far are one more
one_longer : (P : List ℕ → Type 0) (acc more : List ℕ) (c : ℕ) → P ((acc ++ c ∷ []) ++ more) → P (acc ++ c ∷ more)
one_longer P acc more c p = subst P (append_assoc acc (c ∷ []) more) p

-- what is read from a point on means what it gives
gives : (cs : List ℕ) (p : Point) (es : List Element) → read_from p cs ≡ Ok es → Gives p cs es
gives [] (InElement acc) es h = element_ends acc es h
gives [] (InTag acc) es h = never_ok BadList (tag_or BadList acc) es h
gives [] (InValue tag vs acc) es h = never_ok BadList (value_of acc) es h
gives [] (AtEnd e) es h = record { after = []; rest = []; others = []; white = refl; split = refl; elements = cc; follow = inl (refl, refl) }
gives (c ∷ more) (InElement acc) es h =
    by_test (c == comma) _ _ _ h
    (λ t k. at_character (λ cs. SpellsSome cs es) acc more c comma t (element_comma acc more es (λ fs. gives more (InElement []) fs) k))
    (λ f k. by_test (c == left_parenthesis && list_all is_white acc) _ _ _ k
    (λ t l. let both = and_parts (c == left_parenthesis) (list_all is_white acc) t in
    at_character (λ cs. SpellsSome cs es) acc more c left_parenthesis both.0 (element_opens acc more es both.1 (gives more (InTag []) es l)))
    (λ g l. one_longer (λ cs. SpellsSome cs es) acc more c (gives more (InElement (acc ++ c ∷ [])) es l)))
gives (c ∷ more) (InTag acc) es h =
    by_test (c == equals_sign) _ _ _ h
    (λ t k. at_character (λ cs. GivesTag cs es) acc more c equals_sign t (tag_equals acc more es (λ tag. gives more (InValue tag [] []) es) k))
    (λ f k. one_longer (λ cs. GivesTag cs es) acc more c (gives more (InTag (acc ++ c ∷ [])) es k))
gives (c ∷ more) (InValue tag vs acc) es h =
    by_test (c == comma) _ _ _ h
    (λ t k. at_character (λ cs. GivesValues tag vs cs es) acc more c comma t (value_comma tag vs acc more es (λ v. gives more (InValue tag (vs ++ v ∷ []) []) es) k))
    (λ f k. by_test (c == right_parenthesis) _ _ _ k
    (λ t l. at_character (λ cs. GivesValues tag vs cs es) acc more c right_parenthesis t (value_closes tag vs acc more es (λ v. gives more (AtEnd (record { tag = tag; values = vs ++ v ∷ [] })) es) l))
    (λ g l. one_longer (λ cs. GivesValues tag vs cs es) acc more c (gives more (InValue tag vs (acc ++ c ∷ [])) es l)))
gives (c ∷ more) (AtEnd e) es h =
    by_test (c == comma) _ _ _ h
    (λ t k. at_character (λ cs. EndsElement e cs es) [] more c comma t (end_comma e more es (λ fs. gives more (InElement []) fs) k))
    (λ f k. by_test (is_white c) _ _ _ k
    (λ t l. end_white e c more es t (gives more (AtEnd e) es l))
    (λ g l. cc))

-- what is read as elements spells them
pub read-spelled : (cs : List ℕ) (es : List Element) → elements_of cs ≡ Ok es → SpellsElements cs es
read-spelled cs es h =
    by_test (list_all is_white cs) _ _ _ h
    (λ t k. inl (t, cc))
    (λ f k. inr (gives cs (InElement []) es k))
