-- The values of an element are read, and what comes after them.
use Rattle.std.proofs.Common.{◌≡◌, ◌<◌, ℕ, ◌==◌, List, [], ◌∷◌, ◌++◌, length, Option, Some, None, Result, Ok, Err, refl, sym, ap, subst, ◌∙◌, append_assoc, append-nil, arith}
use Rattle.std.specs.Prelude.{IfOk, true, false}
use Rattle.std.specs.List.{onto_first, slice_split}
use Rattle.std.proofs.lemmas.Bool.Decides.{nat_tests}
use Rattle.slp_text.specs.Ascii.{comma, right_parenthesis}
use Rattle.slp_text.specs.Keys.{is_white}
use Rattle.slp_text.specs.Reading.{read_all, read_map, read_then}
use Rattle.slp_text.specs.Lists.{is_comma}
use Rattle.attr_values.specs.Reading.{IsFault}
use Rattle.attr_values.specs.Rests.{rest_after, rest_of}
use Rattle.attr_values.specs.Values.{value_of}
use Rattle.attr_values.specs.declared.fault.AttrFault.{AttrFault}
use Rattle.attr_values.specs.declared.fault.AttrFault.TheVariants.{BadList}
use Rattle.attr_values.specs.declared.value.Value.{Value}
use Rattle.attr_list.specs.Elements.{Element}
use Rattle.attr_list.specs.Pieces.{followed_element, next_after, next_of, part_after, part_before, IsShorter}
use Rattle.attr_list.specs.Reading.{read_from, InValue, AtEnd}
use Rattle.attr_list.specs.declared.reading.Piece.{Piece}
use Rattle.attr_list.proofs.CutTexts.{after-shorter, by_test, shorter-more}
use Rattle.attr_list.proofs.ReadPieces.{read-at_end}
use Rattle.attr_list.proofs.ReadTags.{fault-itself, fault-same, fault-then}

-- ---- what is left

-- what is left of what is left
shorter-yet : (o : Option (List ℕ)) (more cs : List ℕ) → IsShorter o more → IsShorter (Some more) cs → IsShorter o cs
shorter-yet None more cs h k = tt
shorter-yet (Some rest) more cs h k = omega arith

-- what comes after a mark that is there is shorter
pub after-is_shorter : (mark : ℕ) (cs : List ℕ) (rest : Option (List ℕ)) (more : List ℕ) → rest ≡ part_after mark cs → rest ≡ Some more → IsShorter (Some more) cs
after-is_shorter mark cs rest more after some = subst (λ o. IsShorter o cs) (sym after ∙ some) (after-shorter mark cs)

-- a piece of what is left is a piece of all
pub piece-shorter : (r : Result Piece AttrFault) (more cs : List ℕ) → IsShorter (Some more) cs → IfOk r (λ p. IsShorter (rest_of p.rest) more) → IfOk r (λ p. IsShorter (rest_of p.rest) cs)
piece-shorter (Ok p) more cs h k = shorter-yet (rest_of p.rest) more cs k h
piece-shorter (Err e) more cs h k = tt

-- ---- values

-- with these characters before the first part
abbrev joined_first : List ℕ → List (List ℕ) → List (List ℕ)
joined_first acc [] = acc ∷ []
joined_first acc (t ∷ ts) = (acc ++ t) ∷ ts

-- a first character of the first part stands after these
joined_onto : (acc : List ℕ) (c : ℕ) (ts : List (List ℕ)) → joined_first acc (onto_first c ts) ≡ joined_first (acc ++ c ∷ []) ts
joined_onto acc c [] = refl
joined_onto acc c (t ∷ ts) = ap (λ u. u ∷ ts) (sym (append_assoc acc (c ∷ []) t))

-- no characters before the first part change nothing
onto_itself : (c : ℕ) (ts : List (List ℕ)) → joined_first [] (onto_first c ts) ≡ onto_first c ts
onto_itself c [] = refl
onto_itself c (t ∷ ts) = refl

-- nor before the parts of a list
joined_none : (cs : List ℕ) → joined_first [] (slice_split is_comma cs) ≡ slice_split is_comma cs
joined_none [] = refl
joined_none (c ∷ cs) = by_test (c == comma) (λ t. rw t refl) (λ f. rw f (onto_itself c (slice_split is_comma cs)))

-- what is read after the values of a tag
abbrev ended : List ℕ → List Value → Option (List ℕ) → Result (List Element) AttrFault
ended tag vs None = Err BadList
ended tag vs (Some more) = read_from (AtEnd (record { tag = tag; values = vs })) more

-- what is read of further values and of what comes after them
abbrev values_reading : List ℕ → List Value → Option (List ℕ) → Result (List Value) AttrFault → Result (List Element) AttrFault
values_reading tag vs after r = read_then (λ ws. ended tag (vs ++ ws) after) r

-- the last value of a tag
last_value : (tag : List ℕ) (vs : List Value) (after : Option (List ℕ)) (r : Result Value AttrFault)
    → read_then (λ v. ended tag (vs ++ v ∷ []) after) r ≡ values_reading tag vs after (read_then (λ v. read_map (λ ws. v ∷ ws) (Ok [])) r)
last_value tag vs after (Ok v) = refl
last_value tag vs after (Err e) = refl

-- a value that is read is one more
one_value : (tag : List ℕ) (vs : List Value) (after : Option (List ℕ)) (v : Value) (r : Result (List Value) AttrFault)
    → values_reading tag (vs ++ v ∷ []) after r ≡ values_reading tag vs after (read_map (λ ws. v ∷ ws) r)
one_value tag vs after v (Ok ws) = ap (λ us. ended tag us after) (append_assoc vs (v ∷ []) ws)
one_value tag vs after v (Err e) = refl

-- a value that a comma follows
next_value : (tag : List ℕ) (vs : List Value) (after : Option (List ℕ)) (next : Value → Result (List Element) AttrFault) (parts : Result (List Value) AttrFault)
    → ((v : Value) → next v ≡ values_reading tag (vs ++ v ∷ []) after parts) → (r : Result Value AttrFault)
    → read_then next r ≡ values_reading tag vs after (read_then (λ v. read_map (λ ws. v ∷ ws) parts) r)
next_value tag vs after next parts h (Ok v) = h v ∙ one_value tag vs after v parts
next_value tag vs after next parts h (Err e) = refl

-- a comma is no `)`
comma-not_closed : (c : ℕ) → (c == comma) ≡ true → (c == right_parenthesis) ≡ false
comma-not_closed c h = grind (arith, nat_tests)

-- the values of a tag are read from the middle of one on
values_from : (cs acc tag : List ℕ) (vs : List Value)
    → read_from (InValue tag vs acc) cs ≡ values_reading tag vs (part_after right_parenthesis cs) (read_all value_of (joined_first acc (slice_split is_comma (part_before right_parenthesis cs))))
values_from [] acc tag vs = rw (append-nil acc) (last_value tag vs None (value_of acc))
values_from (c ∷ more) acc tag vs =
    by_test (c == comma)
    (λ t. rw (t, comma-not_closed c t, t, append-nil acc)
    (next_value tag vs (part_after right_parenthesis more) (λ v. read_from (InValue tag (vs ++ v ∷ []) []) more) (read_all value_of (slice_split is_comma (part_before right_parenthesis more)))
    (λ v. values_from more [] tag (vs ++ v ∷ []) ∙ ap (λ ts. values_reading tag (vs ++ v ∷ []) (part_after right_parenthesis more) (read_all value_of ts)) (joined_none (part_before right_parenthesis more)))
    (value_of acc)))
    (λ f. by_test (c == right_parenthesis)
    (λ t. rw (f, t, append-nil acc) (last_value tag vs (Some more) (value_of acc)))
    (λ g. rw (f, g, f)
    (values_from more (acc ++ c ∷ []) tag vs
    ∙ ap (λ ts. values_reading tag vs (part_after right_parenthesis more) (read_all value_of ts)) (sym (joined_onto acc c (slice_split is_comma (part_before right_parenthesis more)))))))

-- the values of a tag end at the first `)`
values-reads : (tag cs t : List ℕ) (rest : Option (List ℕ)) → t ≡ part_before right_parenthesis cs → rest ≡ part_after right_parenthesis cs
    → read_from (InValue tag [] []) cs ≡ values_reading tag [] rest (read_all value_of (slice_split is_comma t))
values-reads tag cs t rest before after =
    values_from cs [] tag [] ∙ ap (λ ts. values_reading tag [] (part_after right_parenthesis cs) (read_all value_of ts)) (joined_none (part_before right_parenthesis cs))
    ∙ ap (λ u. values_reading tag [] (part_after right_parenthesis cs) (read_all value_of (slice_split is_comma u))) (sym before)
    ∙ ap (λ o. values_reading tag [] o (read_all value_of (slice_split is_comma t))) (sym after)

-- the fault of a value
pub values-fault : (tag cs t : List ℕ) (rest : Option (List ℕ)) (e : AttrFault) → t ≡ part_before right_parenthesis cs → rest ≡ part_after right_parenthesis cs
    → IsFault e (read_all value_of (slice_split is_comma t)) → IsFault e (read_from (InValue tag [] []) cs)
values-fault tag cs t rest e before after f =
    let values = read_all value_of (slice_split is_comma t) in
    fault-same e (values_reading tag [] rest values) (read_from (InValue tag [] []) cs) (values-reads tag cs t rest before after) (fault-then (λ vs. ended tag vs rest) e values f)

-- no `)` comes after the values
pub values-unclosed : (tag cs t : List ℕ) (rest : Option (List ℕ)) (vs : List Value) → t ≡ part_before right_parenthesis cs → rest ≡ part_after right_parenthesis cs → rest ≡ None
    → read_all value_of (slice_split is_comma t) ≡ Ok vs → read_from (InValue tag [] []) cs ≡ Err BadList
values-unclosed tag cs t rest vs before after none is = values-reads tag cs t rest before after ∙ ap (read_then (λ ws. ended tag ws rest)) is ∙ ap (ended tag vs) none

-- what comes after the `)` is read then
values-closed : (tag cs t : List ℕ) (rest : Option (List ℕ)) (more : List ℕ) (vs : List Value) → t ≡ part_before right_parenthesis cs → rest ≡ part_after right_parenthesis cs → rest ≡ Some more
    → read_all value_of (slice_split is_comma t) ≡ Ok vs → read_from (InValue tag [] []) cs ≡ read_then (followed_element (record { tag = tag; values = vs })) (next_after more)
values-closed tag cs t rest more vs before after some is =
    values-reads tag cs t rest before after ∙ ap (read_then (λ ws. ended tag ws rest)) is ∙ ap (ended tag vs) some ∙ read-at_end (record { tag = tag; values = vs }) more

-- what comes after the `)` is no end of an element
pub values-unended : (tag cs t : List ℕ) (rest : Option (List ℕ)) (more : List ℕ) (vs : List Value) (e : AttrFault) → t ≡ part_before right_parenthesis cs → rest ≡ part_after right_parenthesis cs
    → rest ≡ Some more → read_all value_of (slice_split is_comma t) ≡ Ok vs → Err e ≡ next_after more → IsFault e (read_from (InValue tag [] []) cs)
values-unended tag cs t rest more vs e before after some is f =
    fault-same e (read_then (followed_element (record { tag = tag; values = vs })) (next_after more)) (read_from (InValue tag [] []) cs) (values-closed tag cs t rest more vs before after some is)
    (fault-then (followed_element (record { tag = tag; values = vs })) e (next_after more) (fault-itself e (next_after more) (sym f)))

-- an element with values, and what comes after it
pub values-is : (tag cs t : List ℕ) (rest : Option (List ℕ)) (more : List ℕ) (vs : List Value) (next : Option (List ℕ)) → t ≡ part_before right_parenthesis cs → rest ≡ part_after right_parenthesis cs
    → rest ≡ Some more → read_all value_of (slice_split is_comma t) ≡ Ok vs → Ok next ≡ next_after more → read_from (InValue tag [] []) cs ≡ followed_element (record { tag = tag; values = vs }) next
values-is tag cs t rest more vs next before after some is n =
    values-closed tag cs t rest more vs before after some is ∙ ap (read_then (followed_element (record { tag = tag; values = vs }))) (sym n)

-- ---- the comma after an element with values

-- a comma comes next
pub next_of-some : (cs more : List ℕ) → Some more ≡ rest_after (λ c. c == comma) cs → Ok (Some more) ≡ next_of cs
next_of-some [] more h = cc
next_of-some (c ∷ cs) more h =
    by_test (c == comma)
    (λ t. let k : Some more ≡ Some cs = rw t at h in let same : more ≡ cs = cc in rw t (ap (λ ds. Ok (Some ds)) same))
    (λ f. let k : ◌≡◌ {A = Option (List ℕ)} (Some more) None = rw f at h in cc)

-- something else comes next
pub next_of-none : (cs : List ℕ) → (cs ≡ [] → ⊥) → None ≡ rest_after (λ c. c == comma) cs → Err BadList ≡ next_of cs
next_of-none [] some h = absurd (some refl)
next_of-none (c ∷ cs) some h =
    by_test (c == comma)
    (λ t. let k : ◌≡◌ {A = Option (List ℕ)} None (Some cs) = rw t at h in cc)
    (λ f. rw f refl)

-- what comes after the comma is shorter
next-shorter : (cs : List ℕ) (o : Option (List ℕ)) → next_after cs ≡ Ok o → IsShorter o cs
next-shorter [] o h = let none : None ≡ o = cc in subst (λ p. IsShorter p []) none tt
next-shorter (c ∷ cs) o h =
    by_test (is_white c)
    (λ t. shorter-more o c cs (next-shorter cs o (rw t at h)))
    (λ f. by_test (c == comma)
    (λ t.
    let k : ◌≡◌ {A = Result (Option (List ℕ)) AttrFault} (Ok (Some cs)) (Ok o) = rw (f, t) at h in
    let same : Some cs ≡ o = cc in
    let less : length cs < length (c ∷ cs) = omega arith in
    subst (λ p. IsShorter p (c ∷ cs)) same less)
    (λ g. let k : ◌≡◌ {A = Result (Option (List ℕ)) AttrFault} (Err BadList) (Ok o) = rw (f, g) at h in cc))

-- what comes after an element with values is shorter
pub values-shorter : (cs : List ℕ) (rest : Option (List ℕ)) (more : List ℕ) (next : Option (List ℕ)) → rest ≡ part_after right_parenthesis cs → rest ≡ Some more → Ok next ≡ next_after more → IsShorter next cs
values-shorter cs rest more next after some n = shorter-yet next more cs (next-shorter more next (sym n)) (after-is_shorter right_parenthesis cs rest more after some)
