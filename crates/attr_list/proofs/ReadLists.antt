-- Lists of values and of elements are read from left to right.
use Rattle.std.proofs.Common.{◌≡◌, ◌<◌, ◌+◌, ℕ, true, false, ◌==◌, List, [], ◌∷◌, ◌++◌, length, map, Option, Some, None, Result, Ok, Err, refl, sym, ap, subst, ◌∙◌, append_assoc, arith}
use Rattle.std.specs.List.{list_all, onto_first, slice_split, AllByRecursion}
use Rattle.slp_text.specs.Ascii.{comma}
use Rattle.slp_text.specs.Keys.{is_white, trim_start}
use Rattle.slp_text.specs.Reading.{read_all, read_map, read_then}
use Rattle.slp_text.specs.Lists.{is_comma}
use Rattle.attr_values.specs.Kinds.{IsValue}
use Rattle.attr_values.specs.Reading.{IsFault}
use Rattle.attr_values.specs.Values.{value_of}
use Rattle.attr_values.specs.declared.fault.AttrFault.{AttrFault}
use Rattle.attr_values.specs.declared.value.Value.{Value}
use Rattle.attr_list.specs.Elements.{Element}
use Rattle.attr_list.specs.Pieces.{element_in, part_after, part_before, IsElement, IsShorter}
use Rattle.attr_list.specs.Reading.{elements_of, read_from, InElement}
use Rattle.attr_list.specs.declared.elements.Element as declared
use Rattle.attr_list.proofs.CutTexts.{after-shorter, by_test}
use Rattle.attr_list.proofs.ReadTags.{fault-map, fault-same, fault-then}

-- ---- lists that grow

-- one more item, which is so as the others are
all_more : {A : Type 0} (P : A → Type 0) (xs : List A) (x : A) → AllByRecursion P xs → P x → AllByRecursion P (xs ++ x ∷ [])
all_more P [] x h p = (p, tt)
all_more P (y ∷ xs) x h p = (h.0, all_more P xs x h.1 p)

-- an item that is read is one more of those that were
more_done : {A : Type 0} (done : List A) (x : A) (r : Result (List A) AttrFault) → read_map (λ xs. done ++ xs) (read_map (λ xs. x ∷ xs) r) ≡ read_map (λ xs. (done ++ x ∷ []) ++ xs) r
more_done done x (Ok xs) = ap Ok (sym (append_assoc done (x ∷ []) xs))
more_done done x (Err e) = refl

-- nothing was read yet
none_done : {A : Type 0} (r : Result (List A) AttrFault) → r ≡ read_map (λ xs. [] ++ xs) r
none_done (Ok xs) = refl
none_done (Err e) = refl

-- how much is left
abbrev pub left : Option (List ℕ) → ℕ
left None = 0
left (Some cs) = length cs + 1

-- less is left after each item
left-less : (o rest : Option (List ℕ)) (cs : List ℕ) → o ≡ Some cs → IsShorter rest cs → left rest < left o
left-less o None cs is h = subst (λ p. 0 < left p) (sym is) (omega arith)
left-less o (Some more) cs is h = subst (λ p. left (Some more) < left p) (sym is) (omega arith)

-- ---- values

-- the values that are left to be read
abbrev pub rest_parts : Option (List ℕ) → List (List ℕ)
rest_parts None = []
rest_parts (Some more) = slice_split is_comma more

-- those that were read, and those that are left, are all
abbrev pub AreValuesSoFar : Result (List Value) AttrFault → List Value → Option (List ℕ) → Type 0
AreValuesSoFar all done rest = (all ≡ read_map (λ vs. done ++ vs) (read_all value_of (rest_parts rest))) × AllByRecursion IsValue done

-- the first part ends at the first comma
pub split_parts : (cs : List ℕ) → slice_split is_comma cs ≡ part_before comma cs ∷ rest_parts (part_after comma cs)
split_parts [] = refl
split_parts (c ∷ cs) = by_test (c == comma) (λ t. rw t refl) (λ f. rw f (ap (onto_first c) (split_parts cs)))

-- a first value, and those that are left after it
abbrev first_then : Option (List ℕ) → Result Value AttrFault → Result (List Value) AttrFault
first_then rest r = read_then (λ v. read_map (λ vs. v ∷ vs) (read_all value_of (rest_parts rest))) r

-- the first of the values that are left ends at the first comma
first_reads : (o rest : Option (List ℕ)) (cs t : List ℕ) → o ≡ Some cs → t ≡ part_before comma cs → rest ≡ part_after comma cs → read_all value_of (rest_parts o) ≡ first_then rest (value_of t)
first_reads o rest cs t is before after =
    ap (λ p. read_all value_of (rest_parts p)) is ∙ ap (read_all value_of) (split_parts cs) ∙ ap (λ u. first_then (part_after comma cs) (value_of u)) (sym before)
    ∙ ap (λ p. first_then p (value_of t)) (sym after)

-- the fault of a value is that of all
pub value-stops : (all : Result (List Value) AttrFault) (done : List Value) (o rest : Option (List ℕ)) (cs t : List ℕ) (e : AttrFault) → AreValuesSoFar all done o → o ≡ Some cs → t ≡ part_before comma cs
    → rest ≡ part_after comma cs → IsFault e (value_of t) → IsFault e all
value-stops all done o rest cs t e h is before after f =
    fault-same e (read_map (λ vs. done ++ vs) (first_then rest (value_of t))) all (h.0 ∙ ap (read_map (λ vs. done ++ vs)) (first_reads o rest cs t is before after))
    (fault-map (λ vs. done ++ vs) e (first_then rest (value_of t)) (fault-then (λ v. read_map (λ vs. v ∷ vs) (read_all value_of (rest_parts rest))) e (value_of t) f))

-- a value that is read is one more
pub value-added : (all : Result (List Value) AttrFault) (done new : List Value) (o rest : Option (List ℕ)) (cs t : List ℕ) (v : Value) → AreValuesSoFar all done o → o ≡ Some cs → t ≡ part_before comma cs
    → rest ≡ part_after comma cs → value_of t ≡ Ok v → IsValue v → new ≡ done ++ v ∷ [] → AreValuesSoFar all new rest
value-added all done new o rest cs t v h is before after ok kind more =
    let read : all ≡ read_map (λ vs. (done ++ v ∷ []) ++ vs) (read_all value_of (rest_parts rest)) =
    h.0 ∙ ap (read_map (λ vs. done ++ vs)) (first_reads o rest cs t is before after ∙ ap (first_then rest) ok) ∙ more_done done v (read_all value_of (rest_parts rest)) in
    subst (λ vs. AreValuesSoFar all vs rest) (sym more) (read, all_more IsValue done v h.1 kind)

-- less is left after a value
pub values-less : (o rest : Option (List ℕ)) (cs : List ℕ) → o ≡ Some cs → rest ≡ part_after comma cs → left rest < left o
values-less o rest cs is after = left-less o rest cs is (subst (λ p. IsShorter p cs) (sym after) (after-shorter comma cs))

-- ---- elements

-- what is read of what is left
abbrev pub rest_elements : Option (List ℕ) → Result (List Element) AttrFault
rest_elements None = Ok []
rest_elements (Some more) = read_from (InElement []) more

-- elements that there are
abbrev pub AreElementsHeld : List declared.Element → Type 0
AreElementsHeld = AllByRecursion (λ e. IsElement (element_in e))

-- those that were read, and those that are left, are all
abbrev pub AreElementsSoFar : Result (List Element) AttrFault → List declared.Element → Option (List ℕ) → Type 0
AreElementsSoFar all done rest = (all ≡ read_map (λ es. map element_in done ++ es) (rest_elements rest)) × AreElementsHeld done

-- nothing but white space
all_white : (cs : List ℕ) → trim_start cs ≡ [] → list_all is_white cs ≡ true
all_white [] h = refl
all_white (c ∷ cs) h = by_test (is_white c) (λ t. rw t (all_white cs (rw t at h))) (λ f. let k : c ∷ cs ≡ [] = rw f at h in cc)

-- something that is not white space
not_white : (cs : List ℕ) → (trim_start cs ≡ [] → ⊥) → list_all is_white cs ≡ false
not_white [] h = absurd (h refl)
not_white (c ∷ cs) h = by_test (is_white c) (λ t. rw t (not_white cs (λ e. h (rw t e)))) (λ f. rw f refl)

-- a list of nothing but white space has no elements
pub elements-empty : (cs trimmed : List ℕ) (done : List declared.Element) → trimmed ≡ trim_start cs → trimmed ≡ [] → done ≡ [] → elements_of cs ≡ Ok (map element_in done)
elements-empty cs trimmed done is none new = rw (all_white cs (sym is ∙ none)) (ap (λ es. Ok (map element_in es)) (sym new))

-- of any other list all is still to be read
pub elements-begin : (cs trimmed : List ℕ) (done : List declared.Element) → trimmed ≡ trim_start cs → (trimmed ≡ [] → ⊥) → done ≡ [] → AreElementsSoFar (elements_of cs) done (Some cs)
elements-begin cs trimmed done is some new =
    let read : elements_of cs ≡ read_from (InElement []) cs = rw (not_white cs (λ none. some (is ∙ none))) refl in
    subst (λ es. AreElementsSoFar (elements_of cs) es (Some cs)) (sym new) (read ∙ none_done (read_from (InElement []) cs), tt)
