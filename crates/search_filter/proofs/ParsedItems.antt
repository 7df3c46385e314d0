-- An item ends at its `)`, and is broken by a `(` or the end of the text.
use Rattle.std.proofs.Common.{◌≡◌, ℕ, ◌<◌, List, [], ◌∷◌, ◌++◌, length, Option, Some, None, Result, Ok, Err, refl, sym, ap, subst, ◌∙◌, append_assoc}
use Rattle.std.specs.Prelude.{◌==◌}
use Rattle.slp_text.specs.Ascii.{left_parenthesis, right_parenthesis}
use Rattle.slp_text.specs.Reading.{read_then}
use Rattle.attr_list.specs.Pieces.{part_after, part_before, IsShorter}
use Rattle.attr_list.proofs.CutTexts.{after-shorter, by_test}
use Rattle.search_filter.specs.Filters.{Filter, item}
use Rattle.search_filter.specs.Operands.{item_in}
use Rattle.search_filter.specs.Reading.{Frame, InItem, broken, placed, read_from, whole_item}
use Rattle.search_filter.specs.Outcomes.{IsFault}
use Rattle.search_filter.specs.declared.fault.FilterFault.{FilterFault}
use Rattle.search_filter.specs.declared.fault.FilterFault.TheVariants.{Syntax}
use Rattle.search_filter.specs.declared.item.Item.{Item}
use Rattle.search_filter.proofs.Faults.{fault-same, fault-then}

-- what is read of an item with these characters, where this comes after its `(`, if one is there, and this after its `)`
abbrev pub item_reading : List Frame → List ℕ → Option (List ℕ) → Option (List ℕ) → Result Filter FilterFault
item_reading frames cs nested None = broken cs
item_reading frames cs None (Some rest) = read_then (λ i. read_from (placed (item i) frames) rest) (item_in cs)
item_reading frames cs (Some more) (Some rest) = broken cs

-- what stands before the first `)`, and of that before the first `(`
abbrev pub inside : List ℕ → List ℕ
inside cs = part_before right_parenthesis cs

abbrev pub front : List ℕ → List ℕ
front cs = part_before left_parenthesis (inside cs)

abbrev pub nested : List ℕ → Option (List ℕ)
nested cs = part_after left_parenthesis (inside cs)

one_more : (before : List ℕ) (c : ℕ) (more : List ℕ) → (before ++ c ∷ []) ++ more ≡ before ++ c ∷ more
one_more before c more = append_assoc before (c ∷ []) more

none_more : (before : List ℕ) → before ++ [] ≡ before
none_more [] = refl
none_more (b ∷ bs) = ap (λ xs. b ∷ xs) (none_more bs)

pub item-reads : (frames : List Frame) (before cs : List ℕ) → read_from (InItem frames before) cs ≡ item_reading frames (before ++ front cs) (nested cs) (part_after right_parenthesis cs)
item-reads frames before [] = ap broken (sym (none_more before))
item-reads frames before (c ∷ cs) =
    by_test (c == right_parenthesis)
    (λ t. rw t (ap (λ xs. read_then (λ i. read_from (placed (item i) frames) cs) (item_in xs)) (sym (none_more before))))
    (λ f. by_test (c == left_parenthesis)
    (λ t. rw (f, t) (broken_by frames before (part_after right_parenthesis cs)))
    (λ g. rw (f, g) (item-reads frames (before ++ c ∷ []) cs ∙ ap (λ xs. item_reading frames xs (nested cs) (part_after right_parenthesis cs)) (one_more before c (front cs)))))
  where
    broken_by : (frames : List Frame) (before : List ℕ) (after : Option (List ℕ)) → broken before ≡ item_reading frames (before ++ []) (Some (inside cs)) after
    broken_by frames before None = ap broken (sym (none_more before))
    broken_by frames before (Some rest) = ap broken (sym (none_more before))

-- nothing is nested in an item that is all of what stands before the `)`
pub front-all : (cs : List ℕ) → part_after left_parenthesis cs ≡ None → part_before left_parenthesis cs ≡ cs
front-all [] h = refl
front-all (c ∷ cs) h = by_test (c == left_parenthesis) (λ t. absurd (let k : Some cs ≡ None = rw t at h in cc)) (λ f. rw f (ap (λ xs. c ∷ xs) (front-all cs (rw f at h))))

then_broken : {A B : Type 0} (g : A → Result B FilterFault) (r : Result Item FilterFault) → read_then {A = Item} (λ i. Err Syntax) r ≡ read_then g (read_then {A = Item} (λ i. Err Syntax) r)
then_broken g (Ok i) = refl
then_broken g (Err e) = refl

-- what is read of an item that has a `)`, and of one that has none
pub alone-closed : (frames : List Frame) (cs rest : List ℕ) → Some rest ≡ part_after right_parenthesis cs
    → read_from (InItem frames []) cs ≡ read_then (λ i. read_from (placed (item i) frames) rest) (whole_item (inside cs))
alone-closed frames cs rest is =
    item-reads frames [] cs ∙ ap (item_reading frames (front cs) (nested cs)) (sym is) ∙ by_nested (nested cs) refl
  where
    by_nested : (o : Option (List ℕ)) → nested cs ≡ o → item_reading frames (front cs) (nested cs) (Some rest) ≡ read_then (λ i. read_from (placed (item i) frames) rest) (whole_item (inside cs))
    by_nested None e = rw e (ap (λ xs. read_then (λ i. read_from (placed (item i) frames) rest) (item_in xs)) (front-all (inside cs) e))
    by_nested (Some more) e = rw e (then_broken (λ i. read_from (placed (item i) frames) rest) (item_in (front cs)))

pub alone-open : (frames : List Frame) (cs : List ℕ) → None ≡ part_after right_parenthesis cs → read_from (InItem frames []) cs ≡ broken (front cs)
alone-open frames cs is = item-reads frames [] cs ∙ ap (item_reading frames (front cs) (nested cs)) (sym is)

-- a broken item is broken whatever is read
pub broken-fault : (e : FilterFault) (cs : List ℕ) → IsFault {A = Item} e (broken cs) → IsFault {A = Filter} e (broken cs)
broken-fault e cs h = fault-same e (read_then {A = Item} (λ i. Err Syntax) (broken cs)) (broken cs) (then_broken (λ i. Err Syntax) (item_in cs)) (fault-then (λ i. Err Syntax) e (broken {A = Item} cs) h)

-- an item that is read is one level, and what comes after its `)` follows
pub alone-read : (frames : List Frame) (cs inner rest : List ℕ) (i : Item) → inner ≡ inside cs → Some rest ≡ part_after right_parenthesis cs → whole_item inner ≡ Ok i
    → read_from (InItem frames []) cs ≡ read_from (placed (item i) frames) rest
alone-read frames cs inner rest i in' is ok =
    alone-closed frames cs rest is ∙ ap (λ xs. read_then (λ j. read_from (placed (item j) frames) rest) (whole_item xs)) (sym in') ∙ ap (read_then (λ j. read_from (placed (item j) frames) rest)) ok

-- the fault of one that is not read
pub alone-stops : (frames : List Frame) (cs inner rest : List ℕ) (e : FilterFault) → inner ≡ inside cs → Some rest ≡ part_after right_parenthesis cs → IsFault e (whole_item inner)
    → IsFault e (read_from (InItem frames []) cs)
alone-stops frames cs inner rest e in' is h =
    fault-same e (read_then (λ j. read_from (placed (item j) frames) rest) (whole_item inner)) (read_from (InItem frames []) cs)
    (alone-closed frames cs rest is ∙ ap (λ xs. read_then (λ j. read_from (placed (item j) frames) rest) (whole_item xs)) (sym in'))
    (fault-then (λ j. read_from (placed (item j) frames) rest) e (whole_item inner) h)

-- the fault of what has no `)`
pub alone-unclosed : (frames : List Frame) (cs inner : List ℕ) (e : FilterFault) → inner ≡ inside cs → None ≡ part_after right_parenthesis cs
    → IsFault {A = Item} e (broken (part_before left_parenthesis inner)) → IsFault e (read_from (InItem frames []) cs)
alone-unclosed frames cs inner e in' is h =
    fault-same e (broken (part_before left_parenthesis inner)) (read_from (InItem frames []) cs) (alone-open frames cs is ∙ ap (λ xs. broken (part_before left_parenthesis xs)) (sym in'))
    (broken-fault e (part_before left_parenthesis inner) h)

-- less is left
pub alone-shorter : (cs rest : List ℕ) → Some rest ≡ part_after right_parenthesis cs → length rest < length cs
alone-shorter cs rest is = subst (λ p. IsShorter p cs) (sym is) (after-shorter right_parenthesis cs)
