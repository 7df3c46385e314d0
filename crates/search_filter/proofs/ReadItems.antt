-- An item is read of what spells it, and of nothing else.
use Rattle.std.proofs.Common.{◌≡◌, ℕ, true, false, ◌+◌, ◌*◌, ◌==◌, List, [], ◌∷◌, ◌++◌, Option, Some, None, Result, Ok, Err, refl, sym, ap, ◌∙◌, append_assoc, append-nil, eqb-true, arith}
use Rattle.std.specs.List.{list_any}
use Rattle.std.specs.Option.{option_map_or}
use Rattle.slp_text.specs.Ascii.{backslash, equals_sign, greater_than_sign, less_than_sign, tilde}
use Rattle.slp_text.specs.Escapes.{digit_of, is_escapable, is_refused, unescaped_text_at, unescaped_text_from}
use Rattle.slp_text.specs.Reading.{read_map, read_then}
use Rattle.slp_text.specs.declared.escapes.Place.TheVariants as place
use Rattle.slp_text.specs.declared.escapes.Stage.TheVariants.{Plain, Slash, Digit}
use Rattle.slp_text.specs.declared.faults.TextFault.{TextFault}
use Rattle.slp_text.specs.declared.faults.TextFault.TheVariants.{BadEscape}
use Rattle.slp_text.proofs.Readers.{then_ok}
use Rattle.attr_values.specs.declared.fault.AttrFault.TheVariants.{BadTag}
use Rattle.attr_list.specs.Pieces.{part_after, part_before}
use Rattle.attr_list.specs.Reading as attr
use Rattle.attr_list.proofs.CutTexts as cut
use Rattle.attr_list.proofs.InnerCharacters.{by_test, mapped_ok}
use Rattle.search_filter.specs.Operands.{condition_in, ends_at, is_nothing, item_by, item_in, operator_in, tag_by, tag_in}
use Rattle.search_filter.specs.Spelling.{SpellsItem, begins_connected, is_parenthesis, operator_text}
use Rattle.search_filter.specs.declared.fault.FilterFault.TheVariants.{Syntax}
use Rattle.search_filter.specs.declared.item.Condition.{Condition}
use Rattle.search_filter.specs.declared.item.Item.{Item}
use Rattle.search_filter.specs.declared.reading.Operator.{Operator}
use Rattle.search_filter.specs.declared.reading.Operator.TheVariants as operator

-- ---- characters that are cut at a mark

-- the mark is not among them
abbrev Lacks : ℕ → List ℕ → Type 0
Lacks mark cs = part_after mark cs ≡ None

-- a mark is itself
same_mark : (mark : ℕ) → (mark == mark) ≡ true
same_mark mark = grind arith

-- a character that is no mark, in front
lacks_more : (mark c : ℕ) (cs : List ℕ) → (c == mark) ≡ false → Lacks mark cs → Lacks mark (c ∷ cs)
lacks_more mark c cs f h = rw f h

-- a first character is no mark, nor are the others
lacks_parts : (mark c : ℕ) (cs : List ℕ) → Lacks mark (c ∷ cs) → ((c == mark) ≡ false) × Lacks mark cs
lacks_parts mark c cs h = by_test (c == mark) _ _ _ h (λ t k. cc) (λ f k. (f, k))

-- a character that is no mark, at the end
lacks_last : (mark : ℕ) (cs : List ℕ) (c : ℕ) → (c == mark) ≡ false → Lacks mark cs → Lacks mark (cs ++ c ∷ [])
lacks_last mark [] c f h = rw f refl
lacks_last mark (d ∷ cs) c f h = let both = lacks_parts mark d cs h in lacks_more mark d (cs ++ c ∷ []) both.0 (lacks_last mark cs c f both.1)

-- what stands before the first mark
before_mark : (mark : ℕ) (cs more : List ℕ) → Lacks mark cs → part_before mark (cs ++ mark ∷ more) ≡ cs
before_mark mark [] more h = rw (same_mark mark) refl
before_mark mark (c ∷ cs) more h = let both = lacks_parts mark c cs h in rw both.0 (ap (λ ds. c ∷ ds) (before_mark mark cs more both.1))

-- what comes after it
after_mark : (mark : ℕ) (cs more : List ℕ) → Lacks mark cs → part_after mark (cs ++ mark ∷ more) ≡ Some more
after_mark mark [] more h = rw (same_mark mark) refl
after_mark mark (c ∷ cs) more h = let both = lacks_parts mark c cs h in rw both.0 (after_mark mark cs more both.1)

-- both, with the mark between them, are the whole
cut_at_mark : (mark : ℕ) (cs more : List ℕ) → part_after mark cs ≡ Some more → cs ≡ part_before mark cs ++ mark ∷ more
cut_at_mark mark [] more h = cc
cut_at_mark mark (c ∷ cs) more h =
    by_test (c == mark) _ _ _ h
    (λ t k. let same : cs ≡ more = cc in let is = eqb-true c mark t in rw t cc)
    (λ f k. rw f (ap (λ ds. c ∷ ds) (cut_at_mark mark cs more k)))

-- ---- the marks that a tag lacks

-- what may not stand raw in a tag, and stands in no escape
record IsForeign (mark : ℕ) : Type 0 where
  refused : is_refused place.Tag mark ≡ true
  no_digit : digit_of mark ≡ None
  no_slash : (mark == backslash) ≡ false

-- what was there, of which something was read
there_ok : {A B E : Type 0} (f : A → Result B E) (o : Option A) (e : E) (y : B) → option_map_or f o (Err e) ≡ Ok y → (x : A) × (o ≡ Some x) × (f x ≡ Ok y)
there_ok f None e y h = cc
there_ok f (Some x) e y h = (x, refl, h)

module _ (mark : ℕ) (foreign : IsForeign mark) where
  -- a backslash is no such mark
  slash_other : (c : ℕ) → (c == backslash) ≡ true → (c == mark) ≡ false
  slash_other c h = cut.by_test (c == mark) (λ t. let same = eqb-true c mark t in let no = foreign.no_slash in cc) (λ f. f)

  -- nor is a digit
  digit_other : (c d : ℕ) → digit_of c ≡ Some d → (c == mark) ≡ false
  digit_other c d h = cut.by_test (c == mark) (λ t. let same = ap digit_of (eqb-true c mark t) in let no = foreign.no_digit in cc) (λ f. f)

  -- nor is what may stand raw
  raw_other : (c : ℕ) → is_refused place.Tag c ≡ false → (c == mark) ≡ false
  raw_other c h = cut.by_test (c == mark) (λ t. let same = ap (is_refused place.Tag) (eqb-true c mark t) in let no = foreign.refused in cc) (λ f. f)

  mutual
    -- what is read outside escapes lacks the mark
    plain_lacks : (cs xs : List ℕ) → unescaped_text_from is_escapable (is_refused place.Tag) Plain cs ≡ Ok xs → Lacks mark cs
    plain_lacks [] xs h = refl
    plain_lacks (c ∷ cs) xs h =
        by_test (c == backslash) _ _ _ h
        (λ t k. lacks_more mark c cs (slash_other c t) (slash_lacks cs xs k))
        (λ f k. by_test (is_refused place.Tag c) _ _ _ k
        (λ t n. cc)
        (λ g n. let r = mapped_ok (λ ys. c ∷ ys) (unescaped_text_from is_escapable (is_refused place.Tag) Plain cs) xs n in lacks_more mark c cs (raw_other c g) (plain_lacks cs r.0 r.1)))

    -- so does what is read after a backslash
    slash_lacks : (cs xs : List ℕ) → unescaped_text_from is_escapable (is_refused place.Tag) Slash cs ≡ Ok xs → Lacks mark cs
    slash_lacks [] xs h = refl
    slash_lacks (c ∷ cs) xs h =
        let d = there_ok (λ d. unescaped_text_from is_escapable (is_refused place.Tag) (Digit d) cs) (digit_of c) BadEscape xs h in
        lacks_more mark c cs (digit_other c d.0 d.1) (digit_lacks d.0 cs xs d.2)

    -- and after the first digit of an escape
    digit_lacks : (d : ℕ) (cs xs : List ℕ) → unescaped_text_from is_escapable (is_refused place.Tag) (Digit d) cs ≡ Ok xs → Lacks mark cs
    digit_lacks d [] xs h = refl
    digit_lacks d (c ∷ cs) xs h =
        let e = there_ok _ (digit_of c) BadEscape xs h in
        by_test (is_escapable (16 * d + e.0)) _ _ _ e.2
        (λ t n.
        let r = mapped_ok (λ ys. (16 * d + e.0) ∷ ys) (unescaped_text_from is_escapable (is_refused place.Tag) Plain cs) xs n in
        lacks_more mark c cs (digit_other c e.0 e.1) (plain_lacks cs r.0 r.1))
        (λ f n. cc)

-- the characters of a tag that was read
unescaped : (r : Result (List ℕ) TextFault) (tag : List ℕ) → tag_by (attr.tag_by BadTag r) ≡ Ok tag → (xs : List ℕ) × (r ≡ Ok xs)
unescaped (Ok xs) tag h = (xs, refl)
unescaped (Err e) tag h = cc

-- a tag lacks such a mark
tag_lacks : (mark : ℕ) → IsForeign mark → (cs tag : List ℕ) → tag_in cs ≡ Ok tag → Lacks mark cs
tag_lacks mark foreign cs tag h = let r = unescaped (unescaped_text_at place.Tag cs) tag h in plain_lacks mark foreign cs r.0 r.1

-- it lacks `=`
tag_equals : (cs tag : List ℕ) → tag_in cs ≡ Ok tag → Lacks equals_sign cs
tag_equals = tag_lacks equals_sign (record { refused = refl; no_digit = refl; no_slash = refl })

-- it lacks `~`
tag_tilde : (cs tag : List ℕ) → tag_in cs ≡ Ok tag → Lacks tilde cs
tag_tilde = tag_lacks tilde (record { refused = refl; no_digit = refl; no_slash = refl })

-- it lacks `>`
tag_greater : (cs tag : List ℕ) → tag_in cs ≡ Ok tag → Lacks greater_than_sign cs
tag_greater = tag_lacks greater_than_sign (record { refused = refl; no_digit = refl; no_slash = refl })

-- it lacks `<`
tag_less : (cs tag : List ℕ) → tag_in cs ≡ Ok tag → Lacks less_than_sign cs
tag_less = tag_lacks less_than_sign (record { refused = refl; no_digit = refl; no_slash = refl })

-- ---- the operator

-- nothing is there, where something is
nothing_there : (o : Option (List ℕ)) → option_map_or is_nothing o false ≡ true → o ≡ Some []
nothing_there None h = cc
nothing_there (Some []) h = refl
nothing_there (Some (c ∷ cs)) h = cc

-- what ends at the first mark
ends_cut : (mark : ℕ) (cs : List ℕ) → ends_at mark cs ≡ true → cs ≡ part_before mark cs ++ mark ∷ []
ends_cut mark cs h = cut_at_mark mark cs [] (nothing_there (part_after mark cs) h)

-- a mark before a `=`
marked_cut : (mark : ℕ) (cs rest : List ℕ) → ends_at mark cs ≡ true → cs ++ equals_sign ∷ rest ≡ (part_before mark cs ++ mark ∷ equals_sign ∷ []) ++ rest
marked_cut mark cs rest h =
    let before = part_before mark cs in
    ap (λ ds. ds ++ equals_sign ∷ rest) (ends_cut mark cs h) ∙ append_assoc before (mark ∷ []) (equals_sign ∷ rest) ∙ sym (append_assoc before (mark ∷ equals_sign ∷ []) rest)

-- the tag, the operator and the operand are the whole
operator_cut : (cs rest : List ℕ) → cs ++ equals_sign ∷ rest ≡ (operator_in cs).0 ++ operator_text (operator_in cs).1 ++ rest
operator_cut cs rest =
    cut.by_test (ends_at tilde cs)
    (λ t. rw t (marked_cut tilde cs rest t))
    (λ f. cut.by_test (ends_at greater_than_sign cs)
    (λ t. rw (f, t) (marked_cut greater_than_sign cs rest t))
    (λ g. cut.by_test (ends_at less_than_sign cs) (λ t. rw (f, g, t) (marked_cut less_than_sign cs rest t)) (λ k. rw (f, g, k) (sym (append_assoc cs (equals_sign ∷ []) rest)))))

-- ---- the item

-- the item of a tag and a condition
abbrev item_of : List ℕ → Condition → Item
item_of tag c = record { tag = tag; condition = c }

-- what is read as an item spells it
pub item-spelled : (cs : List ℕ) (i : Item) → item_in cs ≡ Ok i → list_any is_parenthesis cs ≡ false → begins_connected cs ≡ false → SpellsItem cs i
item-spelled cs i h closed alone =
    let before = part_before equals_sign cs in
    let p = operator_in before in
    let rest = there_ok (item_by p) (part_after equals_sign cs) Syntax i h in
    let tag = then_ok (λ tag. read_map (item_of tag) (condition_in p.1 rest.0)) (tag_in p.0) i rest.2 in
    let condition = mapped_ok (item_of tag.0) (condition_in p.1 rest.0) i tag.2 in
    record {
      tag = p.0;
      operator = p.1;
      operand = rest.0;
      whole = cut_at_mark equals_sign cs rest.0 rest.1 ∙ operator_cut before rest.0;
      named = tag.1 ∙ ap (λ j. Ok j.tag) condition.2;
      asked = condition.1 ∙ ap (λ j. Ok j.condition) condition.2;
      closed = closed;
      alone = alone;
    }

-- the mark of an operator, which stands before its `=`
abbrev mark_of : Operator → List ℕ
mark_of operator.Equal = []
mark_of operator.Alike = tilde ∷ []
mark_of operator.AtLeast = greater_than_sign ∷ []
mark_of operator.AtMost = less_than_sign ∷ []

-- the `=` stands after a mark
marked_operator : (cs : List ℕ) (o : Operator) (rest : List ℕ) → cs ++ (operator_text o ++ rest) ≡ (cs ++ mark_of o) ++ equals_sign ∷ rest
marked_operator cs operator.Equal rest = ap (λ ds. ds ++ equals_sign ∷ rest) (sym (append-nil cs))
marked_operator cs operator.Alike rest = sym (append_assoc cs (tilde ∷ []) (equals_sign ∷ rest))
marked_operator cs operator.AtLeast rest = sym (append_assoc cs (greater_than_sign ∷ []) (equals_sign ∷ rest))
marked_operator cs operator.AtMost rest = sym (append_assoc cs (less_than_sign ∷ []) (equals_sign ∷ rest))

-- no mark is `=`
marked_lacks : (cs : List ℕ) (o : Operator) → Lacks equals_sign cs → Lacks equals_sign (cs ++ mark_of o)
marked_lacks cs operator.Equal h = ap (part_after equals_sign) (append-nil cs) ∙ h
marked_lacks cs operator.Alike h = lacks_last equals_sign cs tilde refl h
marked_lacks cs operator.AtLeast h = lacks_last equals_sign cs greater_than_sign refl h
marked_lacks cs operator.AtMost h = lacks_last equals_sign cs less_than_sign refl h

-- nothing ends at a mark that is not there
never_ends : (mark : ℕ) (cs : List ℕ) → Lacks mark cs → ends_at mark cs ≡ false
never_ends mark cs h = rw h refl

-- something ends at a mark that stands last
ends_there : (mark : ℕ) (cs : List ℕ) → Lacks mark cs → ends_at mark (cs ++ mark ∷ []) ≡ true
ends_there mark cs h = rw (after_mark mark cs [] h) refl

-- the operator of a tag and a mark
operator_read : (cs tag : List ℕ) (o : Operator) → tag_in cs ≡ Ok tag → operator_in (cs ++ mark_of o) ≡ (cs, o)
operator_read cs tag operator.Equal h =
    rw (append-nil cs, never_ends tilde cs (tag_tilde cs tag h), never_ends greater_than_sign cs (tag_greater cs tag h), never_ends less_than_sign cs (tag_less cs tag h)) refl
operator_read cs tag operator.Alike h = let lacks = tag_tilde cs tag h in rw (ends_there tilde cs lacks, before_mark tilde cs [] lacks) refl
operator_read cs tag operator.AtLeast h =
    let lacks = tag_greater cs tag h in
    rw (never_ends tilde (cs ++ greater_than_sign ∷ []) (lacks_last tilde cs greater_than_sign refl (tag_tilde cs tag h)), ends_there greater_than_sign cs lacks, before_mark greater_than_sign cs [] lacks) refl
operator_read cs tag operator.AtMost h =
    let lacks = tag_less cs tag h in
    rw (
      never_ends tilde (cs ++ less_than_sign ∷ []) (lacks_last tilde cs less_than_sign refl (tag_tilde cs tag h)),
      never_ends greater_than_sign (cs ++ less_than_sign ∷ []) (lacks_last greater_than_sign cs less_than_sign refl (tag_greater cs tag h)),
      ends_there less_than_sign cs lacks,
      before_mark less_than_sign cs [] lacks,
    ) refl

-- what spells an item is read as it
pub item-read : (cs : List ℕ) (i : Item) → SpellsItem cs i → item_in cs ≡ Ok i
item-read cs i s =
    let before = s.tag ++ mark_of s.operator in
    let lacks = marked_lacks s.tag s.operator (tag_equals s.tag i.tag s.named) in
    let whole : cs ≡ before ++ equals_sign ∷ s.operand = s.whole ∙ append_assoc s.tag (operator_text s.operator) s.operand ∙ marked_operator s.tag s.operator s.operand in
    let first : part_before equals_sign cs ≡ before = ap (part_before equals_sign) whole ∙ before_mark equals_sign before s.operand lacks in
    let last : part_after equals_sign cs ≡ Some s.operand = ap (part_after equals_sign) whole ∙ after_mark equals_sign before s.operand lacks in
    ap (λ o. option_map_or (item_by (operator_in (part_before equals_sign cs))) o (Err Syntax)) last
    ∙ ap (λ p. item_by p s.operand) (ap operator_in first ∙ operator_read s.tag i.tag s.operator s.named)
    ∙ ap (read_then (λ tag. read_map (item_of tag) (condition_in s.operator s.operand))) s.named
    ∙ ap (read_map (item_of i.tag)) s.asked
