-- What is read as a filter spells it.
use Rattle.std.proofs.Common.{◌≡◌, ℕ, suc, ◌+◌, ◌<◌, ◌≤◌, true, false, max, ◌==◌, List, [], ◌∷◌, ◌++◌, length, Option, Some, None, Result, Ok, Err, refl, sym, ap, ap₂, subst, ◌∙◌, append_assoc, append-nil, eqb-true, arith, chars}
use Rattle.std.specs.Prelude.{◌&&◌, ◌||◌, nat_lt, ok_or}
use Rattle.std.specs.List.{list_any}
use Rattle.std.proofs.lemmas.Bool.Decides.{nat_tests}
use Rattle.std.proofs.lemmas.List.Folds.{list_all-append, list_any-append}
use Rattle.slp_text.specs.Ascii.{exclamation_mark, left_parenthesis, right_parenthesis}
use Rattle.slp_text.specs.Keys.{is_white}
use Rattle.slp_text.specs.Reading.{read_then}
use Rattle.attr_list.proofs.InnerCharacters.{by_test}
use Rattle.search_filter.specs.Filters.{Filter, Filters, none, more, all, any, negated, item, depth, greatest_depth}
use Rattle.search_filter.specs.Operands.{item_in}
use Rattle.search_filter.specs.Reading.{Between, Begun, Frame, InItem, After, Point, ampersand, connected, connected_or_fault, deepest, filter_in, filters_with, opened_frame, placed, read_from, takes_another, vertical_bar}
use Rattle.search_filter.specs.Spelling.{AreBlank, IsPadded, Spells, SpellsEach, SpellsFilter, begins_connected, is_parenthesis}
use Rattle.search_filter.specs.declared.fault.FilterFault.TheVariants.{Syntax}
use Rattle.search_filter.specs.declared.item.Item.{Item}
use Rattle.search_filter.specs.declared.parsing.Connective.{Connective}
use Rattle.search_filter.specs.declared.parsing.Connective.TheVariants.{And, Or, Not}
use Rattle.search_filter.proofs.ReadItems.{item-spelled}
use Rattle.slp_text.proofs.Readers.{then_ok}

-- ---- what was read before a point

-- what a filter of this connective begins with, after its `(`
abbrev sign_of : Connective → ℕ
sign_of And = ampersand
sign_of Or = vertical_bar
sign_of Not = exclamation_mark

-- characters of which the last spell the filters of a frame so far, after its beginning; so many levels are outside
record AreInFrame (Outer : List ℕ → Type 0) (levels : ℕ) (o : Frame) (cs : List ℕ) : Type 0 where
  outer : List ℕ
  inner : List ℕ
  whole : cs ≡ outer ++ left_parenthesis ∷ sign_of o.connective ∷ inner
  are : Outer outer
  each : SpellsEach o.filters inner
  shallow : suc (greatest_depth o.filters + levels) ≤ deepest

-- characters that lead into these frames, and to a place between filters
abbrev LeadInto : List Frame → List ℕ → Type 0
LeadInto [] cs = AreBlank cs
LeadInto (o ∷ frames) cs = AreInFrame (LeadInto frames) (length frames) o cs

-- those that lead into them, and a `(` with these after it
record AreOpened (frames : List Frame) (inner cs : List ℕ) : Type 0 where
  outer : List ℕ
  whole : cs ≡ outer ++ left_parenthesis ∷ inner
  are : LeadInto frames outer
  shallow : length frames < deepest

-- those that lead into an item, with these of it so far: no parenthesis, and no beginning of another filter
record LeadIntoItem (frames : List Frame) (inner cs : List ℕ) : Type 0 where
  opened : AreOpened frames inner cs
  closed : list_any is_parenthesis inner ≡ false
  alone : (rest : List ℕ) → begins_connected (inner ++ rest) ≡ false

-- those that spell a whole filter, of as many levels as there may be
record SpellWhole (f : Filter) (cs : List ℕ) : Type 0 where
  spelled : IsPadded (Spells f) cs
  shallow : depth f ≤ deepest

-- those that lead to a point
abbrev LeadTo : Point → List ℕ → Type 0
LeadTo (Between frames) cs = LeadInto frames cs
LeadTo (Begun frames) cs = AreOpened frames [] cs
LeadTo (InItem frames inner) cs = LeadIntoItem frames inner cs
LeadTo (After f) cs = SpellWhole f cs

-- ---- white space

-- white space after white space
blank_more : (xs ys : List ℕ) → AreBlank xs → AreBlank ys → AreBlank (xs ++ ys)
blank_more xs ys h k = list_all-append is_white xs ys ∙ ap₂ (λ a b. a && b) h k

-- one character of it
blank_one : (c : ℕ) → is_white c ≡ true → AreBlank (c ∷ [])
blank_one c h = ap (λ b. b && true) h

-- white space after filters
each_blank : (fs : Filters) (cs ws : List ℕ) → SpellsEach fs cs → AreBlank ws → SpellsEach fs (cs ++ ws)
each_blank none cs ws s h = blank_more cs ws s h
each_blank (more f fs) cs ws s h = record {
  front = s.front;
  back = s.back ++ ws;
  whole = ap (λ t. t ++ ws) s.whole ∙ append_assoc s.front s.back ws;
  first = s.first;
  second = each_blank fs s.back ws s.second h;
}

-- white space after the whole filter
whole_blank : (f : Filter) (cs ws : List ℕ) → SpellWhole f cs → AreBlank ws → SpellWhole f (cs ++ ws)
whole_blank f cs ws s h =
    let p = s.spelled in
    record {
      spelled = record {
        before = p.before;
        inner = p.inner;
        after = p.after ++ ws;
        whole = ap (λ t. t ++ ws) p.whole ∙ append_assoc (p.before ++ p.inner) p.after ws;
        blank_before = p.blank_before;
        blank_after = blank_more p.after ws p.blank_after h;
        is = p.is;
      };
      shallow = s.shallow;
    }

-- white space between filters
frames_blank : (frames : List Frame) (cs : List ℕ) (c : ℕ) → LeadInto frames cs → is_white c ≡ true → LeadInto frames (cs ++ c ∷ [])
frames_blank [] cs c l h = blank_more cs (c ∷ []) l (blank_one c h)
frames_blank (o ∷ frames) cs c l h = record {
  outer = l.outer;
  inner = l.inner ++ c ∷ [];
  whole = ap (λ t. t ++ c ∷ []) l.whole ∙ append_assoc l.outer (left_parenthesis ∷ sign_of o.connective ∷ l.inner) (c ∷ []);
  are = l.are;
  each = each_blank o.filters l.inner (c ∷ []) l.each (blank_one c h);
  shallow = l.shallow;
}

-- ---- one filter more

-- a filter with white space before it, and none after it
padded : (f : Filter) (ws cs : List ℕ) → AreBlank ws → Spells f cs → IsPadded (Spells f) (ws ++ cs)
padded f ws cs h s = record { before = ws; inner = cs; after = []; whole = sym (append-nil (ws ++ cs)); blank_before = h; blank_after = refl; is = s }

-- a filter after filters
each_with : (fs : Filters) (f : Filter) (cs ds : List ℕ) → SpellsEach fs cs → Spells f ds → SpellsEach (filters_with fs f) (cs ++ ds)
each_with none f cs ds s t = record { front = cs ++ ds; back = []; whole = sym (append-nil (cs ++ ds)); first = padded f cs ds s t; second = refl }
each_with (more g fs) f cs ds s t = record {
  front = s.front;
  back = s.back ++ ds;
  whole = ap (λ u. u ++ ds) s.whole ∙ append_assoc s.front s.back ds;
  first = s.first;
  second = each_with fs f s.back ds s.second t;
}

-- the deepest of filters and one more
with_depth : (fs : Filters) (f : Filter) → greatest_depth (filters_with fs f) ≡ max (greatest_depth fs) (depth f)
with_depth none f = omega arith
with_depth (more g fs) f = omega (arith, with_depth fs f)

-- the levels of a frame with a filter more
with_levels : (fs : Filters) (f : Filter) (levels : ℕ) → suc (greatest_depth fs + levels) ≤ deepest → depth f + suc levels ≤ deepest → suc (greatest_depth (filters_with fs f) + levels) ≤ deepest
with_levels fs f levels h k = omega (arith, with_depth fs f)

-- a filter that was read is placed
filter_placed : (frames : List Frame) (f : Filter) (outer cs : List ℕ) → LeadInto frames outer → Spells f cs → depth f + length frames ≤ deepest → LeadTo (placed f frames) (outer ++ cs)
filter_placed [] f outer cs l s h = record { spelled = padded f outer cs l s; shallow = omega arith }
filter_placed (o ∷ frames) f outer cs l s h = record {
  outer = l.outer;
  inner = l.inner ++ cs;
  whole = ap (λ t. t ++ cs) l.whole ∙ append_assoc l.outer (left_parenthesis ∷ sign_of o.connective ∷ l.inner) cs;
  are = l.are;
  each = each_with o.filters f l.inner cs l.each s;
  shallow = with_levels o.filters f (length frames) l.shallow h;
}

-- ---- the end of a filter

-- one filter between white space
one_padded : (f : Filter) (cs : List ℕ) → SpellsEach (more f none) cs → IsPadded (Spells f) cs
one_padded f cs s =
    let p = s.first in
    record {
      before = p.before;
      inner = p.inner;
      after = p.after ++ s.back;
      whole = s.whole ∙ ap (λ t. t ++ s.back) p.whole ∙ append_assoc (p.before ++ p.inner) p.after s.back;
      blank_before = p.blank_before;
      blank_after = blank_more p.after s.back p.blank_after s.second;
      is = p.is;
    }

-- some filters are not none
some_filters : (f : Filter) (fs : Filters) → more f fs ≡ none → ⊥
some_filters f fs h = cc

-- what the filters of a frame spell between its beginning and a `)`
connected_spelled : (c : Connective) (fs : Filters) (f : Filter) (cs : List ℕ) → connected c fs ≡ Some f → SpellsEach fs cs → Spells f (left_parenthesis ∷ sign_of c ∷ cs ++ right_parenthesis ∷ [])
connected_spelled And none f cs h s = cc
connected_spelled Or none f cs h s = cc
connected_spelled Not none f cs h s = cc
connected_spelled And (more g gs) f cs h s =
    let same : all (more g gs) ≡ f = cc in
    subst (λ e. Spells e (left_parenthesis ∷ ampersand ∷ cs ++ right_parenthesis ∷ [])) same
    (record { inner = ampersand ∷ cs; whole = refl; is = record { inner = cs; whole = refl; is = s } }, some_filters g gs)
connected_spelled Or (more g gs) f cs h s =
    let same : any (more g gs) ≡ f = cc in
    subst (λ e. Spells e (left_parenthesis ∷ vertical_bar ∷ cs ++ right_parenthesis ∷ [])) same
    (record { inner = vertical_bar ∷ cs; whole = refl; is = record { inner = cs; whole = refl; is = s } }, some_filters g gs)
connected_spelled Not (more g none) f cs h s =
    let same : negated g ≡ f = cc in
    subst (λ e. Spells e (left_parenthesis ∷ exclamation_mark ∷ cs ++ right_parenthesis ∷ [])) same
    (record { inner = exclamation_mark ∷ cs; whole = refl; is = record { inner = cs; whole = refl; is = one_padded g cs s } })
connected_spelled Not (more g (more k gs)) f cs h s = cc

-- it has one level more than they
connected_depth : (c : Connective) (fs : Filters) (f : Filter) → connected c fs ≡ Some f → depth f ≤ suc (greatest_depth fs)
connected_depth And none f h = cc
connected_depth Or none f h = cc
connected_depth Not none f h = cc
connected_depth And (more g gs) f h = let same : all (more g gs) ≡ f = cc in let e = ap depth same in omega arith
connected_depth Or (more g gs) f h = let same : any (more g gs) ≡ f = cc in let e = ap depth same in omega arith
connected_depth Not (more g none) f h = let same : negated g ≡ f = cc in let e = ap depth same in omega arith
connected_depth Not (more g (more k gs)) f h = cc

-- the filter of a frame is placed
frame_placed : (o : Frame) (frames : List Frame) (f : Filter) (cs : List ℕ) → LeadInto (o ∷ frames) cs → connected o.connective o.filters ≡ Some f → LeadTo (placed f frames) (cs ++ right_parenthesis ∷ [])
frame_placed o frames f cs l h =
    let begun = left_parenthesis ∷ sign_of o.connective ∷ l.inner in
    let whole : cs ++ right_parenthesis ∷ [] ≡ l.outer ++ (begun ++ right_parenthesis ∷ []) = ap (λ t. t ++ right_parenthesis ∷ []) l.whole ∙ append_assoc l.outer begun (right_parenthesis ∷ []) in
    let levels : depth f + length frames ≤ deepest = omega (arith, connected_depth o.connective o.filters f h, l.shallow) in
    subst (LeadTo (placed f frames)) (sym whole) (filter_placed frames f l.outer (begun ++ right_parenthesis ∷ []) l.are (connected_spelled o.connective o.filters f l.inner h l.each) levels)

-- ---- one character at each point

-- a `(` between filters
opens : (frames : List Frame) (cs : List ℕ) → LeadInto frames cs → length frames < deepest → AreOpened frames [] (cs ++ left_parenthesis ∷ [])
opens frames cs l h = record { outer = cs; whole = refl; are = l; shallow = h }

-- `&`, `|` or `!` after it
connects : (c : Connective) (frames : List Frame) (cs : List ℕ) → AreOpened frames [] cs → LeadInto (opened_frame c ∷ frames) (cs ++ sign_of c ∷ [])
connects c frames cs l = record {
  outer = l.outer;
  inner = [];
  whole = ap (λ t. t ++ sign_of c ∷ []) l.whole ∙ append_assoc l.outer (left_parenthesis ∷ []) (sign_of c ∷ []);
  are = l.are;
  each = refl;
  shallow = omega (arith, l.shallow);
}

-- a character of an item
goes_on : (frames : List Frame) (inner cs : List ℕ) (c : ℕ) → AreOpened frames inner cs → AreOpened frames (inner ++ c ∷ []) (cs ++ c ∷ [])
goes_on frames inner cs c l = record { outer = l.outer; whole = ap (λ t. t ++ c ∷ []) l.whole ∙ append_assoc l.outer (left_parenthesis ∷ inner) (c ∷ []); are = l.are; shallow = l.shallow }

-- a character that is no parenthesis
no_parenthesis : (c : ℕ) → (c == left_parenthesis) ≡ false → (c == right_parenthesis) ≡ false → list_any is_parenthesis (c ∷ []) ≡ false
no_parenthesis c h k = rw (h, k) refl

-- the first character of an item
begins_item : (frames : List Frame) (cs : List ℕ) (c : ℕ) → AreOpened frames [] cs → (c == ampersand) ≡ false → (c == vertical_bar) ≡ false → (c == exclamation_mark) ≡ false
    → (c == left_parenthesis) ≡ false → (c == right_parenthesis) ≡ false → LeadIntoItem frames (c ∷ []) (cs ++ c ∷ [])
begins_item frames cs c l and or not left right = record { opened = goes_on frames [] cs c l; closed = no_parenthesis c left right; alone = λ rest. rw (and, or, not) refl }

-- one more character of it
item_goes_on : (frames : List Frame) (inner cs : List ℕ) (c : ℕ) → LeadIntoItem frames inner cs → (c == left_parenthesis) ≡ false → (c == right_parenthesis) ≡ false → LeadIntoItem frames (inner ++ c ∷ []) (cs ++ c ∷ [])
item_goes_on frames inner cs c l left right = record {
  opened = goes_on frames inner cs c l.opened;
  closed = list_any-append is_parenthesis inner (c ∷ []) ∙ ap₂ (λ a b. a || b) l.closed (no_parenthesis c left right);
  alone = λ rest. ap begins_connected (append_assoc inner (c ∷ []) rest) ∙ l.alone (c ∷ rest);
}

-- an item is placed
item_placed : (frames : List Frame) (inner cs : List ℕ) (i : Item) → LeadIntoItem frames inner cs → item_in inner ≡ Ok i → LeadTo (placed (item i) frames) (cs ++ right_parenthesis ∷ [])
item_placed frames inner cs i l h =
    let o = l.opened in
    let text = left_parenthesis ∷ inner ++ right_parenthesis ∷ [] in
    let whole : cs ++ right_parenthesis ∷ [] ≡ o.outer ++ text = ap (λ t. t ++ right_parenthesis ∷ []) o.whole ∙ append_assoc o.outer (left_parenthesis ∷ inner) (right_parenthesis ∷ []) in
    let alone = ap begins_connected (sym (append-nil inner)) ∙ l.alone [] in
    subst (LeadTo (placed (item i) frames)) (sym whole) (filter_placed frames (item i) o.outer text o.are (record { inner = inner; whole = refl; is = item-spelled inner i h l.closed alone }) (omega (arith, o.shallow)))

-- ---- all characters

-- nothing is read where each way ends in a fault
never_ok : {A B E P : Type 0} (e : E) (r : Result A E) (y : B) → read_then (λ (x : A). Err e) r ≡ Ok y → P
never_ok e (Ok x) y h = cc
never_ok e (Err f) y h = cc

-- what is there, or a fault
some_ok : {A E : Type 0} (o : Option A) (e : E) (x : A) → ok_or o e ≡ Ok x → o ≡ Some x
some_ok None e x h = cc
some_ok (Some y) e x h = cc

-- a number that is tested to be below another
below : (n m : ℕ) → nat_lt n m ≡ true → n < m
below n m h = grind (arith, nat_tests)

-- what leads to a point leads there where the character is known
at_character : (p : Point) (cs : List ℕ) (c d : ℕ) → (c == d) ≡ true → LeadTo p (cs ++ d ∷ []) → LeadTo p (cs ++ c ∷ [])
at_character p cs c d t l = subst (λ x. LeadTo p (cs ++ x ∷ [])) (sym (eqb-true c d t)) l

-- the characters so far are one more
one_longer : (f : Filter) (cs : List ℕ) (c : ℕ) (rest : List ℕ) → SpellWhole f ((cs ++ c ∷ []) ++ rest) → SpellWhole f (cs ++ c ∷ rest)
one_longer f cs c rest s = subst (SpellWhole f) (append_assoc cs (c ∷ []) rest) s

-- what is read as a filter from a point on spells it, with what leads there
spelled_from : (rest : List ℕ) (p : Point) (cs : List ℕ) (f : Filter) → LeadTo p cs → read_from p rest ≡ Ok f → SpellWhole f (cs ++ rest)
spelled_from [] (Between frames) cs f l h = cc
spelled_from [] (Begun frames) cs f l h = cc
spelled_from [] (InItem frames inner) cs f l h = never_ok Syntax (item_in inner) f h
spelled_from [] (After g) cs f l h = let same : g ≡ f = cc in subst (SpellWhole f) (sym (append-nil cs)) (subst (λ e. SpellWhole e cs) same l)
spelled_from (c ∷ rest) (Between []) cs f l h =
    by_test (is_white c) _ _ _ h
    (λ t k. one_longer f cs c rest (spelled_from rest (Between []) (cs ++ c ∷ []) f (frames_blank [] cs c l t) k))
    (λ g k. by_test (c == left_parenthesis) _ _ _ k
    (λ t m. one_longer f cs c rest (spelled_from rest (Begun []) (cs ++ c ∷ []) f (at_character (Begun []) cs c left_parenthesis t (opens [] cs l (omega arith))) m))
    (λ n m. cc))
spelled_from (c ∷ rest) (Between (o ∷ frames)) cs f l h =
    by_test (is_white c) _ _ _ h
    (λ t k. one_longer f cs c rest (spelled_from rest (Between (o ∷ frames)) (cs ++ c ∷ []) f (frames_blank (o ∷ frames) cs c l t) k))
    (λ g k. by_test (c == left_parenthesis) _ _ _ k
    (λ t m. by_test (takes_another o.connective o.filters) _ _ _ m
    (λ takes n. by_test (nat_lt (length (o ∷ frames)) deepest) _ _ _ n
    (λ low r. one_longer f cs c rest (spelled_from rest (Begun (o ∷ frames)) (cs ++ c ∷ []) f (at_character (Begun (o ∷ frames)) cs c left_parenthesis t (opens (o ∷ frames) cs l (below (length (o ∷ frames)) deepest low))) r))
    (λ high r. cc))
    (λ full n. cc))
    (λ d m. by_test (c == right_parenthesis) _ _ _ m
    (λ t n.
    let e = then_ok (λ e. read_from (placed e frames) rest) (connected_or_fault o.connective o.filters) f n in
    let connects = some_ok (connected o.connective o.filters) Syntax e.0 e.1 in
    one_longer f cs c rest (spelled_from rest (placed e.0 frames) (cs ++ c ∷ []) f (at_character (placed e.0 frames) cs c right_parenthesis t (frame_placed o frames e.0 cs l connects)) e.2))
    (λ n r. cc)))
spelled_from (c ∷ rest) (Begun frames) cs f l h =
    by_test (c == ampersand) _ _ _ h
    (λ t k. one_longer f cs c rest (spelled_from rest (Between (opened_frame And ∷ frames)) (cs ++ c ∷ []) f (at_character (Between (opened_frame And ∷ frames)) cs c ampersand t (connects And frames cs l)) k))
    (λ and k. by_test (c == vertical_bar) _ _ _ k
    (λ t m. one_longer f cs c rest (spelled_from rest (Between (opened_frame Or ∷ frames)) (cs ++ c ∷ []) f (at_character (Between (opened_frame Or ∷ frames)) cs c vertical_bar t (connects Or frames cs l)) m))
    (λ or m. by_test (c == exclamation_mark) _ _ _ m
    (λ t n. one_longer f cs c rest (spelled_from rest (Between (opened_frame Not ∷ frames)) (cs ++ c ∷ []) f (at_character (Between (opened_frame Not ∷ frames)) cs c exclamation_mark t (connects Not frames cs l)) n))
    (λ not n. by_test (c == left_parenthesis) _ _ _ n
    (λ t r. cc)
    (λ left r. by_test (c == right_parenthesis) _ _ _ r
    (λ t q. cc)
    (λ right q. one_longer f cs c rest (spelled_from rest (InItem frames (c ∷ [])) (cs ++ c ∷ []) f (begins_item frames cs c l and or not left right) q))))))
spelled_from (c ∷ rest) (InItem frames inner) cs f l h =
    by_test (c == right_parenthesis) _ _ _ h
    (λ t k.
    let i = then_ok (λ i. read_from (placed (item i) frames) rest) (item_in inner) f k in
    one_longer f cs c rest (spelled_from rest (placed (item i.0) frames) (cs ++ c ∷ []) f (at_character (placed (item i.0) frames) cs c right_parenthesis t (item_placed frames inner cs i.0 l i.1)) i.2))
    (λ g k. by_test (c == left_parenthesis) _ _ _ k
    (λ t m. never_ok Syntax (item_in inner) f m)
    (λ n m. one_longer f cs c rest (spelled_from rest (InItem frames (inner ++ c ∷ [])) (cs ++ c ∷ []) f (item_goes_on frames inner cs c l n g) m)))
spelled_from (c ∷ rest) (After e) cs f l h =
    by_test (is_white c) _ _ _ h
    (λ t k. one_longer f cs c rest (spelled_from rest (After e) (cs ++ c ∷ []) f (whole_blank e cs (c ∷ []) l (blank_one c t)) k))
    (λ g k. cc)

-- what is read as a filter spells it
pub read-spelled : (text : List ℕ) (f : Filter) → filter_in text ≡ Ok f → SpellsFilter text f
read-spelled text f h = let s = spelled_from (chars text) (Between []) [] f refl h in record { spelled = s.spelled; shallow = s.shallow }
