-- What spells a filter is read as it.
use Rattle.std.proofs.Common.{◌≡◌, ℕ, suc, ◌+◌, ◌<◌, ◌≤◌, true, false, ◌==◌, List, [], ◌∷◌, ◌++◌, length, Ok, refl, sym, ap, ◌∙◌, append_assoc, append-nil, arith, chars}
use Rattle.std.specs.Prelude.{◌||◌, nat_lt}
use Rattle.std.specs.List.{list_all, list_any}
use Rattle.std.proofs.lemmas.Bool.{and_parts, or_parts}
use Rattle.std.proofs.lemmas.Bool.Decides.{nat_tests}
use Rattle.slp_text.specs.Ascii.{exclamation_mark, left_parenthesis, right_parenthesis}
use Rattle.slp_text.specs.Keys.{is_white}
use Rattle.slp_text.specs.Reading.{read_then}
use Rattle.search_filter.specs.Filters.{Filter, Filters, none, more, all, any, negated, item, depth, greatest_depth}
use Rattle.search_filter.specs.Reading.{Between, Begun, Frame, InItem, After, ampersand, deepest, filter_in, filters_with, frame_with, opened_frame, placed, read_from, takes_another, vertical_bar}
use Rattle.search_filter.specs.Spelling.{AreBlank, IsPadded, Spells, SpellsEach, SpellsFilter, SpellsItem, is_parenthesis}
use Rattle.search_filter.specs.declared.item.Item.{Item}
use Rattle.search_filter.specs.declared.parsing.Connective.{Connective}
use Rattle.search_filter.specs.declared.parsing.Connective.TheVariants.{And, Or, Not}
use Rattle.search_filter.proofs.ReadItems.{item-read}

-- ---- past white space

-- white space between filters is passed over
past_between : (frames : List Frame) (ws rest : List ℕ) → AreBlank ws → read_from (Between frames) (ws ++ rest) ≡ read_from (Between frames) rest
past_between frames [] rest h = refl
past_between [] (w ∷ ws) rest h = let both = and_parts (is_white w) (list_all is_white ws) h in rw both.0 (past_between [] ws rest both.1)
past_between (o ∷ frames) (w ∷ ws) rest h = let both = and_parts (is_white w) (list_all is_white ws) h in rw both.0 (past_between (o ∷ frames) ws rest both.1)

-- and after the whole
past_after : (f : Filter) (ws rest : List ℕ) → AreBlank ws → read_from (After f) (ws ++ rest) ≡ read_from (After f) rest
past_after f [] rest h = refl
past_after f (w ∷ ws) rest h = let both = and_parts (is_white w) (list_all is_white ws) h in rw both.0 (past_after f ws rest both.1)

-- so it is after a filter
past_placed : (f : Filter) (frames : List Frame) (ws rest : List ℕ) → AreBlank ws → read_from (placed f frames) (ws ++ rest) ≡ read_from (placed f frames) rest
past_placed f [] ws rest h = past_after f ws rest h
past_placed f (o ∷ frames) ws rest h = past_between (frame_with f o ∷ frames) ws rest h

-- a filter is read with white space round it
padded_read : (f : Filter) (frames : List Frame) (cs rest : List ℕ) (s : IsPadded (Spells f) cs) → ((more : List ℕ) → read_from (Between frames) (s.inner ++ more) ≡ read_from (placed f frames) more)
    → read_from (Between frames) (cs ++ rest) ≡ read_from (placed f frames) rest
padded_read f frames cs rest s read =
    let whole : cs ++ rest ≡ s.before ++ (s.inner ++ (s.after ++ rest)) = ap (λ t. t ++ rest) s.whole ∙ simp append_assoc in
    ap (read_from (Between frames)) whole ∙ past_between frames s.before (s.inner ++ (s.after ++ rest)) s.blank_before ∙ read (s.after ++ rest) ∙ past_placed f frames s.after rest s.blank_after

-- ---- items

-- an item's characters are kept
past_item : (frames : List Frame) (inner cs rest : List ℕ) → list_any is_parenthesis cs ≡ false → read_from (InItem frames inner) (cs ++ rest) ≡ read_from (InItem frames (inner ++ cs)) rest
past_item frames inner [] rest h = ap (λ t. read_from (InItem frames t) rest) (sym (append-nil inner))
past_item frames inner (c ∷ cs) rest h =
    let first = or_parts (is_parenthesis c) (list_any is_parenthesis cs) h in
    let none = or_parts (c == left_parenthesis) (c == right_parenthesis) first.0 in
    rw (none.0, none.1) (past_item frames (inner ++ c ∷ []) cs rest first.1 ∙ ap (λ t. read_from (InItem frames t) rest) (append_assoc inner (c ∷ []) cs))

-- an item is read
item_begun : (frames : List Frame) (cs rest : List ℕ) (i : Item) → SpellsItem cs i → read_from (Begun frames) (cs ++ right_parenthesis ∷ rest) ≡ read_from (placed (item i) frames) rest
item_begun frames [] rest i s = let none = item-read [] i s in cc
item_begun frames (c ∷ cs) rest i s =
    let signs = or_parts (c == ampersand || c == vertical_bar) (c == exclamation_mark) s.alone in
    let bars = or_parts (c == ampersand) (c == vertical_bar) signs.0 in
    let closed = or_parts (is_parenthesis c) (list_any is_parenthesis cs) s.closed in
    let none = or_parts (c == left_parenthesis) (c == right_parenthesis) closed.0 in
    rw (bars.0, bars.1, signs.1, none.0, none.1)
    (past_item frames (c ∷ []) cs (right_parenthesis ∷ rest) closed.1 ∙ ap (read_then (λ j. read_from (placed (item j) frames) rest)) (item-read (c ∷ cs) i s))

-- ---- frames

-- one more filter may come in them
abbrev Admit : List Frame → Type 0
Admit [] = Unit {0}
Admit (o ∷ frames) = takes_another o.connective o.filters ≡ true

-- a number below another is tested to be
low : (n m : ℕ) → n < m → nat_lt n m ≡ true
low n m h = grind (arith, nat_tests)

-- a `(` opens a filter
opens : (frames : List Frame) (cs : List ℕ) → Admit frames → length frames < deepest → read_from (Between frames) (left_parenthesis ∷ cs) ≡ read_from (Begun frames) cs
opens [] cs a h = refl
opens (o ∷ frames) cs a h = rw (a, low (length (o ∷ frames)) deepest h) refl

-- filters and those after them
abbrev both_of : Filters → Filters → Filters
both_of none gs = gs
both_of (more f fs) gs = more f (both_of fs gs)

-- those after one more
both-with : (fs : Filters) (f : Filter) (gs : Filters) → both_of (filters_with fs f) gs ≡ both_of fs (more f gs)
both-with none f gs = refl
both-with (more g fs) f gs = ap (more g) (both-with fs f gs)

-- none after them
both-none : (fs : Filters) → both_of fs none ≡ fs
both-none none = refl
both-none (more f fs) = ap (more f) (both-none fs)

-- ---- filters

-- a filter and what comes after it
enclosed : (cs inner rest : List ℕ) → cs ≡ left_parenthesis ∷ inner ++ right_parenthesis ∷ [] → cs ++ rest ≡ left_parenthesis ∷ inner ++ right_parenthesis ∷ rest
enclosed cs inner rest whole = ap (λ t. t ++ rest) whole ∙ append_assoc (left_parenthesis ∷ inner) (right_parenthesis ∷ []) rest

-- a filter with a sign, and what comes after it
signed : (sign : ℕ) (cs within inner rest : List ℕ) → cs ≡ left_parenthesis ∷ within ++ right_parenthesis ∷ [] → within ≡ sign ∷ inner → cs ++ rest ≡ left_parenthesis ∷ sign ∷ inner ++ right_parenthesis ∷ rest
signed sign cs within inner rest whole is = enclosed cs within rest whole ∙ ap (λ t. left_parenthesis ∷ t ++ right_parenthesis ∷ rest) is

mutual
  -- a filter is read where one may come
  filter_read : (f : Filter) (frames : List Frame) (cs rest : List ℕ) → Spells f cs → Admit frames → depth f + length frames ≤ deepest → read_from (Between frames) (cs ++ rest) ≡ read_from (placed f frames) rest
  filter_read (all none) frames cs rest s a h = absurd (s.1 refl)
  filter_read (any none) frames cs rest s a h = absurd (s.1 refl)
  filter_read (all (more f fs)) frames cs rest s a h =
      let each = s.0.is in
      let text = each.inner ++ right_parenthesis ∷ rest in
      ap (read_from (Between frames)) (signed ampersand cs s.0.inner each.inner rest s.0.whole each.whole)
      ∙ opens frames (ampersand ∷ text) a (omega arith)
      ∙ each_read (more f fs) And none frames each.inner (right_parenthesis ∷ rest) (λ gs. refl) each.is (omega arith)
  filter_read (any (more f fs)) frames cs rest s a h =
      let each = s.0.is in
      let text = each.inner ++ right_parenthesis ∷ rest in
      ap (read_from (Between frames)) (signed vertical_bar cs s.0.inner each.inner rest s.0.whole each.whole)
      ∙ opens frames (vertical_bar ∷ text) a (omega arith)
      ∙ each_read (more f fs) Or none frames each.inner (right_parenthesis ∷ rest) (λ gs. refl) each.is (omega arith)
  filter_read (negated f) frames cs rest s a h =
      let one = s.is in
      let text = one.inner ++ right_parenthesis ∷ rest in
      let within = opened_frame Not ∷ frames in
      ap (read_from (Between frames)) (signed exclamation_mark cs s.inner one.inner rest s.whole one.whole)
      ∙ opens frames (exclamation_mark ∷ text) a (omega arith)
      ∙ padded_read f within one.inner (right_parenthesis ∷ rest) one.is (λ after. filter_read f within one.is.inner after one.is.is refl (omega arith))
  filter_read (item i) frames cs rest s a h =
      ap (read_from (Between frames)) (enclosed cs s.inner rest s.whole) ∙ opens frames (s.inner ++ right_parenthesis ∷ rest) a (omega arith) ∙ item_begun frames s.inner rest i s.is

  -- so are filters where any number may come
  each_read : (fs : Filters) (c : Connective) (gs : Filters) (frames : List Frame) (cs rest : List ℕ) → ((hs : Filters) → takes_another c hs ≡ true) → SpellsEach fs cs → suc (greatest_depth fs + length frames) ≤ deepest
      → read_from (Between (record { connective = c; filters = gs } ∷ frames)) (cs ++ rest) ≡ read_from (Between (record { connective = c; filters = both_of gs fs } ∷ frames)) rest
  each_read none c gs frames cs rest takes s h =
      past_between (record { connective = c; filters = gs } ∷ frames) cs rest s ∙ ap (λ hs. read_from (Between (record { connective = c; filters = hs } ∷ frames)) rest) (sym (both-none gs))
  each_read (more f fs) c gs frames cs rest takes s h =
      let o : Frame = record { connective = c; filters = gs } in
      ap (read_from (Between (o ∷ frames))) (ap (λ t. t ++ rest) s.whole ∙ append_assoc s.front s.back rest)
      ∙ padded_read f (o ∷ frames) s.front (s.back ++ rest) s.first (λ text. filter_read f (o ∷ frames) s.first.inner text s.first.is (takes gs) (omega arith))
      ∙ each_read fs c (filters_with gs f) frames s.back rest takes s.second (omega arith)
      ∙ ap (λ hs. read_from (Between (record { connective = c; filters = hs } ∷ frames)) rest) (both-with gs f fs)

-- what spells a filter is read as it
pub spelled-read : (text : List ℕ) (f : Filter) → SpellsFilter text f → filter_in text ≡ Ok f
spelled-read text f s =
    ap (read_from (Between [])) (sym (append-nil (chars text)))
    ∙ padded_read f [] (chars text) [] s.spelled (λ rest. filter_read f [] s.spelled.inner rest s.spelled.is tt (omega (arith, s.shallow)))
