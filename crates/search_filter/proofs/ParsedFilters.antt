-- Filters are read one after another in the frames that are open.
use Rattle.std.proofs.Common.{◌≡◌, ℕ, zero, suc, ◌+◌, ◌<◌, ◌≤◌, max, true, false, List, [], ◌∷◌, ◌++◌, length, Option, Some, None, Result, Ok, Err, refl, sym, ap, subst, ◌∙◌, arith, nat_lt}
use Rattle.std.specs.Prelude.{◌==◌, if◌then◌else◌}
use Rattle.slp_text.specs.Ascii.{left_parenthesis, right_parenthesis}
use Rattle.slp_text.specs.Keys.{is_white, trim_start}
use Rattle.slp_text.specs.Reading.{read_then}
use Rattle.attr_values.specs.Rests.{rest_after}
use Rattle.attr_list.specs.Pieces.{opened_rest}
use Rattle.attr_list.proofs.CutTexts.{by_test}
use Rattle.search_filter.specs.Filters.{Filter, Filters, all, any, negated, none, more, depth, greatest_depth}
use Rattle.search_filter.specs.Outcomes.{IsFault}
use Rattle.search_filter.specs.Reading.{After, Begun, Between, Frame, connected_or_fault, deepest, filters_with, opened_frame, placed, read_from, takes_another}
use Rattle.search_filter.specs.Trees.{closed_rest, filter_of, filters_in}
use Rattle.search_filter.specs.declared.fault.FilterFault.{FilterFault}
use Rattle.search_filter.specs.declared.fault.FilterFault.TheVariants.{Syntax, TooDeep}
use Rattle.search_filter.specs.declared.parsing.Connective.{Connective}
use Rattle.search_filter.specs.declared.parsing.Connective.TheVariants.{And, Or, Not}
use Rattle.search_filter.specs.declared.tree.Tree.{Tree}
use Rattle.search_filter.proofs.Faults.{fault-same, fault-then}

-- what comes after a mark is shorter
rest-shorter : (mark : ℕ) (cs rest : List ℕ) → Some rest ≡ rest_after (λ c. c == mark) cs → length rest < length cs
rest-shorter mark [] rest is = absurd (let k : Some rest ≡ None = is in cc)
rest-shorter mark (c ∷ cs) rest is =
    by_test (c == mark) (λ t. let k : Some rest ≡ Some cs = rw t at is in let e : rest ≡ cs = cc in let l = ap length e in omega (arith, l)) (λ f. absurd (let k : Some rest ≡ None = rw f at is in cc))

-- ---- between filters

-- what is read where a filter may come, where this comes after a `(`, if one is there, and this after a `)`
abbrev pub between_reading : Frame → List Frame → Option (List ℕ) → Option (List ℕ) → Result Filter FilterFault
between_reading o frames (Some inner) closing =
    if takes_another o.connective o.filters then (if nat_lt (length (o ∷ frames)) deepest then read_from (Begun (o ∷ frames)) inner else Err TooDeep) else Err Syntax
between_reading o frames None (Some rest) = read_then (λ f. read_from (placed f frames) rest) (connected_or_fault o.connective o.filters)
between_reading o frames None None = Err Syntax

pub between-reads : (o : Frame) (frames : List Frame) (cs : List ℕ) → read_from (Between (o ∷ frames)) cs ≡ between_reading o frames (opened_rest cs) (closed_rest cs)
between-reads o frames [] = refl
between-reads o frames (c ∷ cs) =
    by_test (is_white c) (λ t. rw t (between-reads o frames cs))
    (λ f. by_test (c == left_parenthesis) (λ t. rw (f, t) refl) (λ g. by_test (c == right_parenthesis) (λ t. rw (f, g, t) refl) (λ h. rw (f, g, h) refl)))

abbrev pub outer_reading : Option (List ℕ) → Result Filter FilterFault
outer_reading (Some inner) = read_from (Begun []) inner
outer_reading None = Err Syntax

pub outer-reads : (cs : List ℕ) → read_from (Between []) cs ≡ outer_reading (opened_rest cs)
outer-reads [] = refl
outer-reads (c ∷ cs) = by_test (is_white c) (λ t. rw t (outer-reads cs)) (λ f. by_test (c == left_parenthesis) (λ t. rw (f, t) refl) (λ g. rw (f, g) refl))

pub after-nothing : (f : Filter) (cs : List ℕ) → trim_start cs ≡ [] → read_from (After f) cs ≡ Ok f
after-nothing f [] h = refl
after-nothing f (c ∷ cs) h = by_test (is_white c) (λ t. rw t (after-nothing f cs (rw t at h))) (λ g. let k : c ∷ cs ≡ [] = rw g at h in cc)

pub after-something : (f : Filter) (cs : List ℕ) → (trim_start cs ≡ [] → ⊥) → read_from (After f) cs ≡ Err Syntax
after-something f [] h = absurd (h refl)
after-something f (c ∷ cs) h = by_test (is_white c) (λ t. rw t (after-something f cs (λ e. h (rw t e)))) (λ g. rw g refl)

opened-shorter : (cs inner : List ℕ) → Some inner ≡ opened_rest cs → length inner < length cs
opened-shorter [] inner is = absurd (let k : Some inner ≡ None = is in cc)
opened-shorter (c ∷ cs) inner is =
    by_test (is_white c) (λ t. let k = opened-shorter cs inner (rw t at is) in omega (arith, k))
    (λ f. let k : Some inner ≡ rest_after (λ d. d == left_parenthesis) (c ∷ cs) = rw f at is in rest-shorter left_parenthesis (c ∷ cs) inner k)

closed-shorter : (cs rest : List ℕ) → Some rest ≡ closed_rest cs → length rest < length cs
closed-shorter [] rest is = absurd (let k : Some rest ≡ None = is in cc)
closed-shorter (c ∷ cs) rest is =
    by_test (is_white c) (λ t. let k = closed-shorter cs rest (rw t at is) in omega (arith, k))
    (λ f. let k : Some rest ≡ rest_after (λ d. d == right_parenthesis) (c ∷ cs) = rw f at is in rest-shorter right_parenthesis (c ∷ cs) rest k)

-- ---- filters in a frame

abbrev pub frame_of : Connective → List Tree → Frame
frame_of c ts = record { connective = c; filters = filters_in ts }

pub filters-added : (ts : List Tree) (t : Tree) → filters_in (ts ++ t ∷ []) ≡ filters_with (filters_in ts) (filter_of t)
filters-added [] t = refl
filters-added (u ∷ ts) t = ap (more (filter_of u)) (filters-added ts t)

greatest-added : (fs : Filters) (f : Filter) → greatest_depth (filters_with fs f) ≡ max (greatest_depth fs) (depth f)
greatest-added none f = omega arith
greatest-added (more g fs) f = let k = greatest-added fs f in omega (arith, k)

-- a filter is one level deeper than the deepest in it
connected-depth : (c : Connective) (fs : Filters) (f : Filter) → connected_or_fault c fs ≡ Ok f → depth f ≡ greatest_depth fs + 1
connected-depth And none f h = cc
connected-depth Or none f h = cc
connected-depth Not none f h = cc
connected-depth And (more g fs) f h = let e : all (more g fs) ≡ f = cc in let k = ap depth e in omega (arith, k)
connected-depth Or (more g fs) f h = let e : any (more g fs) ≡ f = cc in let k = ap depth e in omega (arith, k)
connected-depth Not (more g none) f h = let e : negated g ≡ f = cc in let k = ap depth e in omega (arith, k)
connected-depth Not (more g (more i fs)) f h = cc

-- so many frames
abbrev filled : ℕ → List Frame
filled zero = []
filled (suc n) = opened_frame And ∷ filled n

filled-length : (n : ℕ) → length (filled n) ≡ n
filled-length zero = refl
filled-length (suc n) = let k = filled-length n in omega (arith, k)

-- where reading of a filter of a level stands, with these filters in it, and these characters left
pub record IsSoFar (c : Connective) (cs : List ℕ) (level : ℕ) (ts : List Tree) (left : List ℕ) : Type 0 where
  pub same : (outer : List Frame) → length outer + 1 ≡ level → read_from (Between (opened_frame c ∷ outer)) cs ≡ read_from (Between (frame_of c ts ∷ outer)) left
  pub shallow : greatest_depth (filters_in ts) + level ≤ deepest
  pub within : length left ≤ length cs

module _ (c : Connective) (cs : List ℕ) (level : ℕ) (ts : List Tree) (left : List ℕ) (so_far : IsSoFar c cs level ts left) where
  pub inner-shorter : (inner : List ℕ) → Some inner ≡ opened_rest left → length inner < length cs
  inner-shorter inner is = let k = opened-shorter left inner is in let w = so_far.within in omega (arith, k, w)

  opened-reads : (inner : List ℕ) → Some inner ≡ opened_rest left → (outer : List Frame) → length outer + 1 ≡ level
      → read_from (Between (opened_frame c ∷ outer)) cs ≡ between_reading (frame_of c ts) outer (Some inner) (closed_rest left)
  opened-reads inner is outer at = so_far.same outer at ∙ between-reads (frame_of c ts) outer left ∙ ap (λ p. between_reading (frame_of c ts) outer p (closed_rest left)) (sym is)

  pub one-too-many : (inner : List ℕ) → Some inner ≡ opened_rest left → takes_another c (filters_in ts) ≡ false → (outer : List Frame) → length outer + 1 ≡ level
      → read_from (Between (opened_frame c ∷ outer)) cs ≡ Err Syntax
  one-too-many inner is full outer at = opened-reads inner is outer at ∙ rw full refl

  pub one-too-deep : (inner : List ℕ) → Some inner ≡ opened_rest left → takes_another c (filters_in ts) ≡ true → level ≡ deepest → (outer : List Frame) → length outer + 1 ≡ level
      → read_from (Between (opened_frame c ∷ outer)) cs ≡ Err TooDeep
  one-too-deep inner is room deep outer at =
      let no : nat_lt (length (frame_of c ts ∷ outer)) deepest ≡ false = grind (arith, at, deep) in opened-reads inner is outer at ∙ rw (room, no) refl

  begun-reads : (inner : List ℕ) → Some inner ≡ opened_rest left → takes_another c (filters_in ts) ≡ true → level < deepest → (outer : List Frame) → length outer + 1 ≡ level
      → read_from (Between (opened_frame c ∷ outer)) cs ≡ read_from (Begun (frame_of c ts ∷ outer)) inner
  begun-reads inner is room deep outer at =
      let yes : nat_lt (length (frame_of c ts ∷ outer)) deepest ≡ true = grind (arith, at, deep) in opened-reads inner is outer at ∙ rw (room, yes) refl

  pub inner-stops : (inner : List ℕ) (e : FilterFault) → Some inner ≡ opened_rest left → takes_another c (filters_in ts) ≡ true → level < deepest
      → ((frames : List Frame) → length frames + 1 ≡ level + 1 → IsFault e (read_from (Begun frames) inner)) → (outer : List Frame) → length outer + 1 ≡ level
      → IsFault e (read_from (Between (opened_frame c ∷ outer)) cs)
  inner-stops inner e is room deep stops outer at =
      fault-same e (read_from (Begun (frame_of c ts ∷ outer)) inner) (read_from (Between (opened_frame c ∷ outer)) cs) (begun-reads inner is room deep outer at)
      (stops (frame_of c ts ∷ outer) (omega (arith, at)))

  pub one-added : (inner rest : List ℕ) (t : Tree) (new : List Tree) → Some inner ≡ opened_rest left → takes_another c (filters_in ts) ≡ true → level < deepest
      → ((frames : List Frame) → length frames + 1 ≡ level + 1 → (read_from (Begun frames) inner ≡ read_from (placed (filter_of t) frames) rest) × (depth (filter_of t) + length frames ≤ deepest))
      → length rest < length inner → new ≡ ts ++ t ∷ [] → IsSoFar c cs level new rest
  one-added inner rest t new is room deep reads shorter added =
      let d = (reads (filled level) (ap (λ n. n + 1) (filled-length level))).1 in
      subst (λ us. IsSoFar c cs level us rest) (sym added) (record {
        same = λ outer at.
            begun-reads inner is room deep outer at ∙ (reads (frame_of c ts ∷ outer) (omega (arith, at))).0
            ∙ ap (λ fs. read_from (Between (record { connective = c; filters = fs } ∷ outer)) rest) (sym (filters-added ts t));
        shallow =
            let k = ap greatest_depth (filters-added ts t) ∙ greatest-added (filters_in ts) (filter_of t) in
            let l = filled-length level in
            let w = so_far.shallow in
            omega (arith, k, d, l, w);
        within = let k = opened-shorter left inner is in let w = so_far.within in omega (arith, k, w, shorter);
      })

  pub unclosed-stops : None ≡ opened_rest left → None ≡ closed_rest left → (outer : List Frame) → length outer + 1 ≡ level → read_from (Between (opened_frame c ∷ outer)) cs ≡ Err Syntax
  unclosed-stops no_more no_end outer at =
      so_far.same outer at ∙ between-reads (frame_of c ts) outer left ∙ ap (λ p. between_reading (frame_of c ts) outer p (closed_rest left)) (sym no_more) ∙ ap (between_reading (frame_of c ts) outer None) (sym no_end)

  closed-reads : (rest : List ℕ) → None ≡ opened_rest left → Some rest ≡ closed_rest left → (outer : List Frame) → length outer + 1 ≡ level
      → read_from (Between (opened_frame c ∷ outer)) cs ≡ read_then (λ f. read_from (placed f outer) rest) (connected_or_fault c (filters_in ts))
  closed-reads rest no_more end outer at =
      so_far.same outer at ∙ between-reads (frame_of c ts) outer left ∙ ap (λ p. between_reading (frame_of c ts) outer p (closed_rest left)) (sym no_more) ∙ ap (between_reading (frame_of c ts) outer None) (sym end)

  pub connected-stops : (rest : List ℕ) (e : FilterFault) → None ≡ opened_rest left → Some rest ≡ closed_rest left → IsFault e (connected_or_fault c (filters_in ts)) → (outer : List Frame) → length outer + 1 ≡ level
      → IsFault e (read_from (Between (opened_frame c ∷ outer)) cs)
  connected-stops rest e no_more end stops outer at =
      fault-same e (read_then (λ f. read_from (placed f outer) rest) (connected_or_fault c (filters_in ts))) (read_from (Between (opened_frame c ∷ outer)) cs) (closed-reads rest no_more end outer at)
      (fault-then (λ f. read_from (placed f outer) rest) e (connected_or_fault c (filters_in ts)) stops)

  pub connected-reads : (rest : List ℕ) (f : Filter) → None ≡ opened_rest left → Some rest ≡ closed_rest left → connected_or_fault c (filters_in ts) ≡ Ok f → (outer : List Frame) → length outer + 1 ≡ level
      → read_from (Between (opened_frame c ∷ outer)) cs ≡ read_from (placed f outer) rest
  connected-reads rest f no_more end ok outer at = closed-reads rest no_more end outer at ∙ ap (read_then (λ g. read_from (placed g outer) rest)) ok

  pub connected-shallow : (f : Filter) → connected_or_fault c (filters_in ts) ≡ Ok f → depth f + level ≤ deepest + 1
  connected-shallow f ok = let k = connected-depth c (filters_in ts) f ok in let w = so_far.shallow in omega (arith, k, w)

  pub rest-left : (rest : List ℕ) → Some rest ≡ closed_rest left → length rest < length cs
  rest-left rest is = let k = closed-shorter left rest is in let w = so_far.within in omega (arith, k, w)

pub below : (n m : ℕ) → n ≤ m → (n ≡ m → ⊥) → n < m
below n m le other = omega (arith, le, other)

pub turn-shorter : (left inner rest : List ℕ) → Some inner ≡ opened_rest left → length rest < length inner → length rest < length left
turn-shorter left inner rest is h = let k = opened-shorter left inner is in omega (arith, k, h)

-- ---- the whole filter

pub whole-unopened : (cs : List ℕ) → None ≡ opened_rest cs → read_from (Between []) cs ≡ Err Syntax
whole-unopened cs is = outer-reads cs ∙ ap outer_reading (sym is)

whole-opened : (cs inner : List ℕ) → Some inner ≡ opened_rest cs → read_from (Between []) cs ≡ read_from (Begun []) inner
whole-opened cs inner is = outer-reads cs ∙ ap outer_reading (sym is)

pub whole-stops : (cs inner : List ℕ) (e : FilterFault) → Some inner ≡ opened_rest cs → IsFault e (read_from (Begun []) inner) → IsFault e (read_from (Between []) cs)
whole-stops cs inner e is stops = fault-same e (read_from (Begun []) inner) (read_from (Between []) cs) (whole-opened cs inner is) stops

pub whole-reads : (cs inner rest trimmed : List ℕ) (f : Filter) → Some inner ≡ opened_rest cs → read_from (Begun []) inner ≡ read_from (After f) rest → trimmed ≡ trim_start rest → trimmed ≡ [] → read_from (Between []) cs ≡ Ok f
whole-reads cs inner rest trimmed f is reads trim empty = whole-opened cs inner is ∙ reads ∙ after-nothing f rest (sym trim ∙ empty)

pub whole-followed : (cs inner rest trimmed : List ℕ) (f : Filter) → Some inner ≡ opened_rest cs → read_from (Begun []) inner ≡ read_from (After f) rest → trimmed ≡ trim_start rest → (trimmed ≡ [] → ⊥)
    → read_from (Between []) cs ≡ Err Syntax
whole-followed cs inner rest trimmed f is reads trim some = whole-opened cs inner is ∙ reads ∙ after-something f rest (λ e. some (trim ∙ e))
