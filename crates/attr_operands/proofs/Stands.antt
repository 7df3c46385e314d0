-- Where values stand to an operand does not fall along their order.
use Rattle.std.proofs.Common.{◌≡◌, ◌≤◌, ℕ, Bool, true, false, refl, sym, ap, subst₂, ◌∙◌, arith}
use Rattle.std.specs.Prelude.{◌&&◌, ◌==◌, not, if◌then◌else◌}
use mathlib.Core.Bool.{true≢false}
use Rattle.std.specs.Cmp.{int_cmp_total}
use Rattle.std.specs.Cmp.Lexicographic.{texts_ties}
use Rattle.std.specs.Ordering.{int_cmp, is_eq, is_ge, is_gt, is_le, is_lt, ordering_index, ordering_reverse, ordering_then}
use Rattle.std.specs.declared.cmp.Ordering.{Ordering}
use Rattle.std.specs.declared.cmp.Ordering.TheVariants.{Less, Equal, Greater}
use Rattle.std.proofs.lemmas.Bool.{and_parts}
use Rattle.std.proofs.lemmas.Cmp.{nat_list_cmp_total}
use borrow.Author.Tests.{eqb-true}
use Rattle.slp_text.specs.Keys.{key_of}
use Rattle.slp_text.specs.Words.{bytes_cmp}
use Rattle.attr_values.proofs.Ranks.{kind-falls, kind-rises, rank-rises}
use Rattle.attr_values.specs.Ranks.{rank_of, value_cmp, Rises}
use Rattle.attr_values.specs.declared.value.Value.{Value}
use Rattle.attr_values.specs.declared.value.Value.TheVariants as value
use Rattle.attr_operands.specs.Operands.{is_at_least, is_at_most, is_equal, operand_rank, stand_at_least, stand_at_most, stand_of}
use Rattle.attr_operands.specs.declared.operand.Operand.{Operand}
use Rattle.attr_operands.specs.declared.operand.Operand.TheVariants as operand

pub stand-rises : (o : Operand) → Rises (stand_of o)
stand-rises o v w h = rank-rises (rank_of v) (rank_of w) (operand_rank o) h

-- of a kind whose values come before and after one another
abbrev ranges : Operand → Bool
ranges (operand.Int n) = true
ranges (operand.Text k) = true
ranges _ = false

abbrev is_alike : Operand → Value → Bool
is_alike o v = ranges o && ((rank_of v).0 == (operand_rank o).0)

from : (o : Ordering) → is_le (ordering_reverse o) ≡ not (is_lt (ordering_then o Equal))
from Less = refl
from Equal = refl
from Greater = refl

to : (o : Ordering) → is_le o ≡ not (is_gt (ordering_then o Equal))
to Less = refl
to Equal = refl
to Greater = refl

from_text : (o : Ordering) → is_ge o ≡ not (is_lt o)
from_text Less = refl
from_text Equal = refl
from_text Greater = refl

to_text : (o : Ordering) → is_le o ≡ not (is_gt o)
to_text Less = refl
to_text Equal = refl
to_text Greater = refl

alike_true : (b : Bool) → b ≡ b && true
alike_true true = refl
alike_true false = refl

none : (b : Bool) → false ≡ b && false
none true = refl
none false = refl

at_least-is : (o : Operand) (v : Value) → is_at_least o v ≡ not (is_lt (stand_of o v)) && is_alike o v
at_least-is (operand.Int a) (value.Int b) = ap is_le (int_cmp_total.antisymm a b) ∙ from (int_cmp b a) ∙ alike_true _
at_least-is (operand.Text k) (value.Text t) = from_text (bytes_cmp (key_of t) k) ∙ alike_true _
at_least-is o v = none (not (is_lt (stand_of o v)))

at_most-is : (o : Operand) (v : Value) → is_at_most o v ≡ not (is_gt (stand_of o v)) && is_alike o v
at_most-is (operand.Int a) (value.Int b) = to (int_cmp b a) ∙ alike_true _
at_most-is (operand.Text k) (value.Text t) = to_text (bytes_cmp (key_of t) k) ∙ alike_true _
at_most-is o v = none (not (is_gt (stand_of o v)))

-- ---- what holds of a value that is not before another

abbrev least : Bool → Ordering → Ordering
least m t = if not (is_lt t) && m then Equal else (if is_lt t then Less else Greater)

abbrev most : Bool → Ordering → Ordering
most m t = if not (is_gt t) && m then Equal else (if is_gt t then Greater else Less)

least-rises : (t s : Ordering) (m n : Bool) → ordering_index t ≤ ordering_index s → (is_lt t ≡ false → n ≡ true → m ≡ true) → ordering_index (least m t) ≤ ordering_index (least n s)
least-rises Less s m n h k = omega arith
least-rises Equal Less m n h k = absurd (omega (arith, h))
least-rises Equal Equal true true h k = omega arith
least-rises Equal Equal true false h k = omega arith
least-rises Equal Equal false true h k = absurd (true≢false (sym (k refl refl)))
least-rises Equal Equal false false h k = omega arith
least-rises Equal Greater true true h k = omega arith
least-rises Equal Greater true false h k = omega arith
least-rises Equal Greater false true h k = absurd (true≢false (sym (k refl refl)))
least-rises Equal Greater false false h k = omega arith
least-rises Greater Less m n h k = absurd (omega (arith, h))
least-rises Greater Equal m n h k = absurd (omega (arith, h))
least-rises Greater Greater true true h k = omega arith
least-rises Greater Greater true false h k = omega arith
least-rises Greater Greater false true h k = absurd (true≢false (sym (k refl refl)))
least-rises Greater Greater false false h k = omega arith

most-rises : (t s : Ordering) (m n : Bool) → ordering_index t ≤ ordering_index s → (is_gt s ≡ false → m ≡ true → n ≡ true) → ordering_index (most m t) ≤ ordering_index (most n s)
most-rises t Greater m n h k = below (most m t)
  where
    below : (o : Ordering) → ordering_index o ≤ 2
    below Less = omega arith
    below Equal = omega arith
    below Greater = omega arith
most-rises Greater Less m n h k = absurd (omega (arith, h))
most-rises Greater Equal m n h k = absurd (omega (arith, h))
most-rises Less Less true true h k = omega arith
most-rises Less Less true false h k = absurd (true≢false (sym (k refl refl)))
most-rises Less Less false n h k = omega arith
most-rises Less Equal true true h k = omega arith
most-rises Less Equal true false h k = absurd (true≢false (sym (k refl refl)))
most-rises Less Equal false n h k = omega arith
most-rises Equal Less m n h k = absurd (omega (arith, h))
most-rises Equal Equal true true h k = omega arith
most-rises Equal Equal true false h k = absurd (true≢false (sym (k refl refl)))
most-rises Equal Equal false n h k = omega arith

-- a value between one that is alike and the operand is alike
alike : (r : Bool) (a b x : ℕ) → a ≡ b → r && (b == x) ≡ true → r && (a == x) ≡ true
alike r a b x e h = ap (λ n. r && (n == x)) e ∙ h

least-alike : (o : Operand) (v w : Value) → is_lt (value_cmp w v) ≡ false → is_lt (stand_of o v) ≡ false → is_alike o w ≡ true → is_alike o v ≡ true
least-alike o v w h k e =
    let is : (rank_of w).0 ≡ (operand_rank o).0 = eqb-true _ _ ((and_parts (ranges o) _ e).1) in
    let below : (operand_rank o).0 ≤ (rank_of v).0 = kind-rises (operand_rank o) (rank_of v) k in
    let above : (rank_of v).0 ≤ (rank_of w).0 = kind-rises (rank_of v) (rank_of w) h in
    alike (ranges o) (rank_of v).0 (rank_of w).0 (operand_rank o).0 (omega (arith, is, below, above)) e

most-alike : (o : Operand) (v w : Value) → is_lt (value_cmp w v) ≡ false → is_gt (stand_of o w) ≡ false → is_alike o v ≡ true → is_alike o w ≡ true
most-alike o v w h k e =
    let is : (rank_of v).0 ≡ (operand_rank o).0 = eqb-true _ _ ((and_parts (ranges o) _ e).1) in
    let below : (rank_of w).0 ≤ (operand_rank o).0 = kind-falls (rank_of w) (operand_rank o) k in
    let above : (rank_of v).0 ≤ (rank_of w).0 = kind-rises (rank_of v) (rank_of w) h in
    alike (ranges o) (rank_of w).0 (rank_of v).0 (operand_rank o).0 (omega (arith, is, below, above)) e

least-is : (o : Operand) (v : Value) → stand_at_least o v ≡ least (is_alike o v) (stand_of o v)
least-is o v = ap (λ b. if b then Equal else (if is_lt (stand_of o v) then Less else Greater)) (at_least-is o v)

most-is : (o : Operand) (v : Value) → stand_at_most o v ≡ most (is_alike o v) (stand_of o v)
most-is o v = ap (λ b. if b then Equal else (if is_gt (stand_of o v) then Greater else Less)) (at_most-is o v)

pub at_least-rises : (o : Operand) → Rises (stand_at_least o)
at_least-rises o v w h =
    subst₂ (λ a b. ordering_index a ≤ ordering_index b) (sym (least-is o v)) (sym (least-is o w))
    (least-rises (stand_of o v) (stand_of o w) (is_alike o v) (is_alike o w) (stand-rises o v w h) (λ k e. least-alike o v w h k e))

pub at_most-rises : (o : Operand) → Rises (stand_at_most o)
at_most-rises o v w h =
    subst₂ (λ a b. ordering_index a ≤ ordering_index b) (sym (most-is o v)) (sym (most-is o w))
    (most-rises (stand_of o v) (stand_of o w) (is_alike o v) (is_alike o w) (stand-rises o v w h) (λ k e. most-alike o v w h k e))

-- ---- which values are those

whole : (o : Ordering) → is_eq (ordering_then o Equal) ≡ is_eq o
whole Less = refl
whole Equal = refl
whole Greater = refl

turned : (o : Ordering) → is_eq o ≡ is_eq (ordering_reverse o)
turned Less = refl
turned Equal = refl
turned Greater = refl

picked : (b c : Bool) → is_eq (if b then Equal else (if c then Less else Greater)) ≡ b
picked true c = refl
picked false true = refl
picked false false = refl

picked_last : (b c : Bool) → is_eq (if b then Equal else (if c then Greater else Less)) ≡ b
picked_last true c = refl
picked_last false true = refl
picked_last false false = refl

pub is_equal-stands : (o : Operand) (v : Value) → is_eq (stand_of o v) ≡ is_equal o v
is_equal-stands (operand.Bool true) (value.Bool true) = refl
is_equal-stands (operand.Bool true) (value.Bool false) = refl
is_equal-stands (operand.Bool false) (value.Bool true) = refl
is_equal-stands (operand.Bool false) (value.Bool false) = refl
is_equal-stands (operand.Int a) (value.Int b) = whole (int_cmp b a) ∙ turned (int_cmp b a) ∙ ap is_eq (sym (int_cmp_total.antisymm a b))
is_equal-stands (operand.Opaque a) (value.Opaque b) = turned (bytes_cmp b a) ∙ ap is_eq (sym (nat_list_cmp_total.antisymm a b)) ∙ sym (texts_ties a b)
is_equal-stands (operand.Text k) (value.Text t) = refl
is_equal-stands _ _ = refl

pub at_least-stands : (o : Operand) (v : Value) → is_eq (stand_at_least o v) ≡ is_at_least o v
at_least-stands o v = picked (is_at_least o v) (is_lt (stand_of o v))

pub at_most-stands : (o : Operand) (v : Value) → is_eq (stand_at_most o v) ≡ is_at_most o v
at_most-stands o v = picked_last (is_at_most o v) (is_gt (stand_of o v))
