-- The order of values: by kind, and then by what they are.
use Rattle.std.specs.Prelude.{◌≡◌, ◌≤◌, ℕ, ℤ, pos, false, List, [], if◌then◌else◌}
use Rattle.std.specs.Ordering.{int_cmp, is_lt, nat_cmp, ordering_index, ordering_then}
use Rattle.std.specs.declared.cmp.Ordering.{Ordering}
use Rattle.slp_text.specs.Keys.{key_of}
use Rattle.slp_text.specs.Words.{bytes_cmp}
use Rattle.attr_values.specs.declared.value.Value.{Value}
use Rattle.attr_values.specs.declared.value.Value.TheVariants as value

-- a kind, a number and bytes
abbrev pub Rank : Type 0
Rank = ℕ × ℤ × List ℕ

-- truths come first, then numbers, opaque values and texts; texts go by their keys
abbrev pub rank_of : Value → Rank
rank_of (value.Bool b) = (0, if b then pos 1 else pos 0, [])
rank_of (value.Int n) = (1, n, [])
rank_of (value.Opaque bytes) = (2, pos 0, bytes)
rank_of (value.Text t) = (3, pos 0, key_of t)

abbrev pub rank_cmp : Rank → Rank → Ordering
rank_cmp a b = ordering_then (nat_cmp a.0 b.0) (ordering_then (int_cmp a.1 b.1) (bytes_cmp a.2 b.2))

abbrev pub value_cmp : Value → Value → Ordering
value_cmp v w = rank_cmp (rank_of v) (rank_of w)

-- where values stand does not fall along their order
abbrev pub Rises : (Value → Ordering) → Type 0
Rises stand = (v w : Value) → is_lt (value_cmp w v) ≡ false → ordering_index (stand v) ≤ ordering_index (stand w)
