-- What values are compared with, and how (RFC 2608, section 8.1).
use Rattle.std.specs.Prelude.{Bool, false, not, ◌&&◌, ◌||◌, [], pos, if◌then◌else◌}
use Rattle.std.specs.Ordering.{int_cmp, int_eq, is_eq, is_ge, is_gt, is_le, is_lt}
use Rattle.std.specs.declared.cmp.Ordering.{Ordering}
use Rattle.std.specs.declared.cmp.Ordering.TheVariants.{Less, Equal, Greater}
use Rattle.slp_text.specs.Keys.{key_of}
use Rattle.slp_text.specs.Words.{bytes_cmp, bytes_eq}
use Rattle.attr_values.specs.Ranks.{rank_cmp, rank_of, Rank}
use Rattle.attr_values.specs.declared.value.Value.{Value}
use Rattle.attr_values.specs.declared.value.Value.TheVariants as value
use Rattle.attr_operands.specs.declared.operand.Operand.{Operand}
use Rattle.attr_operands.specs.declared.operand.Operand.TheVariants as operand

-- what values are compared with: of a text its key
abbrev pub operand_of : Value → Operand
operand_of (value.Bool b) = operand.Bool b
operand_of (value.Int n) = operand.Int n
operand_of (value.Opaque bytes) = operand.Opaque bytes
operand_of (value.Text t) = operand.Text (key_of t)

-- of the operand's kind, and the same: texts by their keys
abbrev pub is_equal : Operand → Value → Bool
is_equal (operand.Bool a) (value.Bool b) = (a && b) || not (a || b)
is_equal (operand.Int a) (value.Int b) = int_eq a b
is_equal (operand.Opaque a) (value.Opaque b) = bytes_eq a b
is_equal (operand.Text k) (value.Text t) = is_eq (bytes_cmp (key_of t) k)
is_equal _ _ = false

-- both numbers or both texts, and the value is the operand or after it
abbrev pub is_at_least : Operand → Value → Bool
is_at_least (operand.Int a) (value.Int b) = is_le (int_cmp a b)
is_at_least (operand.Text k) (value.Text t) = is_ge (bytes_cmp (key_of t) k)
is_at_least _ _ = false

-- both numbers or both texts, and the value is the operand or before it
abbrev pub is_at_most : Operand → Value → Bool
is_at_most (operand.Int a) (value.Int b) = is_le (int_cmp b a)
is_at_most (operand.Text k) (value.Text t) = is_le (bytes_cmp (key_of t) k)
is_at_most _ _ = false

-- ---- where a value stands, in the order of values

-- the rank of the values that are the same as the operand
abbrev pub operand_rank : Operand → Rank
operand_rank (operand.Bool b) = (0, if b then pos 1 else pos 0, [])
operand_rank (operand.Int n) = (1, n, [])
operand_rank (operand.Opaque bytes) = (2, pos 0, bytes)
operand_rank (operand.Text k) = (3, pos 0, k)

-- before the operand, the same, or after it
abbrev pub stand_of : Operand → Value → Ordering
stand_of o v = rank_cmp (rank_of v) (operand_rank o)

-- before those that are the operand or after it, one of them, or after them all
abbrev pub stand_at_least : Operand → Value → Ordering
stand_at_least o v = if is_at_least o v then Equal else (if is_lt (stand_of o v) then Less else Greater)

-- before those that are the operand or before it, one of them, or after them all
abbrev pub stand_at_most : Operand → Value → Ordering
stand_at_most o v = if is_at_most o v then Equal else (if is_gt (stand_of o v) then Greater else Less)
