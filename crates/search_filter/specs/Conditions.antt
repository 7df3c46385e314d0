-- Which values meet the condition of an item, and on which attributes an item and its negation hold (RFC 2608, section 8.1).
use Rattle.std.specs.Prelude.{Bool, false, true, not, Option, Some, None}
use Rattle.std.specs.FinMap as fin
use Rattle.std.specs.List.{list_any}
use Rattle.text_patterns.specs.Patterns.{matches_key}
use Rattle.attr_values.specs.declared.value.Value.{Value}
use Rattle.attr_values.specs.declared.value.Value.TheVariants as value
use Rattle.attr_list.specs.Lists.{Attributes}
use Rattle.attr_list.specs.declared.held.Held.{Held}
use Rattle.attr_list.specs.declared.held.Held.TheVariants.{Keyword, Values}
use Rattle.search_filter.specs.declared.item.Condition.{Condition}
use Rattle.search_filter.specs.declared.item.Condition.TheVariants.{Present, Equal, AtLeast, AtMost, Like}
use Rattle.search_filter.specs.declared.item.Item.{Item}
use Rattle.attr_operands.specs.Operands.{is_equal, is_at_least, is_at_most}

-- the value meets the condition; each value is there
abbrev pub meets : Condition → Value → Bool
meets Present v = true
meets (Equal o) v = is_equal o v
meets (AtLeast o) v = is_at_least o v
meets (AtMost o) v = is_at_most o v
meets (Like pattern) (value.Text t) = matches_key pattern t
meets (Like pattern) _ = false

-- what a tag holds, if it is there, has some value that meets the condition; that it is there is met by a keyword, too
abbrev pub is_met : Condition → Option Held → Bool
is_met c None = false
is_met Present (Some held) = true
is_met c (Some Keyword) = false
is_met c (Some (Values vs)) = list_any (meets c) vs

-- the tag is not there, or is a keyword, or has some value that does not meet the condition; that it is there is missed only
-- where it is not
abbrev pub is_missed : Condition → Option Held → Bool
is_missed c None = true
is_missed Present (Some held) = false
is_missed c (Some Keyword) = true
is_missed c (Some (Values vs)) = list_any (λ v. not (meets c v)) vs

-- an item holds on attributes
abbrev pub item_holds : Item → Attributes → Bool
item_holds i a = is_met i.condition (fin.get a i.tag)

-- the negation of an item does
abbrev pub negated_item_holds : Item → Attributes → Bool
negated_item_holds i a = is_missed i.condition (fin.get a i.tag)
