-- Two lists of attributes in key order as one.
use Rattle.std.specs.Prelude.{List, [], ◌∷◌}
use Rattle.std.specs.Ordering.{match_ordering}
use Rattle.slp_text.specs.Words.{bytes_cmp}
use Rattle.attr_list.specs.declared.attrs.Attribute.{Attribute}

-- the lesser tag comes first, and a tag that both have is as the second list has it
abbrev pub merged : List Attribute → List Attribute → List Attribute
merged [] added = added
merged list [] = list
merged (a ∷ list) (b ∷ added) = match_ordering (bytes_cmp a.tag b.tag) (a ∷ merged list (b ∷ added)) (b ∷ merged list added) (b ∷ merged (a ∷ list) added)
