-- The parts of a list of tags, as they are looked up: those without a star as words, the others as patterns.
use Rattle.std.specs.Prelude.{◌≡◌, ℕ, Bool, ◌||◌, List}
use Rattle.std.specs.List.{list_any}
use Rattle.std.specs.BTreeSet.{contains_by}
use Rattle.slp_tags.specs.Tags.{Part, is_match}
use Rattle.slp_text.specs.Words.{bytes_cmp}
use Rattle.slp_tags.specs.declared.tag_index.TagIndex.{TagIndex}

-- the tag is a word, or matches a pattern
abbrev pub is_found : TagIndex → List ℕ → Bool
is_found index tag = contains_by (λ word. bytes_cmp tag word.items) index.words || list_any (λ signs. is_match signs tag) index.patterns.items

-- a tag is found where some part matches it
abbrev pub IsIndex : TagIndex → List Part → Type 0
IsIndex index parts = (tag : List ℕ) → is_found index tag ≡ list_any (λ part. is_match part tag) parts
