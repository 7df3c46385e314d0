use Rattle.std.proofs.Common.{◌≡◌, ℕ, List, map, encode_utf8_all}
use Rattle.std.specs.Str.Iter.{chars_rest}
use Rattle.slp_tags.specs.Tags.{tags_of}
use Rattle.slp_text.proofs.Readers.{Follows}
use Rattle.slp_text.proofs.Lists.{list_parts}
use Rattle.slp_tags.proofs.SignReaders.{signs_in_tags}
use Rattle.slp_tags.proofs.TagLists.{tagged}
use Rattle.slp_tags.proofs.tags.parts_of.Given as goal

-- what is there and what is still to come are the parts
abbrev pub invariant-loop-c : goal.invariant-loop-c
invariant-loop-c l =
    (cs : List ℕ) × (encode_utf8_all cs ≡ chars_rest l.c-iterator)
    × Follows (list_parts signs_in_tags) (tagged (map (λ p. p.items) l.parts.items) l.gap l.part.items) l.stage cs (tags_of l.fn.text)
