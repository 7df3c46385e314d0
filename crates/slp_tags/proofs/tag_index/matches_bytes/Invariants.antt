use Rattle.std.proofs.Common.{◌≡◌, drop}
use Rattle.slp_tags.specs.Searches.{finds}
use Rattle.slp_tags.specs.Tags.{is_match}
use Rattle.slp_tags.proofs.tag_index.matches_bytes.Given as goal

-- what is still to come decides as all of it
abbrev pub invariant-loop-b : goal.invariant-loop-b
invariant-loop-b l = finds l.search (drop l.b-index l.bytes) ≡ is_match l.signs l.bytes
