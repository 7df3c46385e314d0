use Rattle.std.proofs.Common.{◌≡◌, drop}
use Rattle.std.specs.FinMap as fin
use Rattle.slp_text.specs.Words.{bytes_cmp}
use Rattle.attr_list.specs.Stored.{pairs_in}
use Rattle.attr_list.proofs.attrs.Attrs.found.Given as goal

-- what is left has what all has
abbrev pub invariant-loop-place : goal.invariant-loop-place
invariant-loop-place l = fin.find bytes_cmp l.tag (pairs_in (drop l.place l.entries)) ≡ fin.find bytes_cmp l.tag (pairs_in l.entries)
