use Rattle.slp_tags.specs.SignCodes.{signs_in}
use Rattle.slp_tags.proofs.Falls.{AreSoFar}
use Rattle.slp_tags.proofs.signs.falls_of.Given as goal

-- the falls so far, and the piece that begins last
abbrev pub invariant-loop-i : goal.invariant-loop-i
invariant-loop-i l = AreSoFar (signs_in l.codes) l.i l.start l.falls.items
