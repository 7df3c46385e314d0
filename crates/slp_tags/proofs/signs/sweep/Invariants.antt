use Rattle.std.proofs.Common.{take}
use Rattle.slp_tags.specs.SignCodes.{signs_in}
use Rattle.slp_tags.proofs.SweptTexts.{IsSwept}
use Rattle.slp_tags.proofs.signs.sweep.Given as goal

-- the bytes so far are taken
abbrev pub invariant-loop-i : goal.invariant-loop-i
invariant-loop-i l = IsSwept (signs_in l.codes) l.fn.came l.came (take l.i l.bytes)
