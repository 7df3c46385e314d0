use Rattle.std.proofs.Common.{◌≡◌, None, false, length}
use Rattle.slp_text.specs.Squeezing.{squeezed_left}
use Rattle.text_patterns.specs.Characters.{folded_left}
use Rattle.text_patterns.proofs.characters.KeyCharacters.next.Given as goal

-- what is left of the folded text still gives all that was left of the key
abbrev pub invariant-loop-c : goal.invariant-loop-c
invariant-loop-c l =
    (l.self.ahead ≡ None) × (squeezed_left l.self.begun l.gap (folded_left l.self) ≡ squeezed_left l.initial.self.begun false (folded_left l.initial.self))

abbrev pub decreases-loop-c : goal.decreases-loop-c
decreases-loop-c l = length (folded_left l.self)
