use Rattle.std.proofs.Common.{◌≡◌, length}
use Rattle.slp_tags.specs.Searches.{finds}
use Rattle.text_patterns.specs.Characters.{characters_left}
use Rattle.text_patterns.specs.Patterns.{matches_key}
use Rattle.text_patterns.proofs.patterns.Pattern.matches.Given as goal

-- what is left of the text decides as all of it
abbrev pub invariant-loop-c : goal.invariant-loop-c
invariant-loop-c l = finds l.search (characters_left l.characters) ≡ matches_key l.self l.text

abbrev pub decreases-loop-c : goal.decreases-loop-c
decreases-loop-c l = length (characters_left l.characters)
