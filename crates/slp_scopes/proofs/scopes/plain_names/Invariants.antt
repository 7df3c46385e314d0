use Rattle.std.proofs.Common.{◌≡◌, true, ◌++◌, length}
use Rattle.std.specs.List.{list_all}
use Rattle.slp_text.specs.Keys.{is_word_byte}
use Rattle.slp_scopes.proofs.PlainScopes.{names_in}
use Rattle.slp_scopes.proofs.scopes.plain_names.Given as goal

-- the names that are taken, and those that are still to come
abbrev pub invariant-loop-word : goal.invariant-loop-word
invariant-loop-word l = (names_in l.text ≡ l.keys.items ++ names_in l.rest) × (list_all is_word_byte l.rest ≡ true)

abbrev pub decreases-loop-word : goal.decreases-loop-word
decreases-loop-word l = length l.rest
