use Rattle.std.proofs.Common.{◌≡◌, ◌<◌, ℕ, [], false, get_or}
use Rattle.std.specs.List.{list_any}
use Rattle.access_rules.specs.Deciding.{may_show, part_in, rules_in}
use Rattle.directory_state.proofs.asked.Viewer.may_see.Given as goal

-- in none so far
abbrev pub invariant-loop-place : goal.invariant-loop-place
invariant-loop-place l = (k : ℕ) → k < l.place → list_any (may_show l.self.asker l.kind (get_or l.self.asked k [])) (rules_in (part_in l.self.about)) ≡ false
