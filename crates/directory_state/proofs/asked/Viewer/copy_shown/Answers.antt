use Rattle.std.proofs.Common.{◌≡◌, sym, subst}
use Rattle.std.specs.Prelude.{IfOk}
use Rattle.directory_state.proofs.ShownEntries.{all-whole}
use Rattle.directory_state.proofs.asked.Viewer.copy_shown.Goals as goal

pub returns-in_default : goal.returns-in_default
returns-in_default c = subst (λ a. IfOk c.copy.result (λ x. x ≡ a)) (sym (all-whole c.args.self.now c.args.seen.entry.now c.in_default.ensures)) c.copy.ensures
