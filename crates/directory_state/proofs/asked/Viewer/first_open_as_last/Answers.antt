use Rattle.std.proofs.Common.{sym, subst, ◌∙◌}
use Rattle.std.specs.Prelude.{IfSome}
use Rattle.directory_state.specs.Searches.{IsLook}
use Rattle.directory_state.proofs.ShownEntries.{first-alike}
use Rattle.directory_state.proofs.asked.Viewer.first_open_as_last.Goals as goal

pub returns-clause-first : goal.returns-clause-first
returns-clause-first c =
    first-alike c.args.self.now c.in-Some.look.entry.now c.args.entry.now c.in-Some.look.first (sym c.are_alike.ensures ∙ c.if-are_alike.true)
    (subst (λ o. IfSome o (IsLook c.args.self.now)) c.in-Some.is c.requires)
