use Rattle.std.proofs.Common.{None, Result, Option, refl, sym, ap, subst, ◌∙◌, inl}
use Rattle.std.specs.Borrow.{Bor}
use Rattle.std.proofs.lemmas.List.{append-nil}
use Rattle.directory_questions.specs.declared.heard.Heard.{Heard}
use Rattle.slp_replies.specs.declared.answer.Sent.{Sent}
use Rattle.published_view.specs.declared.fault.ViewFault.{ViewFault}
use Rattle.slp_loops.specs.Desks.{heard_lent, line_told}
use Rattle.loop_log.specs.Logging.{Lined}
use Rattle.slp_loops.proofs.desk.Desk.tell.Goals as goal

pub returns-in_default-clause-lined : goal.returns-in_default-clause-lined
returns-in_default-clause-lined g c =
    let lines = c.args.self.now.lines in
    subst (λ l. Lined g.L.Log.writes lines l lines)
    (sym (ap (λ (h : Option (Bor Heard)). line_told (heard_lent h) c.args.told c.args.answer.now) c.in_default.is ∙ ap (λ (r : Result Sent ViewFault). line_told None r c.args.answer.now) c.in-Err.is))
    (inl (sym (append-nil lines.waiting), refl))
