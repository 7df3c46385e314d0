use Rattle.std.proofs.Common.{sym, subst}
use Rattle.std.proofs.lemmas.Result.{IfOk-weaker}
use Rattle.directory_questions.specs.Calls.{call_in}
use Rattle.slp_answer.specs.Answers.{Replies}
use Rattle.slp_replies.specs.declared.answer.Sent.{Sent}
use Rattle.slp_answer.proofs.AnswersTold.{unheard-replies}
use Rattle.published_view.specs.Rules.{call_heard, IsQuestion}
use Rattle.published_view.specs.Traces.{last_at}
use Rattle.published_view.proofs.view.LoopView.hear.Goals as goal

pub returns-in-Err-clause-told : goal.returns-in-Err-clause-told
returns-in-Err-clause-told g c =
    let o = g.J.Naming.opening in
    let h = last_at c.hear_nothing.new.self in
    let answer = c.clear.new.self in
    let unheard = unheard-replies o h (call_in c.in-Err.call.now) answer.bytes.items answer.audit.items (subst IsQuestion c.in-Err.is c.requires) c.clear.ensures.bytes c.clear.ensures.audit in
    IfOk-weaker c.hear_nothing.result _ _
    (λ what silent. subst (λ q. Replies o h (call_heard q) what answer.bytes.items answer.audit.items) (sym c.in-Err.is) (subst (λ (s : Sent). Replies o h (call_in c.in-Err.call.now) s answer.bytes.items answer.audit.items) (sym silent) unheard))
    c.hear_nothing.ensures.silent
