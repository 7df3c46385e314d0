use Rattle.std.proofs.Common.{Option, Some, subst}
use Rattle.directory_judge.specs.declared.change.Change.{Change}
use Rattle.directory_questions.specs.Calls.{call_in}
use Rattle.directory_questions.specs.declared.call.Call.{Call}
use Rattle.slp_answer.specs.Answers.{Acknowledges}
use Rattle.slp_replies.specs.declared.answer.Answer.{Answer}
use Rattle.slp_replies.specs.declared.answer.Sent.{Sent}
use Rattle.slp_replies.specs.declared.answer.Sent.TheVariants.{Silence}
use Rattle.slp_answer.proofs.AnswersTold.{changed-steps, replied-steps, unheard-replies, whole-told}
use Rattle.slp_answer.proofs.calls.step.Goals as goal

pub returns-in_default-clause-told : goal.returns-in_default-clause-told
returns-in_default-clause-told g c = λ o h fold legal.
    let call = call_in c.args.call.now in
    replied-steps o h call c.clear.new.self.bytes.items c.clear.new.self.audit.items Silence c.args.directory.now
    (unheard-replies o h call c.clear.new.self.bytes.items c.clear.new.self.audit.items c.in_default.ensures c.clear.ensures.bytes c.clear.ensures.audit) legal fold

pub returns-in-Some-change-clause-told : goal.returns-in-Some-change-clause-told
returns-in-Some-change-clause-told g c = λ o h fold legal.
    let sent = c.in_ok-sent.sent in
    let a = c.acknowledge_unread-told.new.answer in
    let b = c.told_whole-2.new.answer in
    let heard = c.in-Some.heard.call.now in
    let told : Acknowledges o h heard.moment heard.asker heard.bytes.now sent c.in_ok-sent.change b.bytes.items b.audit.items =
    whole-told c.acknowledge_unread-told.result c.told_whole-2.result (sent, c.in_ok-sent.change) (λ (p : Sent × Option Change) (x : Answer). Acknowledges o h heard.moment heard.asker heard.bytes.now p.0 p.1 x.bytes.items x.audit.items) a b
    (c.acknowledge_unread-told.ensures o h fold legal) c.told_whole-2.ensures.told c.in_ok-sent.was c.told_whole-2.ensures.kept in
    changed-steps o h (call_in c.args.call.now) b.bytes.items b.audit.items sent c.apply.new.self c.in-Some-change.change
    (subst (λ (k : Call). Acknowledges o h k.moment k.asker k.bytes.now sent (Some c.in-Some-change.change) b.bytes.items b.audit.items) c.in-Some.ensures
    (subst (λ (x : Option Change). Acknowledges o h heard.moment heard.asker heard.bytes.now sent x b.bytes.items b.audit.items) c.in-Some-change.is told))
    (λ event after stands. c.apply.ensures.fold o h event fold after stands)
