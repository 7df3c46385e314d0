use Rattle.std.proofs.Common.{List, ℕ, false, ap, ◌∙◌}
use Rattle.directory_questions.specs.Answers.{is_change_of}
use Rattle.directory_questions.proofs.Requests.{asked_by}
use Rattle.slp_answer.proofs.AnswersTold.{unheard-replies}
use Rattle.slp_answer.proofs.calls.reply.Goals as goal

pub returns-in_default-clause-told : goal.returns-in_default-clause-told
returns-in_default-clause-told g c = λ o h fold legal.
    unheard-replies o h (record { own = c.args.own; moment = c.args.moment; asker = c.args.asker; bytes = c.args.bytes.now; limit = c.args.limit }) c.clear.new.self.bytes.items c.clear.new.self.audit.items c.in_default.ensures c.clear.ensures.bytes c.clear.ensures.audit

pub answer_heard-told-requires-clause-question : goal.answer_heard-told-requires-clause-question
answer_heard-told-requires-clause-question g c = asked_by c.in-Some.heard false (ap (λ (x : List ℕ). is_change_of x) (ap (λ x. x.bytes.now) c.in-Some.ensures) ∙ c.requires.no_change)
