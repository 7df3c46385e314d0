use Rattle.std.proofs.Common.{refl, ◌∙◌}
use Rattle.slp_headers.specs.Headers.{heading_in}
use Rattle.directory_questions.specs.Calls.{call_in}
use Rattle.directory_questions.specs.declared.question.Question.TheVariants as question
use Rattle.directory_state.proofs.Sources.{of-some}
use Rattle.slp_answer.proofs.AnswersTold.{asked-replies}
use Rattle.slp_answer.proofs.gathering.begin_services.Goals as goal

pub returns-in-Some-clause-told : goal.returns-in-Some-clause-told
returns-in-Some-clause-told g c = λ o h fold legal.
    let heard = c.args.heard.now in
    let answer = c.answer_services.new.answer in
    asked-replies o h (call_in heard.call.now) c.in-Some.sent answer.bytes.items answer.audit.items (heading_in heard.header) (question.Services c.args.query.now) c.rules.result.now (c.rules.ensures ∙ fold.ruled) heard.headed c.requires.asked
    (of-some _ _ _ c.in-Some.is (c.in_ok-sent.ensures.told o h (record { state = c.args.directory.now; fold = fold; source = refl }) legal))
