use Rattle.std.proofs.Common.{Some, None, refl, sym, subst}
use Rattle.std.specs.Prelude.{IfOk}
use Rattle.slp_headers.specs.Headers.{heading_in}
use Rattle.directory_questions.specs.Answers.{sense_of_question, IsAnswerTo}
use Rattle.directory_questions.specs.Calls.{call_in}
use Rattle.directory_questions.specs.Outcomes.{silence}
use Rattle.directory_questions.specs.declared.question.Question.{Question}
use Rattle.directory_state.proofs.Sources.{of-some}
use Rattle.slp_answer.specs.Answers.{IsQuestionAnswered}
use Rattle.slp_answer.proofs.AnswersTold.{silence-tells}
use Rattle.slp_answer.proofs.questions.answer_question.Goals as goal

pub returns-in-Silent : goal.returns-in-Silent
returns-in-Silent g c = λ o h fold legal.
    let call = call_in c.args.reply.now.heard.now.call.now in
    let head = heading_in c.args.reply.now.heard.now.header in (
      silence,
      subst (λ (q : Question). IsAnswerTo o h call (sense_of_question o.site call.own head q) silence None) (sym c.in-Silent.is) (refl, refl),
      silence-tells c.args.reply.now.rules.now call.asker (Some head) c.args.answer.now.bytes.items c.args.answer.now.audit.items c.requires.no_reply c.requires.no_line,
    )

pub returns-in-Attributes : goal.returns-in-Attributes
returns-in-Attributes g c = λ o h fold legal.
    subst (λ (q : Question). IfOk c.answer_attributes.result (λ what. IsQuestionAnswered o h c.args.reply.now q what c.answer_attributes.new.answer.bytes.items c.answer_attributes.new.answer.audit.items)) (sym c.in-Attributes.is)
    (c.answer_attributes.ensures o h (record { state = c.args.directory.now; fold = fold; source = refl }) legal)

pub returns-in-Some : goal.returns-in-Some
returns-in-Some g c = λ o h fold legal.
    let answer = c.answer_services.new.answer in
    subst (λ (q : Question). IsQuestionAnswered o h c.args.reply.now q c.in-Some.sent answer.bytes.items answer.audit.items) (sym c.in-Services.is)
    (of-some _ _ _ c.in-Some.is (c.in_ok-sent-in-Services.ensures.told o h (record { state = c.args.directory.now; fold = fold; source = refl }) legal))
