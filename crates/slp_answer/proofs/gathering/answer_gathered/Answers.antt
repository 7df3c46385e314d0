use Rattle.std.proofs.Common.{sym, subst, ◌∙◌}
use Rattle.std.specs.Prelude.{IfOk}
use Rattle.std.proofs.lemmas.Result.{IfOk-weaker}
use Rattle.slp_headers.specs.Headers.{heading_in}
use Rattle.directory_questions.specs.Calls.{call_in}
use Rattle.directory_questions.specs.declared.question.Question.{Question}
use Rattle.directory_state.proofs.Sources.{of-some}
use Rattle.slp_answer.specs.Answers.{IsQuestionAnswered}
use Rattle.slp_answer.specs.Gathering.{IsGatheredAt}
use Rattle.slp_answer.proofs.AnswersTold.{asked-replies}
use Rattle.slp_answer.proofs.gathering.answer_gathered.Goals as goal

pub returns-in-Some : goal.returns-in-Some
returns-in-Some g c = λ o h k legal.
    let heard = c.args.heard.now in
    let answer = c.answer_services.new.answer in
    let at = subst (λ (q : Question). IsGatheredAt o h q c.args.gathered.now) c.in-Services.is k in
    let told = of-some _ _ _ c.in-Some.is (c.in_ok-sent-in-Services.ensures.told o h (record { state = at.state; fold = at.fold; source = at.gathered }) legal) in
    asked-replies o h (call_in heard.call.now) c.in-Some.sent answer.bytes.items answer.audit.items (heading_in heard.header) c.args.posed.now c.rules.result.now (c.rules.ensures ∙ at.gathered.ruled ∙ at.fold.ruled) heard.headed c.requires.asked
    (subst (λ (q : Question). IsQuestionAnswered o h (record { rules = c.rules.result; heard = c.args.heard }) q c.in-Some.sent answer.bytes.items answer.audit.items) (sym c.in-Services.is) told)

pub returns-in-Attributes : goal.returns-in-Attributes
returns-in-Attributes g c = λ o h k legal.
    let heard = c.args.heard.now in
    let posed = c.args.posed.now in
    let answer = c.answer_attributes.new.answer in
    let at = subst (λ (q : Question). IsGatheredAt o h q c.args.gathered.now) c.in-Attributes.is k in
    IfOk-weaker c.answer_attributes.result _ _
    (λ what told. asked-replies o h (call_in heard.call.now) what answer.bytes.items answer.audit.items (heading_in heard.header) posed c.rules.result.now (c.rules.ensures ∙ at.gathered.ruled ∙ at.fold.ruled) heard.headed c.requires.asked told)
    (subst (λ (q : Question). IfOk c.answer_attributes.result (λ what. IsQuestionAnswered o h (record { rules = c.rules.result; heard = c.args.heard }) q what answer.bytes.items answer.audit.items)) (sym c.in-Attributes.is)
    (c.answer_attributes.ensures o h (record { state = at.state; fold = at.fold; source = at.gathered }) legal))
