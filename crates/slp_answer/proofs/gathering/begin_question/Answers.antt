use Rattle.std.proofs.Common.{sym, subst, ◌∙◌}
use Rattle.slp_headers.specs.Headers.{heading_in}
use Rattle.directory_questions.specs.Calls.{call_in}
use Rattle.directory_questions.specs.declared.question.Question.{Question}
use Rattle.slp_answer.specs.Gathering.{IsGatheredAt}
use Rattle.slp_answer.proofs.AnswersTold.{asked-replies}
use Rattle.slp_answer.proofs.LeftQuestions.{answered-inside}
use Rattle.slp_answer.proofs.gathering.begin_question.Goals as goal

pub returns-in_ok-gathered-in-Attributes-clause-told : goal.returns-in_ok-gathered-in-Attributes-clause-told
returns-in_ok-gathered-in-Attributes-clause-told g c = λ o h fold legal.
    let left = c.in_ok-gathered-in-Attributes in
    subst (λ (q : Question). IsGatheredAt o h q left.gathered) (sym c.in-Attributes.is) (record { state = c.args.directory.now; fold = fold; gathered = left.ensures })

pub returns-in_ok-sent-in_default : goal.returns-in_ok-sent-in_default
returns-in_ok-sent-in_default g c =
    let heard = c.args.heard.now in
    let answer = c.answer_question.new.answer in record {
      begun = answered-inside c.args.posed.now c.in_default.not-Attributes;
      told = λ o h fold legal.
          asked-replies o h (call_in heard.call.now) c.in_ok-sent-in_default.sent answer.bytes.items answer.audit.items (heading_in heard.header) c.args.posed.now c.rules.result.now (c.rules.ensures ∙ fold.ruled) heard.headed c.requires.asked
          (c.in_ok-sent-in_default.ensures o h fold legal);
    }
