use Rattle.std.proofs.Common.{◌≡◌, ℕ, false, refl, subst}
use Rattle.std.specs.Prelude.{◌⊎◌}
use Rattle.slp_headers.specs.Headers.{heading_in}
use Rattle.slp_messages.specs.declared.header.Header.{Header}
use Rattle.slp_wire.specs.Asking.{question_in}
use Rattle.slp_wire.specs.Reading.{kept_header}
use Rattle.slp_wire.specs.declared.question.QuestionView.{QuestionView}
use Rattle.slp_wire.specs.declared.question.QuestionView.TheVariants.{Services, Attributes, Types}
use Rattle.directory_questions.specs.Readings.{may_change}
use Rattle.directory_questions.proofs.Requests.{asks_question}
use Rattle.directory_questions.proofs.question.asked.Goals as goal

pub read_question-requires-clause-function : goal.read_question-requires-clause-function
read_question-requires-clause-function c =
    let heard = c.args.heard.now in
    subst (λ (f : ℕ). (f ≡ 1) ⊎ ((f ≡ 6) ⊎ (f ≡ 9))) heard.asked (asks_question heard.request c.requires)

asks_no_change : (h : Header) (v : QuestionView) → may_change (question_in h v) ≡ false
asks_no_change h (Services r) = refl
asks_no_change h (Attributes r) = refl
asks_no_change h (Types r) = refl

pub returns-in_ok-posed-in-Ok : goal.returns-in_ok-posed-in-Ok
returns-in_ok-posed-in-Ok c =
    let head = kept_header (heading_in c.args.heard.now.header) in record {
      sent = question_in head c.in-Ok.view;
      read = c.in-Ok.ensures;
      still = asks_no_change head c.in-Ok.view;
      asks = c.in_ok-posed-in-Ok.ensures;
    }
