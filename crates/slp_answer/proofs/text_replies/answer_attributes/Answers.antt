use Rattle.std.proofs.Common.{ℕ, List, Option, sym, ap, subst, ◌∙◌}
use Rattle.std.specs.List.{list_any}
use Rattle.std.proofs.lemmas.Result.{IfOk-weaker}
use Rattle.slp_headers.specs.Headers.{heading_in}
use Rattle.directory_judge.specs.Judgements.{by_step, supports}
use Rattle.directory_judge.specs.Sites.{Site}
use Rattle.directory_judge.specs.declared.reason.Decider.TheVariants as decider
use Rattle.directory_questions.specs.Answers.{IsCutReply}
use Rattle.directory_questions.specs.Calls.{call_in}
use Rattle.directory_questions.specs.Cuts.{attributes_with}
use Rattle.directory_questions.specs.Items.{attribute_texts, kind_asked}
use Rattle.directory_questions.specs.declared.question.Question.TheVariants as question
use Rattle.directory_state.specs.Sources.{site_of}
use Rattle.directory_state.proofs.Sources.{source-placed}
use Rattle.slp_answer.proofs.AnswersTold.{described-answer, found-supported, refusal-answered, refused-attributes}
use Rattle.slp_answer.proofs.text_replies.answer_attributes.Goals as goal

pub returns-in-Ok : goal.returns-in-Ok
returns-in-Ok g c = λ o h k legal.
    let q = c.args.query.now in
    let call = call_in c.args.reply.now.heard.now.call.now in
    let head = heading_in c.args.reply.now.heard.now.header in
    let a = c.in-Ok.attributes in
    let supported = ap (λ (p : Site). list_any (supports p) q.scopes) (sym (source-placed o h q.target c.args.source.now k)) ∙ found-supported a _ _ c.in-Ok.ensures.scope in
    IfOk-weaker c.texts.result _ _
    (λ what told. (
      told.0,
      described-answer o h call head q a told.0 supported (c.in-Ok.ensures.language o h k legal).1 (c.in-Ok.ensures.joined o h k legal)
          (subst (λ (kind : Option (List ℕ)). IsCutReply (attributes_with head) call.limit head (by_step decider.Nobody kind) (attribute_texts a) told.0) c.kind-kind.ensures told.1),
      told.2,
    ))
    c.texts.ensures

pub returns-in-Err : goal.returns-in-Err
returns-in-Err g c = λ o h k legal.
    let q = c.args.query.now in
    let to = c.args.reply.now in
    refusal-answered o h to (question.Attributes q) (kind_asked q.target) c.in-Err.fault _ _ c.query_fault.result
    (λ some. refused-attributes o h (call_in to.heard.now.call.now) (heading_in to.heard.now.header) (site_of c.args.source.now) (source-placed o h q.target c.args.source.now k) q c.in-Err.fault some c.in-Err.ensures.scope (c.in-Err.ensures.language o h k legal).0)
    (rw c.kind-kind.ensures at c.query_fault.ensures)
