use Rattle.std.proofs.Common.{ℕ, List, None, Some, map, sym, ap, subst, ◌∙◌}
use Rattle.std.specs.List.{list_any}
use Rattle.std.proofs.lemmas.Result.{IfOk-weaker}
use Rattle.slp_headers.specs.Headers.{heading_in}
use Rattle.directory_judge.specs.Judgements.{by_step, supports}
use Rattle.directory_judge.specs.declared.reason.Decider.TheVariants as decider
use Rattle.directory_judge.specs.Sites.{Site}
use Rattle.directory_questions.specs.Calls.{call_in, standpoint_of}
use Rattle.directory_questions.specs.Items.{AreTypesOf}
use Rattle.directory_state.specs.Searches.{entries_lent}
use Rattle.directory_state.specs.TypeRooms.{IsTypesFront}
use Rattle.directory_questions.specs.declared.question.Question.TheVariants as question
use Rattle.slp_answer.proofs.AnswersTold.{found-supported, named-answer, refusal-answered, refused-types}
use Rattle.slp_answer.proofs.Sizes.{types-front-reply}
use Rattle.slp_answer.proofs.text_replies.answer_types.Goals as goal

pub returns-in-Ok : goal.returns-in-Ok
returns-in-Ok g c = λ o h fold legal.
    let q = c.args.query.now in
    let call = call_in c.args.reply.now.heard.now.call.now in
    let head = heading_in c.args.reply.now.heard.now.header in
    let supported = ap (λ (p : Site). list_any (supports p) q.scopes) (sym fold.placed) ∙ found-supported c.in-Ok.entries _ _ c.in-Ok.ensures.scope in
    let front = map (λ e. e.kind) (entries_lent c.deref.result.now) in
    let found = subst (λ es. (all : List (List ℕ)) × AreTypesOf (standpoint_of o h call) q all × IsTypesFront (Some call.limit) all (map (λ e. e.kind) (entries_lent es))) (sym c.deref.ensures.value) (c.in-Ok.ensures.types o h fold legal) in
    IfOk-weaker c.texts.result _ _
    (λ what k. (
      k.0,
      named-answer o h call head q found.0 k.0 supported found.1 (types-front-reply head call.limit (by_step decider.Nobody None) found.0 front k.0 found.2 k.1),
      k.2,
    ))
    c.texts.ensures

pub returns-in-Err : goal.returns-in-Err
returns-in-Err g c = λ o h fold legal.
    let q = c.args.query.now in
    let to = c.args.reply.now in
    refusal-answered o h to (question.Types q) None c.in-Err.fault _ _ c.query_fault.result
    (λ some. refused-types o h (call_in to.heard.now.call.now) (heading_in to.heard.now.header) c.args.directory.now.site fold.placed q c.in-Err.fault some c.in-Err.ensures.scope c.in-Err.ensures.spoken)
    c.query_fault.ensures
