use Rattle.std.proofs.Common.{◌≡◌, ℕ, List, [], ◌∷◌, Some, None, true, false, refl, sym, ap, subst, ◌∙◌, inl, inr}
use Rattle.std.specs.Prelude.{◌⊎◌}
use Rattle.std.specs.List.{list_any}
use Rattle.std.proofs.lemmas.Bool.{false≢true}
use Rattle.std.proofs.lemmas.Result.{IfOk-weaker}
use Rattle.slp_headers.specs.Headers.{heading_in}
use Rattle.directory_judge.specs.Judgements.{by_step, supports}
use Rattle.directory_judge.specs.Sites.{Site}
use Rattle.directory_judge.specs.declared.reason.Decider.TheVariants as decider
use Rattle.directory_questions.specs.Answers.{advert_code, advert_outcome, agents_outcome, is_agent_for}
use Rattle.directory_questions.specs.Calls.{call_in}
use Rattle.slp_replies.specs.Tellings.{Tells}
use Rattle.slp_answer.proofs.AnswersTold.{agent-for, agents-answer}
use Rattle.slp_answer.proofs.adverts.answer_agents.Goals as goal
use Rattle.slp_answer.proofs.adverts.answer_agents.Goals.{else-not-is_empty-via-then-not-is_empty+else-not-supports, else-not-is_empty-via-else-not-is_empty}

pub returns : goal.returns
returns g c = λ o h fold legal.
    let query = c.args.query.now in
    let call = call_in c.args.reply.now.heard.now.call.now in
    let head = heading_in c.args.reply.now.heard.now.header in
    let scopes : List (List ℕ) = c.in-Some.scopes in
    let site-is = c.site.ensures ∙ fold.placed in
    let either : (scopes ≡ []) ⊎ (list_any (supports c.args.directory.now.site) scopes ≡ true) = elim c.else-not-is_empty.branch [
      | else-not-is_empty-via-then-not-is_empty+else-not-supports w ↦ inr (sym w.supports.ensures ∙ w.if-not-supports.false)
      | else-not-is_empty-via-else-not-is_empty w ↦ inl (c.is_empty.ensures.0 w.if-not-is_empty.false)
    ] in
    let is : is_agent_for o.site scopes ≡ true = agent-for o.site scopes (subst (λ (s : Site). (scopes ≡ []) ⊎ (list_any (supports s) scopes ≡ true)) fold.placed either) in
    IfOk-weaker c.advert.result _ _
    (λ what tells. (
      advert_outcome o.site call.own head query.kind,
      agents-answer o h call head query scopes true c.in-Some.is is,
      subst (λ (s : Site). Tells c.args.reply.now.rules.now call.asker (Some head) (advert_outcome s call.own head query.kind) what c.advert.new.answer.bytes.items c.advert.new.answer.audit.items) site-is tells,
    ))
    c.advert.ensures

pub returns-in_default : goal.returns-in_default
returns-in_default g c = λ o h fold legal.
    let query = c.args.query.now in
    let call = call_in c.args.reply.now.heard.now.call.now in
    let head = heading_in c.args.reply.now.heard.now.header in
    IfOk-weaker c.advert_code.result _ _
    (λ what tells. (advert_code head 2 (by_step decider.Parse None), (sym (ap (agents_outcome o.site call.own head query.kind) c.in_default.is), refl), tells))
    (rw (c.deny.ensures.code, c.deny.ensures.because) at c.advert_code.ensures)

no-agent-for : (site : Site) (scopes : List (List ℕ)) → (scopes ≡ [] → ⊥) → list_any (supports site) scopes ≡ false → is_agent_for site scopes ≡ false
no-agent-for site [] some none = absurd (some refl)
no-agent-for site (s ∷ scopes) some none = none

pub returns-then-not-supports : goal.returns-then-not-supports
returns-then-not-supports g c = λ o h fold legal.
    let query = c.args.query.now in
    let head = heading_in c.args.reply.now.heard.now.header in
    let scopes : List (List ℕ) = c.in-Some.scopes in
    let some : scopes ≡ [] → ⊥ = λ none. false≢true (sym c.if-not-is_empty.true ∙ c.is_empty.ensures.1 none) in
    let none = ap (λ (s : Site). list_any (supports s) scopes) (sym fold.placed) ∙ sym c.supports.ensures ∙ c.if-not-supports.true in
    IfOk-weaker c.advert_code-then-not-supports.result _ _
    (λ what tells. (
      advert_code head 4 (by_step decider.Scope (Some query.kind)),
      agents-answer o h (call_in c.args.reply.now.heard.now.call.now) head query scopes false c.in-Some.is (no-agent-for o.site scopes some none),
      tells,
    ))
    (rw (c.deny-then-not-supports.ensures.code, c.deny-then-not-supports.ensures.because) at c.advert_code-then-not-supports.ensures)
