use Rattle.std.proofs.Common.{◌≡◌, Option, Some, Result, Ok, Err, sym, ap, ◌∙◌, subst}
use Rattle.std.specs.Prelude.{IfOk, OnErr, MatchResult}
use Rattle.left_right.specs.Sides.{view}
use Rattle.slp_text.specs.declared.faults.NoMemory.{NoMemory}
use Rattle.directory_judge.specs.History.{History}
use Rattle.directory_questions.specs.Calls.{Call, call_in}
use Rattle.slp_answer.specs.Answers.{Replies}
use Rattle.slp_replies.specs.declared.answer.Sent.{Sent}
use Rattle.published_view.specs.declared.copies.PublishedCopy.{PublishedCopy}
use Rattle.published_view.specs.Rules.{IsAfter, SeesAll, history_of}
use Rattle.published_view.specs.Traces.{IsAsked, Trace, last_at}
use Rattle.published_view.proofs.Turns.{enters, folded}
use Rattle.published_view.proofs.rule.answered.Goals as goal

-- what is told of an answer that is whole, or empty where memory was wanting
whole : (r : Result Sent NoMemory) (P : Sent → Type 0) (Q R : Type 0) → IfOk r P → OnErr r Q → OnErr r R → MatchResult r P (λ _. Q × R)
whole (Ok what) P Q R told reply line = told
whole (Err e) P Q R told reply line = (reply, line)

pub enter_as-requires : goal.enter_as-requires
enter_as-requires g c x = enters g.J.Naming.book g.J.Naming.opening _ _ g.Q.Asks.call x

pub returns-in-Ok : goal.returns-in-Ok
returns-in-Ok g c =
    let book = g.J.Naming.book in
    let o = g.J.Naming.opening in
    let v : Trace = view c.args.reader.place in
    let w : Trace = view c.leave-reader.result.place in
    let shown : PublishedCopy = c.in-Ok.reading.part.value in
    let sees : SeesAll book o g.Q.Asks.call v shown shown (view c.in-Ok.reading.place) = c.in-Ok.ensures.1 in
    let k : PublishedCopy = c.get-copy.result.now in
    let after : IsAfter book o k = subst (λ (x : PublishedCopy). IsAfter book o x) (sym c.get-copy.ensures) sees.2 in
    let here : history_of k ≡ last_at w = ap (λ (x : PublishedCopy). history_of x) c.get-copy.ensures ∙ (sym sees.1 ∙ ap last_at (sym c.leave-reader.ensures.1)) in
    let b = c.end_asked-sent.new.answer in
    let asked : Call = call_in c.args.heard.now.call.now in
    let begun = c.begin_asked-begun.ensures.told o (history_of k) (folded book o k after) after.legal in
    let told = c.end_asked-sent.ensures.told o (history_of k) begun after.legal in (
      subst (λ (x : Trace). IsAsked o v (Some asked) x) (sym c.leave-reader.ensures.1) (subst (λ (q : Option Call). IsAsked o v q (view c.in-Ok.reading.place)) c.requires.asks sees.0),
      whole c.end_asked-sent.result (λ what. Replies o (last_at w) asked what b.bytes.items b.audit.items) _ _
          (subst (λ (h : History). IfOk c.end_asked-sent.result (λ what. Replies o h asked what b.bytes.items b.audit.items)) here told) c.end_asked-sent.ensures.no_reply c.end_asked-sent.ensures.no_line,
    )
