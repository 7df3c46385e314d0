use Rattle.std.proofs.Common.{Option, Some, refl, sym, subst}
use Rattle.left_right.specs.Sides.{view}
use Rattle.directory_questions.specs.Calls.{Call, call_in}
use Rattle.published_view.specs.declared.copies.PublishedCopy.{PublishedCopy}
use Rattle.published_view.specs.Rules.{SeesAll}
use Rattle.published_view.specs.Traces.{IsAsked, Trace}
use Rattle.published_view.proofs.Turns.{enters}
use Rattle.published_view.proofs.rule.unheard.Goals as goal

pub enter_as-requires : goal.enter_as-requires
enter_as-requires g c x = enters g.J.Naming.book g.J.Naming.opening _ _ g.Q.Asks.call x

pub returns-in-Ok : goal.returns-in-Ok
returns-in-Ok g c =
    let o = g.J.Naming.opening in
    let v : Trace = view c.args.reader.place in
    let shown : PublishedCopy = c.in-Ok.reading.part.value in
    let sees : SeesAll g.J.Naming.book o g.Q.Asks.call v shown shown (view c.in-Ok.reading.place) = c.in-Ok.ensures.1 in (
      refl,
      subst (λ (x : Trace). IsAsked o v (Some (call_in c.args.call.now)) x) (sym c.leave-reader.ensures.1) (subst (λ (q : Option Call). IsAsked o v q (view c.in-Ok.reading.place)) c.requires.asks sees.0),
    )
