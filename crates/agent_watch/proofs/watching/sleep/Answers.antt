use Rattle.std.proofs.Common.{true, false, [], ◌∷◌, refl, subst}
use Rattle.agent_watch.specs.Watching.{Looked, Napped}
use Rattle.agent_watch.proofs.Watches.{over, nap_more, slept}
use Rattle.agent_watch.proofs.watching.sleep.Goals as goal

pub loop-init : goal.loop-init
loop-init g c = λ awake ds end does sleeps. (ds, does, sleeps)

pub loop-preserved : goal.loop-preserved
loop-preserved g c = λ awake ds end does sleeps.
    let looked = subst (λ b. g.W.Watch.may c.loop.watch (Looked b) c.is_over.new.self) c.if-is_over.false c.is_over.ensures in
    c.loop.invariant awake (Looked false ∷ (Napped 200 ∷ ds)) end (c.is_over.new.self, looked, (c.nap.new.self, c.nap.ensures, does)) (nap_more c.loop.counter c.loop-test.true awake ds sleeps)

pub returns-then-is_over : goal.returns-then-is_over
returns-then-is_over g c =
    let looked = subst (λ b. g.W.Watch.may c.loop.watch (Looked b) c.is_over.new.self) c.if-is_over.true c.is_over.ensures in
    c.loop.invariant false (Looked true ∷ []) c.is_over.new.self (c.is_over.new.self, looked, refl) (over c.loop.counter c.loop-test.true)

pub returns : goal.returns
returns g c = c.loop.invariant true [] c.loop.watch refl (slept c.loop.counter c.loop-test.false)
