use Rattle.std.proofs.Common.{ap, length, map, subst, ◌∙◌, arith}
use Rattle.std.specs.Vec.Iter.{into_iter_items}
use Rattle.agent_clients.specs.Runs.{Goes}
use Rattle.agent_clients.specs.Upkeep.{Sends, Keeps}
use Rattle.agent_clients.proofs.Courses.{goes_on}
use Rattle.agent_clients.proofs.Upkeeping.{asked_one, asked_last, none_left}
use Rattle.agent_clients.proofs.keeping.send_all.Goals as goal

pub returns-in-Err : goal.returns-in-Err
returns-in-Err g c = λ k.
    goes_on g.O.Outside.may Keeps _ _ _ _ _ _ (c.loop-message.invariant.sent k)
    (asked_last g.O.Outside.may c.loop-message.outside c.ask.new.self k (map (λ v. v.items) (into_iter_items c.loop-message.message-iterator)) c.in-Some.message.items (map (λ v. v.items) (into_iter_items c.next.new.self)) c.in-Err.fault (ap (map (λ v. v.items)) c.in-Some.ensures.steps.0) c.in-Err.ensures)

pub loop-message-preserved : goal.loop-message-preserved
loop-message-preserved g c = record {
  left = omega (arith, ap length c.in-Some.ensures.steps.0, c.in-Some.ensures.steps.1, c.loop-message.invariant.left);
  sent = λ k.
      goes_on g.O.Outside.may Keeps _ _ _ _ _ _ (c.loop-message.invariant.sent k)
      (asked_one g.O.Outside.may c.loop-message.outside c.ask.new.self k (map (λ v. v.items) (into_iter_items c.loop-message.message-iterator)) c.in-Some.message.items (map (λ v. v.items) (into_iter_items c.next.new.self)) tt (ap (map (λ v. v.items)) c.in-Some.ensures.steps.0) c.in_default.ensures);
}

pub returns : goal.returns
returns g c = λ k.
    subst (λ l. Goes g.O.Outside.may Keeps c.args.outside.now (Sends k (map (λ v. v.items) c.args.messages.items)) c.loop-message.outside (Sends k (map (λ v. v.items) l)))
    (none_left (into_iter_items c.loop-message.message-iterator) (c.loop-message.invariant.left ∙ c.in-None.ensures.steps.0))
    (c.loop-message.invariant.sent k)
