use Rattle.std.proofs.Common.{◌≡◌, ◌++◌, List, ℕ, Ok, Err, inl, inr, refl, map, ap, ap₂, ◌∙◌}
use Rattle.agent_clients.specs.Keeping.{sent}
use Rattle.agent_clients.specs.Upkeep.{Told, Turns, Sends, Ends, Keeps}
use Rattle.agent_clients.proofs.Courses.{goes_one}
use Rattle.agent_clients.proofs.Upkeeping.{after_both}
use Rattle.agent_clients.proofs.keeping.take_turn.Goals as goal

pub returns-in-Err : goal.returns-in-Err
returns-in-Err g c = goes_one g.O.Outside.may Keeps _ _ _ _ (Told (Err c.in-Err.fault)) c.in-Err.ensures refl

pub returns-in-Ok-turn : goal.returns-in-Ok-turn
returns-in-Ok-turn g c =
    let k = c.turn.new.self in
    let a = c.args.agent.now in
    let all : List (List ℕ) = map (λ v. v.items) c.turn.new.messages.items in
    let sends : all ≡ sent c.in-Ok.now a.xid a.kept = c.in-Ok-turn.ensures.sent ∙ ap (λ l. map (λ v. v.items) l ++ sent c.in-Ok.now a.xid a.kept) c.new-messages.ensures.items in
    after_both g.O.Outside.may c.args.outside.now c.now.new.self c.send_all.new.outside (Turns a) (Sends k all) k c.send_all.result
    (goes_one g.O.Outside.may Keeps _ _ _ _ (Told (Ok c.in-Ok.now)) c.in-Ok.ensures (inr (ap₂ Sends c.in-Ok-turn.ensures.state sends)))
    (c.send_all.ensures k)

pub returns-in-Err-turn : goal.returns-in-Err-turn
returns-in-Err-turn g c = goes_one g.O.Outside.may Keeps _ _ _ _ (Told (Ok c.in-Ok.now)) c.in-Ok.ensures (inl (ap (λ e. Ends (Err e)) c.in-Err-turn.ensures.faults))
