use Rattle.std.proofs.Common.{Bool, true, false, Result, Ok, Err, [], refl, sym, ap, ◌∙◌, subst}
use Rattle.std.proofs.lemmas.List.{append-nil}
use Rattle.slp_sockets.specs.Turning.{Tended, AreServedAt, SettlesFirst, IsWhole, tended, turn_told}
use Rattle.slp_sockets.specs.declared.fault.LoopFault.{LoopFault}
use Rattle.slp_sockets.proofs.Reaching.{first_on, reach_on, reach_peers, reach_tokens}
use Rattle.slp_sockets.proofs.Sitting.{only_gone}
use Rattle.slp_sockets.proofs.agent_loop.AgentLoop.turn.Goals as goal
use Rattle.slp_sockets.proofs.agent_loop.AgentLoop.turn.Goals.{in-Ok, in-Err}

-- where a turn tells that all was served, it was, whether it could wait or not
whole_served : (waited : Bool) (told : Result Bool LoopFault) → IsWhole (turn_told waited told) → IsWhole told
whole_served true told is = is
whole_served false (Ok true) is = refl
whole_served false (Ok false) is = is
whole_served false (Err e) is = is

pub returns-clause-served : goal.returns-clause-served
returns-clause-served g c =
    let begun : Tended g.row.S.Denot = record { seats = c.self.inside.streams.seats; server = c.self.inside.server } in
    let served : Tended g.row.S.Denot = record { seats = c.match-begin.self-inside.streams.seats; server = c.match-begin.self-inside.server } in
    let closed : Tended g.row.S.Denot = record { seats = c.close_still.new.self.seats; server = c.match-begin.self-inside.server } in
    first_on g.S.Serve.manner (tended c.args.self.now) begun closed
    (subst (SettlesFirst g.S.Serve.manner (tended c.args.self.now)) (ap tended (sym c.self.view_is)) c.begin.ensures.served)
    (reach_on g.S.Serve.manner begun served closed
    (elim c.match-begin.branch [
      | in-Ok w ↦ rw w.self-inside-is (reach_tokens g.S.Serve.manner begun w.serve_events-told.ensures.served.0 (record { seats = w.serve_events-told.new.streams.seats; server = w.serve_events-told.new.server }) w.serve_events-told.ensures.served.4)
      | in-Err w ↦ rw w.self-inside-is ([], refl)
    ])
    (reach_peers g.S.Serve.manner served closed (only_gone c.match-begin.self-inside.streams.seats c.close_still.new.self.seats c.close_still.ensures.only, refl)))

pub returns-clause-whole : goal.returns-clause-whole
returns-clause-whole g c = λ whole. (
  record { seats = c.match-begin.self-inside.streams.seats; server = c.match-begin.self-inside.server },
  elim c.match-begin.branch [
    | in-Ok w ↦
        let all = w.serve_events-told.ensures.served in
        rw (w.self-inside-is, all.2, all.3 (whole_served w.in-Ok.waited w.serve_events-told.result (subst IsWhole (w.told-is ∙ w.told_after-told.ensures) whole)), append-nil) (
          tended c.begin.new.self,
          w.in-Ok.ensures.begun,
          subst (λ s. AreServedAt g.S.Serve.manner s all.0 (record { seats = w.serve_events-told.new.streams.seats; server = w.serve_events-told.new.server })) (ap tended c.self.view_is) all.4,
        )
    | in-Err w ↦ absurd (subst (λ (e : LoopFault). IsWhole (Err e)) w.in-Err.ensures.fault (subst IsWhole w.told-is whole))
  ],
  (only_gone c.match-begin.self-inside.streams.seats c.close_still.new.self.seats c.close_still.ensures.only, refl),
)
