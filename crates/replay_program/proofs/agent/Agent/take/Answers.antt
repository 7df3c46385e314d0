use Rattle.std.proofs.Common.{◌≡◌, ℕ, List, Result, Ok, Err, ap, subst}
use Rattle.std.specs.Prelude.{IfOk, MatchResult, OnErr}
use Rattle.std.proofs.lemmas.Result.{IfOk-weaker}
use Rattle.directory_questions.specs.Calls.{Call}
use Rattle.directory_state.specs.State.{State}
use Rattle.slp_answer.specs.Answers.{Steps}
use Rattle.slp_replies.specs.declared.answer.Sent.{Sent}
use Rattle.replay_program.specs.Sessions.{IsAgent, Takes}
use Rattle.replay_program.specs.Worlds.{World, call_of, opening_of, own_at}
use Rattle.replay_program.specs.declared.agent.Agent.{Agent}
use Rattle.replay_program.proofs.agent.Agent.take.Goals as goal

joined : {T E : Type 0} (r : Result T E) (P : T → Type 0) (X : Type 0) → IfOk r P → OnErr r X → MatchResult r P (λ _. X)
joined (Ok t) P X p _ = p
joined (Err e) P X _ x = x

-- where a step left the directory, the agent is the same
kept_of : {T E : Type 0} (r : Result T E) (a : Agent) (after : State) → OnErr r (after ≡ a.directory) → OnErr r (record a { directory = after } ≡ a)
kept_of (Ok t) a after _ = tt
kept_of (Err e) a after k = ap (λ (d : State). record a { directory = d }) k

module _ (limit : ℕ) (w : World) (bytes : List ℕ) (a : Agent) (is : IsAgent w a) (own : ℕ) (here : own ≡ own_at a.listen a.loop_index) where
  abbrev asked : Call
  asked = record { own = own; moment = a.moment; asker = a.asker; bytes = bytes; limit = limit }

  same : asked ≡ call_of limit w bytes
  same = cc (here, is.listen, is.loop, is.moment, is.asker)

  -- what a step came to is what an agent takes
  takes : (after : State) (what : Sent) (reply line : List ℕ) → Steps (opening_of w) w.history asked what reply line after → Takes limit w bytes what reply line (record a { directory = after })
  takes after what reply line s =
      let t = subst (λ (c : Call). Steps (opening_of w) w.history c what reply line after) same s in
      record { outcome = t.outcome; event = t.event; is = t.is; told = t.told; holds = record { legal = t.legal; fold = t.fold; listen = is.listen; loop = is.loop; moment = is.moment; asker = is.asker } }

pub returns : goal.returns
returns c = λ w is.
    let a = c.args.self.now in
    let after = c.step.new.directory in
    let told = IfOk-weaker c.step.result _ (λ what. Takes c.args.limit w c.args.bytes.now what c.step.new.answer.bytes.items c.step.new.answer.audit.items (record a { directory = after }))
    (λ what. takes c.args.limit w c.args.bytes.now a is c.own.result c.own.ensures after what c.step.new.answer.bytes.items c.step.new.answer.audit.items) (c.step.ensures.told (opening_of w) w.history is.fold is.legal) in
    joined c.step.result _ _ told (kept_of c.step.result a after c.step.ensures.kept)
