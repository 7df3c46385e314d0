use Rattle.std.proofs.Common.{◌≡◌, ◌∷◌, ◌++◌, [], List, ℕ, Some, None, Ok, Err, sym, ap, ◌∙◌}
use Rattle.slp_stream.specs.Framing.{Frames, next_answer, answer_in}
use Rattle.replay_program.specs.Worlds.{bad_length_text}
use Rattle.replay_program.proofs.Transfers.{Appends-none, Appends-append}
use Rattle.replay_program.proofs.StreamMessages.{Drained-begin, Drained-more, Drained-wants, Drained-bad}
use Rattle.replay_program.proofs.stream.drain.Goals as goal

pub loop-next-init : goal.loop-next-init
loop-next-init g c = ([], [], Appends-none _, Drained-begin c.args.agent.now c.args.stream.now c.requires.going)

pub loop-next-preserved : goal.loop-next-preserved
loop-next-preserved g c =
    let before : Frames = c.loop-next.stream in
    let after : Frames = c.next.follows.lender-at-none in
    let message : List ℕ = c.in-Ok.message.now in
    let given : Some (Ok message) ≡ next_answer before = sym (ap answer_in (c.in-Some.is ∙ ap Some c.in-Ok.is)) ∙ c.next.ensures.answer in
    let s = c.loop-next.invariant in
    let met = c.in_ok-meet-in-Ok.ensures in
    (s.0 ++ message ∷ [], s.1 ++ met.0, Appends-append _ _ _ s.1 met.0 s.2 met.1, Drained-more _ _ s.0 s.1 c.loop-next.agent before message met.0 _ after s.3 given c.next.follows.holds-at-none met.2)

pub returns-in-Ok-print_bad_length : goal.returns-in-Ok-print_bad_length
returns-in-Ok-print_bad_length g c =
    let before : Frames = c.loop-next.stream in
    let after : Frames = c.next.follows.lender-at-none in
    let given : Some (Err c.in-Err.fault) ≡ next_answer before = sym (ap answer_in (c.in-Some.is ∙ ap Some c.in-Err.is)) ∙ c.next.ensures.answer in
    let s = c.loop-next.invariant in
    (s.1 ++ bad_length_text c.in-Err.fault, Appends-append _ _ _ s.1 _ s.2 c.in-Ok-print_bad_length.ensures, Drained-bad _ _ s.0 s.1 c.loop-next.agent before c.in-Err.fault after s.3 given c.next.follows.holds-at-none)

pub returns : goal.returns
returns g c =
    let before : Frames = c.loop-next.stream in
    let after : Frames = c.next.follows.lender-at-none in
    let given : None ≡ next_answer before = sym (ap answer_in c.in_default.is) ∙ c.next.ensures.answer in
    let s = c.loop-next.invariant in
    (s.1, s.2, Drained-wants _ _ s.0 s.1 c.loop-next.agent before after s.3 given c.next.follows.holds-at-none)
