use Rattle.std.proofs.Common.{◌≡◌, ◌∷◌, [], ℕ, List, Some, None, Ok, Err, sym, ap, ◌∙◌, length, arith, length-append}
use Rattle.slp_stream.specs.Framing.{Frames, answer_in, next_answer}
use Rattle.slp_stream.proofs.FramerAnswers.{gave_message, gave_none}
use Rattle.agent_clients.proofs.Takings.{takes_last, takes_more, takes_none, takes_bad}
use Rattle.agent_clients.proofs.asker.take_whole.Goals as goal

pub loop-next-init : goal.loop-next-init
loop-next-init c = λ b after ms t. (ms, t)

pub loop-next-smaller : goal.loop-next-smaller
loop-next-smaller c =
    let before : Frames = c.loop-next.framer in
    let after : Frames = c.next.follows.lender-at-none in
    let message : List ℕ = c.in-Ok.message.now in
    let given : Some (Ok message) ≡ next_answer before = sym (ap answer_in (c.in-Some.is ∙ ap Some c.in-Ok.is)) ∙ c.next.ensures.answer in
    let taken = gave_message before message after given c.next.follows.holds-at-none in
    omega (arith, taken.least, ap length taken.parts, length-append message after.waiting)

pub loop-next-preserved : goal.loop-next-preserved
loop-next-preserved c = λ b end ms t.
    let given : Some (Ok c.in-Ok.message.now) ≡ next_answer c.loop-next.framer = sym (ap answer_in (c.in-Some.is ∙ ap Some c.in-Ok.is)) ∙ c.next.ensures.answer in
    c.loop-next.invariant b end (c.in-Ok.message.now ∷ ms)
    (takes_more c.args.now (record { agent = c.loop-next.agent; framer = c.loop-next.framer; is_open = b }) c.in-Ok.message.now c.next.follows.lender-at-none c.step-told.result c.step-told.new.self ms end given c.next.follows.holds-at-none c.step-told.ensures (sym c.is_over.ensures ∙ c.if-is_over.false) t)

pub returns-then-is_over : goal.returns-then-is_over
returns-then-is_over c = λ b.
    let given : Some (Ok c.in-Ok.message.now) ≡ next_answer c.loop-next.framer = sym (ap answer_in (c.in-Some.is ∙ ap Some c.in-Ok.is)) ∙ c.next.ensures.answer in
    c.loop-next.invariant b _ (c.in-Ok.message.now ∷ [])
    (takes_last c.args.now (record { agent = c.loop-next.agent; framer = c.loop-next.framer; is_open = b }) c.in-Ok.message.now c.next.follows.lender-at-none c.step-told.result c.step-told.new.self given c.next.follows.holds-at-none c.step-told.ensures (sym c.is_over.ensures ∙ c.if-is_over.true))

pub returns-in-Err : goal.returns-in-Err
returns-in-Err c = λ b.
    let given : Some (Err c.in-Err.field-0) ≡ next_answer c.loop-next.framer = sym (ap answer_in (c.in-Some.is ∙ ap Some c.in-Err.is)) ∙ c.next.ensures.answer in
    c.loop-next.invariant b _ []
    (takes_bad c.args.now (record { agent = c.loop-next.agent; framer = c.loop-next.framer; is_open = b }) c.in-Err.field-0 c.next.follows.lender-at-none c.step.result c.step.new.self given c.next.follows.holds-at-none c.step.ensures)

pub returns : goal.returns
returns c = λ b.
    let given : None ≡ next_answer c.loop-next.framer = sym (ap answer_in c.in_default.is) ∙ c.next.ensures.answer in
    let none = gave_none c.loop-next.framer c.next.follows.lender-at-none given c.next.follows.holds-at-none in
    c.loop-next.invariant b _ []
    (takes_none c.args.now (record { agent = c.loop-next.agent; framer = c.loop-next.framer; is_open = b }) c.next.follows.lender-at-none c.step-2.result c.step-2.new.self given none.1 c.step-2.ensures)
