-- What one who asks takes off its stream.
use Rattle.std.proofs.Common.{◌≡◌, ◌⊎◌, ◌∷◌, ◌++◌, [], ℕ, List, true, false, Option, Some, None, Result, Ok, Err, refl, sym, ap₂, subst, inl, inr}
use Rattle.std.specs.Prelude.{MatchOption, IfErr}
use Rattle.std.specs.Option.{option_map_or}
use Rattle.slp_stream.specs.Framing.{Frames, Refuses, frames_left, next_answer}
use Rattle.slp_stream.specs.declared.fault.FrameFault.{FrameFault}
use Rattle.slp_stream.specs.declared.fault.FrameFault.TheVariants as frame
use Rattle.agent_clients.specs.Asking.{Asking, Happening, Passed, Streamed, Broke, stepped_by}
use Rattle.agent_clients.specs.Wires.{Course, Acts, IsTold, TakesAll, fed, is_over, with_frames}
use Rattle.agent_clients.specs.declared.asker.Asker.{Asker}
use Rattle.agent_clients.specs.declared.fault.ClientFault.{ClientFault}
use Rattle.agent_clients.specs.declared.fault.ClientFault.TheVariants.{NoMemory}
use Rattle.agent_clients.specs.declared.user_agent.Step.{Step}

-- a step as its agent answers it
abbrev pub IsStep : ℕ → Asking → Happening → Result Step ClientFault → Asking → Type 0
IsStep now a h answer b = ((answer ≡ Err NoMemory) × (b ≡ a)) ⊎ ((answer ≡ (stepped_by a now h).answer) × (b ≡ record a { stage = (stepped_by a now h).stage }))

pub told : (now : ℕ) (a : Asker) (h : Happening) (answer : Result Step ClientFault) (b : Asking) → IsStep now a.agent h answer b → IsTold now a h (Acts (record a { agent = b }) answer)
told now a h answer b (inl p) = inl (ap₂ (λ (x : Asking) (r : Result Step ClientFault). Acts (record a { agent = x }) r) p.1 p.0)
told now a h answer b (inr p) = inr (ap₂ (λ (x : Asking) (r : Result Step ClientFault). Acts (record a { agent = x }) r) p.1 p.0)

told_left : (now : ℕ) (a : Asker) (f : Frames) (h : Happening) (answer : Result Step ClientFault) (b : Asking) → f ≡ frames_left a.framer → IsStep now a.agent h answer b
    → IsTold now (with_frames a (frames_left a.framer)) h (Acts (record a { agent = b; framer = f }) answer)
told_left now a f h answer b left step = subst (λ (x : Frames). IsTold now (with_frames a x) h (Acts (record a { agent = b; framer = f }) answer)) left (told now (with_frames a f) h answer b step)

-- one message is taken, and there is no more to take
pub takes_last : (now : ℕ) (a : Asker) (m : List ℕ) (f : Frames) (answer : Result Step ClientFault) (b : Asking) → Some (Ok m) ≡ next_answer a.framer → f ≡ frames_left a.framer → IsStep now a.agent (Streamed m) answer b → is_over answer ≡ true
    → TakesAll now a (m ∷ []) (Acts (record a { agent = b; framer = f }) answer)
takes_last now a m f answer b given left step over = (record a { agent = b; framer = f }, answer, sym given, told_left now a f (Streamed m) answer b left step, rw over (refl, refl), rw over tt)

-- one message is taken, and then the others
pub takes_more : (now : ℕ) (a : Asker) (m : List ℕ) (f : Frames) (answer : Result Step ClientFault) (b : Asking) (ms : List (List ℕ)) (after : Course) → Some (Ok m) ≡ next_answer a.framer → f ≡ frames_left a.framer
    → IsStep now a.agent (Streamed m) answer b → is_over answer ≡ false → TakesAll now (record a { agent = b; framer = f }) ms after → TakesAll now a (m ∷ ms) after
takes_more now a m f answer b ms after given left step going more = (record a { agent = b; framer = f }, answer, sym given, told_left now a f (Streamed m) answer b left step, rw going tt, rw going more)

-- no message is whole
pub takes_none : (now : ℕ) (a : Asker) (f : Frames) (answer : Result Step ClientFault) (b : Asking) → None ≡ next_answer a.framer → f ≡ a.framer → IsStep now a.agent Passed answer b → TakesAll now a [] (Acts (record a { agent = b; framer = f }) answer)
takes_none now a f answer b given left step = rw (← given) (subst (λ (x : Frames). IsTold now a Passed (Acts (record a { agent = b; framer = x }) answer)) (sym left) (told now a Passed answer b step))

-- a length is refused
pub takes_bad : (now : ℕ) (a : Asker) (e : FrameFault) (f : Frames) (answer : Result Step ClientFault) (b : Asking) → Some (Err e) ≡ next_answer a.framer → f ≡ frames_left a.framer → IsStep now a.agent Broke answer b → TakesAll now a [] (Acts (record a { agent = b; framer = f }) answer)
takes_bad now a e f answer b given left step = rw (← given) (told_left now a f Broke answer b left step)

-- ---- bytes that came

fed_at : (refused : Option FrameFault) (f g : Frames) (piece : List ℕ) (x : Unit {0}) → MatchOption refused (IfErr {T = Unit {0}} (Ok x) (λ (e : FrameFault). e ≡ frame.NoMemory)) (λ (e : FrameFault). ◌≡◌ {A = Result (Unit {0}) FrameFault} (Ok x) (Err e)) → g ≡ record f { waiting = f.waiting ++ piece } → g ≡ option_map_or (λ _. f) refused (record f { waiting = f.waiting ++ piece })
fed_at None f g piece x told is = is
fed_at (Some e) f g piece x told is = absurd cc

-- a framer that took the bytes
pub fed_is : (f g : Frames) (piece : List ℕ) (x : Unit {0}) → Refuses f (Ok x) → g ≡ record f { waiting = f.waiting ++ piece } → g ≡ fed f piece
fed_is f g piece x told is = fed_at f.refused f g piece x told is
