use Rattle.std.proofs.Common.{◌≡◌, Option, None, Some, Result, Ok, Err, inl, refl}
use Rattle.std.specs.Prelude.{◌⊎◌, MatchResult}
use Rattle.slp_stream.specs.Framing.{Frames, Refuses}
use Rattle.slp_stream.specs.declared.fault.FrameFault.{FrameFault}
use Rattle.replay_program.specs.declared.fault.RunFault.{RunFault}
use Rattle.replay_program.specs.declared.fault.RunFault.TheVariants.{Write, NoMemory}
use Rattle.std.proofs.Common.{rules}
use Rattle.replay_program.specs.Worlds.{closed_text}
use Rattle.replay_program.proofs.StreamMessages.{TakesPiece-closed, TakesPiece-fed}
use Rattle.replay_program.proofs.stream.take_piece.Goals as goal

unrefused : (f : Frames) (refused : Option FrameFault) → f.refused ≡ refused → Refuses f (Ok tt) → f.refused ≡ None
unrefused f None is h = is
unrefused f (Some e) is h = let k : Ok tt ≡ Err e = rw is at h in absurd cc

told_as : (A B K : Type 0) (r : Result (Unit {0}) RunFault) → (A → B) → MatchResult r (λ _. A) (λ e. e ≡ Write) → MatchResult r (λ _. B) (λ e. (e ≡ Write) ⊎ ((e ≡ NoMemory) × K))
told_as A B K (Ok x) f h = f h
told_as A B K (Err e) f h = inl h

pub returns-in-Ok : goal.returns-in-Ok
returns-in-Ok g c =
    let none = unrefused c.args.session.now.stream c.args.session.now.stream.refused refl c.in-Ok.ensures.faults in
    told_as _ _ _ c.drain.result (λ h. (h.0, h.1, TakesPiece-fed c.args.session.now c.args.bytes.now h.0 c.feed.new.self c.drain.new.stream c.drain.new.agent none c.in-Ok.ensures.fed h.2)) c.drain.ensures

pub returns-in-Ok-write_all : goal.returns-in-Ok-write_all
returns-in-Ok-write_all g c =
    (closed_text, c.in-Ok-write_all.ensures.bytes, TakesPiece-closed c.args.session.now c.in-Err.field-0 c.args.bytes.now c.feed.new.self c.in-Err.ensures.faults (search rules) c.in-Err.ensures.err)
