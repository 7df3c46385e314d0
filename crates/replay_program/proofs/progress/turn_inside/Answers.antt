use Rattle.std.proofs.Common.{◌≡◌, inl, refl, rules, subst}
use Rattle.std.specs.Prelude.{string_bytes}
use Rattle.std.specs.Option.{option_copied, option_map}
use Rattle.slp_script.specs.Commands.{block_end}
use Rattle.replay_program.specs.Turns.{Closes}
use Rattle.replay_program.proofs.progress.turn_inside.Goals as goal

pub returns-then-eq : goal.returns-then-eq
returns-then-eq g c =
    let done = c.in_ok-close.ensures in
    let ended : c.args.line.now ≡ block_end = search rules in
    let kept : option_copied c.as_deref.result ≡ option_map string_bytes c.args.block.text = search rules in
    (done.0, done.1, inl (ended, subst (λ k. Closes c.args.session.now c.args.block.block k done.0 c.close.new.session) kept done.2, refl))
