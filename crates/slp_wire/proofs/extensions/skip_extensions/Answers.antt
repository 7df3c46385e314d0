use Rattle.std.proofs.Common.{◌≡◌, ℕ, ◌+◌, ◌-◌, List, length, drop, Some, Ok, sym, ap, subst, ◌∙◌, arith}
use Rattle.std.specs.Prelude.{IfSome}
use Rattle.std.specs.Option.{option_map}
use Rattle.std.proofs.lemmas.Result.{err_from_is_err_and}
use Rattle.slp_wire.specs.Extensions.{extensions_at, next_at}
use Rattle.slp_wire.proofs.SkippedExtensions.{on_to_next, last_is_done, fails_next, none_is_left}
use Rattle.slp_wire.proofs.extensions.skip_extensions.Goals as goal

pub returns-in_err-next_of : goal.returns-in_err-next_of
returns-in_err-next_of c =
    let p = err_from_is_err_and c.from_residual.result c.from_residual.ensures.1 in
    rw (p.1, p.2) (fails_next c.in_err-next_of.field-0.0 (length c.args.bytes.now) c.loop.counter c.loop.at c.loop.rest.now (extensions_at (length c.args.bytes.now) c.args.begin c.args.bytes.now) c.loop-test.true c.in_err-next_of.ensures.value c.loop.invariant.1)

pub returns-in-None : goal.returns-in-None
returns-in-None c =
    last_is_done (length c.args.bytes.now) c.loop.counter c.loop.at c.loop.rest.now (extensions_at (length c.args.bytes.now) c.args.begin c.args.bytes.now) c.loop-test.true
    (c.in_ok-next_of.ensures.value ∙ ap (λ o. Ok (option_map (λ p. p.0) o)) c.in-None.is) c.loop.invariant.1

pub loop-preserved : goal.loop-preserved
loop-preserved c =
    let total = extensions_at (length c.args.bytes.now) c.args.begin c.args.bytes.now in
    let rest : c.in-Some.after.now ≡ drop (c.in-Some.next - c.loop.at) c.loop.rest.now = subst (λ o. IfSome o (λ p. p.1.now ≡ drop (p.0 - c.loop.at) c.loop.rest.now)) c.in-Some.is c.in_ok-next_of.ensures.rest in
    let within : c.in-Some.next + length c.in-Some.after.now ≡ c.loop.at + length c.loop.rest.now = subst (λ o. IfSome o (λ p. p.0 + length p.1.now ≡ c.loop.at + length c.loop.rest.now)) c.in-Some.is c.in_ok-next_of.ensures.within in
    let next : next_at c.loop.at c.loop.rest.now ≡ Ok (Some c.in-Some.next) = c.in_ok-next_of.ensures.value ∙ ap (λ o. Ok (option_map (λ p. p.0) o)) c.in-Some.is in
    let on = on_to_next (length c.args.bytes.now) c.loop.counter c.loop.at c.loop.rest.now c.in-Some.next total c.loop-test.true next c.loop.invariant.1 in (
      omega (arith, within, c.loop.invariant.0),
      subst (λ (b : List ℕ). extensions_at (length c.args.bytes.now - (c.loop.counter + 1)) c.in-Some.next b ≡ total) (sym rest) on,
    )

pub returns : goal.returns
returns c = none_is_left (length c.args.bytes.now) c.loop.counter c.loop.at c.loop.rest.now (extensions_at (length c.args.bytes.now) c.args.begin c.args.bytes.now) c.loop-test.false c.loop.invariant.1
