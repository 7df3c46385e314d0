use Rattle.std.proofs.Common.{◌≡◌, ◌+◌, ◌-◌, ◌<◌, ◌++◌, [], ◌∷◌, length, length-drop, take, drop, get_or, refl, sym, subst, ap, ◌∙◌, arith}
use Rattle.std.proofs.lemmas.Result.{err_from_is_err_and}
use Rattle.slp_tags.specs.Searches.{has_at, has_front, IsLongestEnd, front, AreFalls}
use Rattle.slp_tags.specs.SignCodes.{signs_in}
use Rattle.slp_tags.proofs.Matches.{rest_all}
use Rattle.slp_tags.proofs.Falls.{piece-at, so_far-star, so_far-character}
use Rattle.slp_tags.proofs.SignCodes.{length-codes, cut-codes, own-code, small-code, star-there}
use Rattle.slp_tags.proofs.signs.falls_of.Goals as goal
use Rattle.slp_tags.proofs.signs.falls_of.Goals.{then-c+in_ok-push-2, else-c+in_ok-push-3}

pub next_fall-fall-requires-clause-codes : goal.next_fall-fall-requires-clause-codes
next_fall-fall-requires-clause-codes c = (cut-codes c.loop-i.start c.args.codes.now (omega (arith, c.loop-i.invariant.1)) c.requires).1

pub next_fall-fall-requires-clause-falls : goal.next_fall-fall-requires-clause-falls
next_fall-fall-requires-clause-falls c =
    let now = c.loop-i.invariant in
    let st = c.loop-i.start in
    let cut = cut-codes st c.args.codes.now (omega (arith, now.1)) c.requires in
    let falls = ap (λ f. take (length f - st) (drop st f)) c.deref.ensures.value ∙ rest_all st c.loop-i.falls.items in
    subst (λ p. AreFalls p (take (length c.deref.result.now - st) (drop st c.deref.result.now))) (sym cut.0) (subst (AreFalls (drop st (signs_in c.args.codes.now))) (sym falls) (now.4 st now.2))

pub next_fall-fall-requires-clause-came : goal.next_fall-fall-requires-clause-came
next_fall-fall-requires-clause-came c =
    let now = c.loop-i.invariant in
    ap (has_front (c.loop-i.i - c.loop-i.start)) (cut-codes c.loop-i.start c.args.codes.now (omega (arith, now.1)) c.requires).0 ∙ now.3

pub next_fall-fall-requires-clause-next : goal.next_fall-fall-requires-clause-next
next_fall-fall-requires-clause-next c =
    let now = c.loop-i.invariant in
    let codes = c.args.codes.now in
    let i = c.loop-i.i in
    let x = get_or codes i 0 in
    let fits = c.type_inv.codes i in
    let range : x < 4294967296 = omega (arith, fits) in
    let small = small-code i codes x refl range c.if-c.false (omega arith) c.requires in
    ap (has_at (i - c.loop-i.start) x) (cut-codes c.loop-i.start codes (omega (arith, now.1)) c.requires).0
    ∙ piece-at (signs_in codes) i c.loop-i.start x now.1 (own-code i codes x refl small (omega arith) c.requires)

pub next_fall-fall-requires-clause-character : goal.next_fall-fall-requires-clause-character
next_fall-fall-requires-clause-character c =
    let fits = c.type_inv.codes c.loop-i.i in
    let range : get_or c.args.codes.now c.loop-i.i 0 < 4294967296 = omega (arith, fits) in
    small-code c.loop-i.i c.args.codes.now (get_or c.args.codes.now c.loop-i.i 0) refl range c.if-c.false (omega arith) c.requires

pub loop-i-preserved : goal.loop-i-preserved
loop-i-preserved c =
    let now = c.loop-i.invariant in
    let codes = c.args.codes.now in
    let p = signs_in codes in
    let i = c.loop-i.i in
    let st = c.loop-i.start in
    let falls = c.loop-i.falls.items in
    let x = get_or codes i 0 in
    elim c.if-c.branch [
      | then-c+in_ok-push-2 w ↦
          so_far-star p i st c.if-c.start falls c.if-c.falls.items (star-there i codes x refl w.if-c.true (omega arith) c.requires) w.start-is (ap (λ v. v.items) w.falls-is ∙ w.in_ok-push-2.ensures.items) now
      | else-c+in_ok-push-3 w ↦
          let cut = (cut-codes st codes (omega (arith, now.1)) c.requires).0 in
          let fits = c.type_inv.codes i in
          let range : x < 4294967296 = omega (arith, fits) in
          let small = small-code i codes x refl range w.if-c.false (omega arith) c.requires in
          let longest = subst (λ q. IsLongestEnd q w.next_fall-fall.result (drop 1 (front (i - st + 1) q))) cut w.next_fall-fall.ensures in
          so_far-character p i st c.if-c.start w.next_fall-fall.result x falls c.if-c.falls.items (own-code i codes x refl small (omega arith) c.requires) w.start-is (ap (λ v. v.items) w.falls-is ∙ w.in_ok-push-3.ensures.items) longest now
    ]

pub loop-i-init : goal.loop-i-init
loop-i-init c =
    let falls = c.push.new.self.items in
    let one : falls ≡ 0 ∷ [] = c.in_ok-push.ensures.items ∙ ap (λ t. t ++ 0 ∷ []) c.new-falls.ensures.items in
    let long : length falls ≡ 1 = ap length one in
    (long, omega arith, refl, refl, λ n starts k some within came. absurd (omega (arith, length-drop n falls)))

pub returns-clause-long : goal.returns-clause-long
returns-clause-long c = omega (arith, c.loop-i.invariant.0, length-codes c.args.codes.now c.requires)

pub returns-clause-falls : goal.returns-clause-falls
returns-clause-falls c = c.loop-i.invariant.4

pub returns-in_err-push : goal.returns-in_err-push
returns-in_err-push c = let p = err_from_is_err_and c.from_residual.result c.from_residual.ensures.1 in rw p.1 (record { long = tt; falls = tt })

pub returns-in_err-push-2 : goal.returns-in_err-push-2
returns-in_err-push-2 c = let p = err_from_is_err_and c.from_residual-in_err-push-2.result c.from_residual-in_err-push-2.ensures.1 in rw p.1 (record { long = tt; falls = tt })

pub returns-in_err-push-3 : goal.returns-in_err-push-3
returns-in_err-push-3 c = let p = err_from_is_err_and c.from_residual-in_err-push-3.result c.from_residual-in_err-push-3.ensures.1 in rw p.1 (record { long = tt; falls = tt })
