use Rattle.std.proofs.Common.{◌≡◌, ◌<◌, [], length, arith, None, Some, sym, ap, ◌∙◌}
use Rattle.std.specs.Prelude.{slice_get}
use Rattle.std.specs.Option.{option_copied}
use Rattle.std.proofs.lemmas.Option.{none-some, slice_get-get_or}
use Rattle.access_rules.specs.Deciding.{deed}
use Rattle.directory_judge.proofs.Rulings.{IsAsked-more, asked-none, ruled-here, ruled-none}
use Rattle.directory_judge.proofs.grounds.Grounds.rule.Goals as goal
use Rattle.directory_judge.proofs.grounds.Grounds.rule.Goals.{in-Some-at+else-not-next, in_default-at}

pub returns-in_default : goal.returns-in_default
returns-in_default g c = ruled-none c.args.self.now.rules (deed c.args.self.now.asker c.args.action c.args.kind.now c.args.registrant) c.args.scopes.now (sym c.at.ensures ∙ ap option_copied c.in_default.is)

pub returns-then-not-first : goal.returns-then-not-first
returns-then-not-first g c =
    let d = deed c.args.self.now.asker c.args.action c.args.kind.now c.args.registrant in
    let first = c.rule_in-first in
    ruled-here c.args.self.now.rules d c.args.scopes.now None 0 (asked-none c.args.self.now.rules d c.args.scopes.now) first.result c.in-Some.scope.now (sym c.in-Some.ensures) first.ensures.allow first.ensures.because c.if-not-first.true

pub loop-place-init : goal.loop-place-init
loop-place-init g c =
    let d = deed c.args.self.now.asker c.args.action c.args.kind.now c.args.registrant in
    let first = c.rule_in-first in
    IsAsked-more c.args.self.now.rules d c.args.scopes.now None 0 (asked-none c.args.self.now.rules d c.args.scopes.now) first.result c.in-Some.scope.now (sym c.in-Some.ensures) first.ensures.allow first.ensures.because c.if-not-first.false

pub returns-then-not-next : goal.returns-then-not-next
returns-then-not-next g c =
    let d = deed c.args.self.now.asker c.args.action c.args.kind.now c.args.registrant in
    let next = c.rule_in-next in
    ruled-here c.args.self.now.rules d c.args.scopes.now (Some c.rule_in-first.result) c.loop-place.place c.loop-place.invariant next.result c.in-Some-at.scope.now (sym c.in-Some-at.ensures) next.ensures.allow next.ensures.because c.if-not-next.true

pub loop-place-preserved : goal.loop-place-preserved
loop-place-preserved g c =
    let on = c.args.self.now in
    let scopes = c.args.scopes.now in
    let d = deed on.asker c.args.action c.args.kind.now c.args.registrant in
    elim c.match-at-2.branch [
      | in-Some-at+else-not-next w ↦
          let next = w.rule_in-next in
          IsAsked-more on.rules d scopes (Some c.rule_in-first.result) c.loop-place.place c.loop-place.invariant next.result w.in-Some-at.scope.now (sym w.in-Some-at.ensures) next.ensures.allow next.ensures.because w.if-not-next.false
      | in_default-at w ↦
          let within : c.loop-place.place < length scopes = omega (arith, c.loop-place-test.true, c.len-place-end.ensures.value) in
          let none : slice_get scopes c.loop-place.place ≡ None = sym c.at-in-loop-place.ensures ∙ ap option_copied w.in_default-at.is in
          absurd (none-some _ (sym none ∙ slice_get-get_or scopes c.loop-place.place [] within))
    ]
