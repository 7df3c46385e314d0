use Rattle.std.proofs.Common.{◌≡◌, ◌<◌, ◌++◌, [], length, take, get_or, subst, sym, ap, ◌∙◌, arith}
use Rattle.std.specs.Prelude.{flat_map}
use Rattle.std.specs.Io.KnownBytes.{Appends}
use Rattle.std.proofs.KnownBytes.{Appends-trans}
use Rattle.std.proofs.lemmas.Option.{get_or_from_slice_get, slice_get-get_or}
use Rattle.site_check.specs.Lines.{place_in}
use Rattle.site_check.specs.RuleWarnings.{scope_line}
use Rattle.site_check.proofs.Written.{flat_map-taken}
use Rattle.site_check.proofs.warnings.warn_of_named.Goals as goal
use Rattle.site_check.proofs.warnings.warn_of_named.Goals.{in-Some+in_ok-warn_of_scope, in_default}

pub loop-i-preserved : goal.loop-i-preserved
loop-i-preserved g c =
    let line = scope_line (place_in c.args.place) c.args.scopes.now in
    let within : c.loop-i.i < length c.args.named.now = omega (arith, c.loop-i-test.true, c.len-i-end.ensures.value) in
    let there = slice_get-get_or c.args.named.now c.loop-i.i [] within in
    elim c.match-at.branch [
      | in-Some+in_ok-warn_of_scope w ↦
          let here : get_or c.args.named.now c.loop-i.i [] ≡ w.in-Some.scope.now = get_or_from_slice_get c.args.named.now c.loop-i.i w.in-Some.scope.now [] (sym w.in-Some.ensures) in
          rw w.writer-is (subst (Appends (g.W.Write.contents c.args.writer.now) (g.W.Write.contents w.warn_of_scope.new.writer))
          (ap (λ s. flat_map line (take c.loop-i.i c.args.named.now) ++ line s) (sym here) ∙ flat_map-taken line c.args.named.now c.loop-i.i [] within)
          (Appends-trans _ _ _ (flat_map line (take c.loop-i.i c.args.named.now)) (line w.in-Some.scope.now) c.loop-i.invariant w.in_ok-warn_of_scope.ensures))
      | in_default w ↦ absurd (let none = w.in_default.ensures ∙ there in cc)
    ]
