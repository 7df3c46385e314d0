use Rattle.std.proofs.Common.{refl, sym, ap, ◌∙◌}
use Rattle.std.specs.Prelude.{◌&&◌, ◌||◌}
use Rattle.std.proofs.lemmas.List.{nil_from_length}
use Rattle.slp_tags.specs.Tags.{selects}
use Rattle.access_rules.specs.Deciding.{deed_in, some_hides}
use Rattle.access_rules.proofs.hide.fitting.Goals as goal

pub loop-first-init : goal.loop-first-init
loop-first-init c = λ tag. refl

pub returns-then-fits : goal.returns-then-fits
returns-then-fits c = λ tag.
    let d = deed_in c.args.deed.now in
    let first = c.in-Some.first.now in
    let rest = some_hides c.in-Some.rest.now d c.args.scope.now tag in
    ap (λ b. (b && selects first.tags tag) || rest) (sym c.if-fits.true ∙ c.fits.ensures)
    ∙ ap (λ hs. some_hides hs d c.args.scope.now tag) (sym c.in-Some.ensures.cases.0) ∙ c.loop-first.invariant tag

pub loop-first-preserved : goal.loop-first-preserved
loop-first-preserved c = λ tag.
    let d = deed_in c.args.deed.now in
    let first = c.in-Some.first.now in
    let rest = some_hides c.in-Some.rest.now d c.args.scope.now tag in
    ap (λ b. (b && selects first.tags tag) || rest) (sym c.if-fits.false ∙ c.fits.ensures)
    ∙ ap (λ hs. some_hides hs d c.args.scope.now tag) (sym c.in-Some.ensures.cases.0) ∙ c.loop-first.invariant tag

pub returns : goal.returns
returns c = λ tag. ap (λ hs. some_hides hs (deed_in c.args.deed.now) c.args.scope.now tag) (sym (nil_from_length c.loop-first.tables.now c.in_default.ensures.cases)) ∙ c.loop-first.invariant tag
