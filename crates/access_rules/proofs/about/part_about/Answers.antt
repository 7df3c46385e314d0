use Rattle.std.proofs.Common.{sym, ◌∙◌}
use Rattle.access_rules.proofs.Parts.{whole_part, without_first, without_last}
use Rattle.access_rules.proofs.about.part_about.Goals as goal

pub loop-first-init : goal.loop-first-init
loop-first-init g c = whole_part (λ x. g.T.Concerns.is_about x c.args.asker) c.args.all.now

pub loop-first-preserved : goal.loop-first-preserved
loop-first-preserved g c =
    without_first (λ x. g.T.Concerns.is_about x c.args.asker) c.loop-first.part.now c.args.all.now c.in-Some.rest.now c.in-Some.first.now c.in-Some.ensures.cases.0
    (sym c.concerns.ensures ∙ c.if-concerns.false) c.loop-first.invariant

pub loop-last-preserved : goal.loop-last-preserved
loop-last-preserved g c =
    without_last (λ x. g.T.Concerns.is_about x c.args.asker) c.loop-last.part.now c.args.all.now c.in-Some-split_last.rest.now c.in-Some-split_last.last.now c.in-Some-split_last.ensures.cases.0
    (sym c.concerns-in-Some-split_last.ensures ∙ c.if-concerns-2.false) c.loop-last.invariant
