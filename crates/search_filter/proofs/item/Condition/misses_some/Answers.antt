use Rattle.std.proofs.Common.{rules, ap, sym, ◌∙◌}
use Rattle.std.specs.Ordering.{is_eq}
use Rattle.std.specs.Prelude.{not}
use Rattle.std.specs.List.{list_any}
use Rattle.attr_operands.proofs.Stands.{at_least-rises, at_least-stands, at_most-rises, at_most-stands, is_equal-stands, stand-rises}
use Rattle.attr_operands.specs.Operands.{is_at_least, is_at_most, is_equal, stand_at_least, stand_at_most, stand_of}
use Rattle.search_filter.specs.Conditions.{meets}
use Rattle.search_filter.proofs.FoundValues.{any-same}
use Rattle.search_filter.proofs.item.Condition.misses_some.Goals as goal

pub returns-in-Equal : goal.returns-in-Equal
returns-in-Equal c =
    c.has_other.ensures (stand_of c.in-Equal.operand) (λ v r called. search rules) (stand-rises c.in-Equal.operand)
    ∙ any-same (λ v. not (is_eq (stand_of c.in-Equal.operand v))) (λ v. not (is_equal c.in-Equal.operand v)) (λ v. ap not (is_equal-stands c.in-Equal.operand v)) c.args.values.now
    ∙ ap (λ k. list_any (λ v. not (meets k v)) c.args.values.now) (sym c.in-Equal.is)

pub returns-in-AtLeast : goal.returns-in-AtLeast
returns-in-AtLeast c =
    c.has_other-in-AtLeast.ensures (stand_at_least c.in-AtLeast.operand) (λ v r called. search rules) (at_least-rises c.in-AtLeast.operand)
    ∙ any-same (λ v. not (is_eq (stand_at_least c.in-AtLeast.operand v))) (λ v. not (is_at_least c.in-AtLeast.operand v)) (λ v. ap not (at_least-stands c.in-AtLeast.operand v)) c.args.values.now
    ∙ ap (λ k. list_any (λ v. not (meets k v)) c.args.values.now) (sym c.in-AtLeast.is)

pub returns-in-AtMost : goal.returns-in-AtMost
returns-in-AtMost c =
    c.has_other-in-AtMost.ensures (stand_at_most c.in-AtMost.operand) (λ v r called. search rules) (at_most-rises c.in-AtMost.operand)
    ∙ any-same (λ v. not (is_eq (stand_at_most c.in-AtMost.operand v))) (λ v. not (is_at_most c.in-AtMost.operand v)) (λ v. ap not (at_most-stands c.in-AtMost.operand v)) c.args.values.now
    ∙ ap (λ k. list_any (λ v. not (meets k v)) c.args.values.now) (sym c.in-AtMost.is)
