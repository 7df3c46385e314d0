use Rattle.std.proofs.Common.{◌≡◌, true, ap, ◌∙◌, rules}
use Rattle.attr_list.specs.Maps.{kept_attributes}
use Rattle.attr_list.proofs.KeptAttributes.{kept-all}
use Rattle.search_filter.specs.Filters as spec
use Rattle.search_filter.proofs.filter.Filter.holds.Goals as goal

pub returns : goal.returns
returns c =
    let all = kept_attributes c.args.attributes.now (λ tag. true) in
    let kept : c.holds_where.result ≡ spec.holds c.args.self.now all = c.holds_where.ensures (λ tag. true) (λ tag r met. search rules) in
    kept ∙ ap (spec.holds c.args.self.now) (kept-all c.args.attributes.now)
