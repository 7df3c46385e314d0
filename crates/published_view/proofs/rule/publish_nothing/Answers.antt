use Rattle.std.proofs.Common.{◌≡◌, List, ap, ◌∙◌}
use Rattle.std.specs.List.{fold}
use Rattle.published_view.specs.declared.copies.PublishedCopy.{PublishedCopy}
use Rattle.published_view.specs.declared.copies.Operation.{Operation}
use Rattle.published_view.specs.Steps.{operated}
use Rattle.published_view.proofs.Turns.{shows}
use Rattle.published_view.proofs.rule.publish_nothing.Goals as goal

pub publish_as-requires : goal.publish_as-requires
publish_as-requires g c next is =
    let x : PublishedCopy = c.args.writer.desk.shown.value in
    let here : next ≡ x = is ∙ ap (λ (more : List Operation). fold operated x more) c.requires in
    shows g.J.Naming.book g.J.Naming.opening _ _ x next here
