use Rattle.std.proofs.Common.{length, filter, sym, ap, subst, Some, ◌∙◌, rules, tests}
use Rattle.std.proofs.lemmas.List.{length-map}
use Rattle.std.proofs.lemmas.Iterator.{YieldsList-from_slice}
use Rattle.std.proofs.lemmas.Iterator.Consumers.{YieldsList-at, YieldsList-from_filter, count_from_yields_List}
use Rattle.std.specs.Arc.{arc_value}
use Rattle.registry_core.specs.Entries.{entries_of_list, is_kind, IsListing}
use Rattle.registry_core.proofs.Lists.{listing, map-filter}
use Rattle.registry_core.proofs.list.ListRegistryRegistry.count_of_kind.Goals as goal

pub returns-clause-count : goal.returns-clause-count
returns-clause-count c =
    let p = is_kind (Some c.args.kind.now) in
    count_from_yields_List c.filter.result c.count.result c.count.ensures.ran (YieldsList-from_filter _ (λ a. p (arc_value a)) (YieldsList-at c.filter.ensures.source (YieldsList-from_slice c.deref.result.now cc)) c.filter.ensures.closure (λ x r q k. search (rules, tests)))
    ∙ ap (λ es. length (filter (λ a. p (arc_value a)) es)) c.deref.ensures.value
    ∙ sym (length-map (filter (λ a. p (arc_value a)) c.self.inside.entries.items) arc_value)
    ∙ ap length (map-filter arc_value p c.self.inside.entries.items)
    ∙ ap (λ r. length (filter p r.entries)) c.self.view_is

pub returns-clause-whole : goal.returns-clause-whole
returns-clause-whole c =
    let p = is_kind (Some c.args.kind.now) in
    subst (λ es. IsListing p (entries_of_list es) (filter p es)) (ap (λ r. r.entries) c.self.view_is) (listing p _ c.self.invariant.distinct)
