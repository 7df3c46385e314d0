use Rattle.std.proofs.Common.{◌≡◌, ◌++◌, ◌∙◌, ap, sym, subst, map, take, filter, arith}
use Rattle.std.proofs.lemmas.List.{take_all}
use Rattle.std.specs.List.{AllByRecursion}
use Rattle.slp_tags.specs.Tags.{selects}
use Rattle.attr_list.specs.Pieces.{element_in, IsElement}
use Rattle.attr_list.specs.Maps.{elements_in}
use Rattle.attr_list.specs.Stored.{element_stored, selected_elements}
use Rattle.attr_list.proofs.Combined.{elements-stored, stored-each}
use Rattle.attr_list.proofs.Gathered.{all_append, all_filtered}
use Rattle.attr_list.proofs.SelectedElements.{stored-selected}
use Rattle.attr_list.proofs.combining.append_selected.Goals as goal

pub returns-clause-added : goal.returns-clause-added
returns-clause-added c =
    let list = c.entries-entry-items.result.now in
    let all : take c.loop-entry.entry-index list ≡ list = take_all c.loop-entry.entry-index list (omega (arith, c.loop-entry-test.false)) in
    c.loop-entry.invariant ∙ ap (λ xs. map element_in c.args.elements.now.items ++ map element_stored (filter (λ a. selects c.args.tags.now a.tag) xs)) all ∙ ap (λ es. map element_in c.args.elements.now.items ++ es) (stored-selected c.args.tags.now c.args.attributes.now _ c.entries-entry-items.ensures.value)

pub returns-clause-sound : goal.returns-clause-sound
returns-clause-sound c = λ before.
    let tags = c.args.tags.now in
    let picked = selected_elements tags (elements_in c.args.attributes.now) in
    let list = c.entries-entry-items.result.now in
    let all : take c.loop-entry.entry-index list ≡ list = take_all c.loop-entry.entry-index list (omega (arith, c.loop-entry-test.false)) in
    let whole = c.loop-entry.invariant ∙ ap (λ xs. map element_in c.args.elements.now.items ++ map element_stored (filter (λ a. selects tags a.tag) xs)) all ∙ ap (λ es. map element_in c.args.elements.now.items ++ es) (stored-selected tags c.args.attributes.now _ c.entries-entry-items.ensures.value) in
    let each = subst (AllByRecursion IsElement) (elements-stored c.args.attributes.now _ c.entries-entry-items.ensures.value) (stored-each _ c.entries-entry-items.ensures.stored.each) in
    subst (AllByRecursion IsElement) (sym whole) (all_append IsElement (map element_in c.args.elements.now.items) picked before (all_filtered IsElement (λ e. selects tags e.tag) (elements_in c.args.attributes.now) each))
