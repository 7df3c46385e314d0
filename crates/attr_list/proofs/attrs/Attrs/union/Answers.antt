use Rattle.std.proofs.Common.{◌++◌, ◌∙◌, ap, sym, subst, map}
use Rattle.std.specs.List.{AllByRecursion}
use Rattle.attr_list.specs.Lists.{attributes_of}
use Rattle.attr_list.specs.Pieces.{element_in, IsElement}
use Rattle.attr_list.specs.Stored.{element_stored}
use Rattle.attr_list.proofs.Combined.{each-read, stored-each, union-is}
use Rattle.attr_list.proofs.Gathered.{all_append}
use Rattle.attr_list.proofs.attrs.Attrs.union.Goals as goal

pub join-requires : goal.join-requires
join-requires c =
    let first = map element_stored c.entries.result.now in
    let second = map element_stored c.entries-2.result.now in
    let all = c.in_ok-append_elements-2.ensures ∙ ap (λ t. t ++ second) (c.in_ok-append_elements.ensures ∙ ap (λ l. map element_in l ++ first) c.new-elements.ensures.items) in
    each-read _ (subst (AllByRecursion IsElement) (sym all) (all_append IsElement first second (stored-each _ c.entries.ensures.stored.each) (stored-each _ c.entries-2.ensures.stored.each)))

pub returns-clause-value : goal.returns-clause-value
returns-clause-value c =
    let first = map element_stored c.entries.result.now in
    let second = map element_stored c.entries-2.result.now in
    let all = c.in_ok-append_elements-2.ensures ∙ ap (λ t. t ++ second) (c.in_ok-append_elements.ensures ∙ ap (λ l. map element_in l ++ first) c.new-elements.ensures.items) in
    c.in_ok-attributes.ensures ∙ ap attributes_of all ∙ union-is c.args.self.now c.args.more.now _ _ c.entries.ensures.value c.entries-2.ensures.value
