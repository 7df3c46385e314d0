use Rattle.std.proofs.Common.{◌≡◌, ◌++◌, [], refl, sym, ◌∙◌, ap, map, take, arith}
use Rattle.std.proofs.lemmas.List.{take_all, map_more, flat_map_more}
use Rattle.std.proofs.lemmas.Result.{err_from_is_err_and}
use Rattle.attr_list.specs.Stored.{selected_elements, selected_of_all}
use Rattle.attr_list.specs.Lists.{attributes_of}
use Rattle.attr_list.specs.Maps.{elements_in}
use Rattle.attr_list.specs.Pieces.{element_in}
use Rattle.attr_list.proofs.Combined.{each-read}
use Rattle.attr_list.proofs.SelectedElements.{joined-selected}
use Rattle.attr_list.proofs.attrs.Attrs.joined.Goals as goal

pub join-requires : goal.join-requires
join-requires c = each-read _ c.loop-attributes.invariant.sound

pub returns-clause-value : goal.returns-clause-value
returns-clause-value c =
    let every : take c.loop-attributes.attributes-index c.args.all.now ≡ c.args.all.now = take_all c.loop-attributes.attributes-index c.args.all.now (omega (arith, c.loop-attributes-test.false)) in
    c.in_ok-attributes.ensures ∙ ap attributes_of c.loop-attributes.invariant.elements
    ∙ ap (λ xs. attributes_of (selected_of_all c.args.tags.now (map (λ p. p.now) xs))) every ∙ joined-selected c.args.tags.now (map (λ p. p.now) c.args.all.now)

pub loop-attributes-init : goal.loop-attributes-init
loop-attributes-init c =
    let none = c.new-elements.ensures.items in
    record { elements = ap (map element_in) none; sound = rw none tt }

pub loop-attributes-preserved : goal.loop-attributes-preserved
loop-attributes-preserved c =
    let all = c.args.all.now in
    let i = c.loop-attributes.attributes-index in
    let tags = c.args.tags.now in
    let one = c.attributes-item.result in
    let before = c.loop-attributes.invariant in
    let more = rw (← c.attributes-item.is) at (map_more (λ p. p.now) all i one c.loop-attributes-test.true) in
    record {
      elements = c.in_ok-append_selected.ensures.added ∙ ap (λ es. es ++ selected_elements tags (elements_in one.now)) before.elements
          ∙ flat_map_more (λ a. selected_elements tags (elements_in a)) [] (map (λ p. p.now) (take i all)) one.now ∙ ap (selected_of_all tags) (sym more);
      sound = c.in_ok-append_selected.ensures.sound before.sound;
    }

pub returns-in_err-append_selected-clause-memory : goal.returns-in_err-append_selected-clause-memory
returns-in_err-append_selected-clause-memory c =
    let p = err_from_is_err_and c.from_residual.result c.from_residual.ensures.1 in
    rw (p.1, p.2) refl

pub returns-in_err-attributes : goal.returns-in_err-attributes
returns-in_err-attributes c =
    let p = err_from_is_err_and c.from_residual-in_err-attributes.result c.from_residual-in_err-attributes.ensures.1 in
    rw (p.1, p.2) (record { value = tt; memory = refl })
