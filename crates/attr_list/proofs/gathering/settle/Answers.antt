use Rattle.std.proofs.Common.{◌++◌, [], ◌∷◌, sym, ap, ap₂, ◌∙◌, map}
use Rattle.std.proofs.lemmas.List.{map_push}
use Rattle.attr_list.specs.Gathering.{pair_of}
use Rattle.attr_list.specs.Pieces.{element_in}
use Rattle.attr_list.specs.Stored.{pair_in, pairs_in}
use Rattle.attr_list.proofs.gathering.settle.Goals as goal

pub loop-element-init : goal.loop-element-init
loop-element-init c = ap pairs_in c.in_ok-settled.ensures.items

pub loop-element-preserved : goal.loop-element-preserved
loop-element-preserved c =
    let held = ap₂ (λ h ps. ps ++ (c.in-Some.element.tag, h) ∷ []) c.in_ok-held.ensures c.loop-element.invariant in
    ap pairs_in c.in_ok-push.ensures.items ∙ map_push pair_in c.loop-element.settled.items (record { tag = c.in-Some.element.tag; held = c.in_ok-held.held })
    ∙ held ∙ sym (ap (map pair_of) (map_push element_in c.loop-element.yielded c.in-Some.element) ∙ map_push pair_of (map element_in c.loop-element.yielded) (element_in c.in-Some.element))
