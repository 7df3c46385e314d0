use Rattle.std.proofs.Common.{◌∙◌, ap, sym, arith}
use Rattle.std.proofs.lemmas.Grind.{common_steps}
use Rattle.std.proofs.lemmas.List.{map_push}
use Rattle.std.specs.Prelude.{◌∷◌, ◌++◌, map, []}
use Rattle.attr_list.proofs.PlacesInOrder.{range-more}
use Rattle.attr_list.proofs.order.identities.Goals as goal

pub loop-place-preserved : goal.loop-place-preserved
loop-place-preserved c = record {
  ranked = grind (arith, common_steps);
  places = ap (map (λ r. r.place)) c.in_ok-push.ensures.items ∙ map_push (λ r. r.place) c.loop-place.ranked.items (record { identity = c.in_ok-identity.identity; place = c.loop-place.place }) ∙ ap (λ ps. ps ++ c.loop-place.place ∷ []) c.loop-place.invariant.places ∙ sym (range-more c.loop-place.place);
}
