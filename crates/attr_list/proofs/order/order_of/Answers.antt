use Rattle.std.proofs.Common.{◌∙◌, ap, subst, sym, map}
use Rattle.attr_list.specs.Orders.{IsOrder}
use Rattle.attr_list.proofs.PlacesInOrder.{order-is}
use Rattle.attr_list.proofs.order.order_of.Goals as goal

pub returns : goal.returns
returns c =
    subst (IsOrder c.args.values.now) (sym (c.in_ok-order.ensures ∙ ap (map (λ a. a.place)) c.deref.ensures.value)) (order-is c.args.values.now c.in_ok-ranked.ranked.items c.in_ok-ranked.ensures.order)
