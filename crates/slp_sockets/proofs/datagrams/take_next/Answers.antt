use Rattle.std.proofs.Common.{◌++◌, ◌∷◌, [], map, ap, ◌∙◌}
use Rattle.std.proofs.lemmas.List.{map_push}
use Rattle.rtrb.specs.Ring.{received}
use Rattle.slp_sockets.specs.Exchanging.{datagram, datagrams}
use Rattle.slp_sockets.specs.Handing.{gift, taken_by}
use Rattle.slp_sockets.proofs.datagrams.take_next.Goals as goal

pub returns-in-Ok : goal.returns-in-Ok
returns-in-Ok c =
    let e = c.in-Some-Mail.exchange in (
      datagram e,
      ap datagrams c.in-Ok.ensures.items ∙ (map_push datagram c.reserve.new.self.items e ∙ ap (λ es. datagrams es ++ datagram e ∷ []) c.reserve.ensures.items),
      ap (map gift) c.in-Some-Mail.ensures.0 ∙ (map_push gift (received c.args.taker.now.consumer) c.in-Some-Mail.field-0 ∙ ap (λ h. taken_by c.args.taker.now ++ gift h ∷ []) c.in-Some-Mail.field-0-is),
    )
