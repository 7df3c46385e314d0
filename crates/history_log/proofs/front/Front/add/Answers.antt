use Rattle.std.proofs.Common.{sym, ◌∙◌, ap}
use Rattle.history_log.proofs.Adding.{adds_moves}
use Rattle.history_log.proofs.front.Front.add.Goals as goal

pub compare_exchange-found-requires : goal.compare_exchange-found-requires
compare_exchange-found-requires g c =
    let h = c.args.book.now.head_is in
    let offer = c.plain-offer.ensures in
    let pen = c.no_pen-pen.ensures in
    let mine = c.self.inside.trail in
    let seen = c.again-seen.ensures in
    let here = ap (λ s. s.book) seen ∙ (c.self.invariant ∙ sym (ap (λ w. w.book) h)) in (
      ap (λ w. w.tracked) h,
      here,
      pen.0 ∙ here,
      offer.0,
      rw (ap (λ w. w.key) h, pen.1, offer.1, offer.3, seen) (adds_moves mine.seen.log g.E.Happening.event mine.count (sym mine.counted)),
    )
