use Rattle.std.proofs.Common.{false, Ok, [], map, refl, sym, ap, ◌∙◌, chars}
use Rattle.std.proofs.lemmas.Result.{err_from_is_err_and}
use Rattle.std.proofs.lemmas.Str.{encodes-chars}
use Rattle.slp_tags.specs.Tags.{tags_of}
use Rattle.slp_text.proofs.Characters.{no_more, one_more}
use Rattle.slp_text.proofs.Lists.{list-within, list-read, list-fault, list-comma, list-comma-fault, list-end, list-end-fault}
use Rattle.slp_tags.proofs.SignReaders.{signs_in_tags, sign_end}
use Rattle.slp_tags.proofs.TagLists.{tagged, tagged-more, tagged-next, tags-init}
use Rattle.slp_tags.proofs.tags.parts_of.Goals as goal

pub loop-c-init : goal.loop-c-init
loop-c-init c =
    let none = c.new-parts.ensures.items in
    let bare = c.new-part.ensures.items in
    (chars c.args.text.now, encodes-chars _ c.utf8.text ∙ cc, rw (none, bare) (tags-init c.args.text.now [] refl))

pub returns-in_err-end_part : goal.returns-in_err-end_part
returns-in_err-end_part c =
    let now = c.loop-c.invariant in
    let cut = one_more now.0 _ _ c.in-Some.c now.1 c.in-Some.ensures.steps.0 in
    let p = err_from_is_err_and c.from_residual.result c.from_residual.ensures.1 in
    rw (p.1, p.2)
    (list-comma-fault signs_in_tags (tagged (map (λ v. v.items) c.loop-c.parts.items) c.loop-c.gap c.loop-c.part.items) c.loop-c.stage cut.0 (tags_of c.args.text.now)
    c.in_err-end_part.field-0.0 c.in-Some.c c.if-c-eq44.true (sign_end _ _ c.in_err-end_part.ensures.err) (rw cut.1 at now.2))

pub loop-c-preserved-then-c-eq44 : goal.loop-c-preserved-then-c-eq44
loop-c-preserved-then-c-eq44 c =
    let now = c.loop-c.invariant in
    let cut = one_more now.0 _ _ c.in-Some.c now.1 c.in-Some.ensures.steps.0 in
    let ok = c.in_ok-end_part.ensures.ok in
    let bare = c.new-part-then-c-eq44.ensures.items in
    let parts = map (λ v. v.items) c.loop-c.parts.items in
    let after = map (λ v. v.items) c.end_part.new.parts.items in (
      cut.0,
      cut.2,
      rw bare
          (list-comma signs_in_tags (tagged parts c.loop-c.gap c.loop-c.part.items) c.loop-c.stage cut.0 (tags_of c.args.text.now) (tagged after false []) c.in-Some.c
          c.if-c-eq44.true ok.0 (λ ps. tagged-next parts after c.loop-c.gap c.loop-c.part.items ps ok.1) (rw cut.1 at now.2)),
    )

pub returns-in_err-next : goal.returns-in_err-next
returns-in_err-next c =
    let now = c.loop-c.invariant in
    let cut = one_more now.0 _ _ c.in-Some.c now.1 c.in-Some.ensures.steps.0 in
    let p = err_from_is_err_and c.from_residual-in_err-next.result c.from_residual-in_err-next.ensures.1 in
    rw (p.1, p.2)
    (list-fault signs_in_tags (tagged (map (λ v. v.items) c.loop-c.parts.items) c.loop-c.gap c.loop-c.part.items) c.loop-c.stage cut.0 (tags_of c.args.text.now)
    c.in_err-next.field-0.0 c.in-Some.c c.if-c-eq44.false (sym c.in_err-next.ensures) (rw cut.1 at now.2))

pub loop-c-preserved-in-Within : goal.loop-c-preserved-in-Within
loop-c-preserved-in-Within c =
    let now = c.loop-c.invariant in
    let cut = one_more now.0 _ _ c.in-Some.c now.1 c.in-Some.ensures.steps.0 in (
      cut.0,
      cut.2,
      list-within signs_in_tags (tagged (map (λ v. v.items) c.loop-c.parts.items) c.loop-c.gap c.loop-c.part.items) c.loop-c.stage cut.0 (tags_of c.args.text.now)
          c.in-Within.next c.in-Some.c c.if-c-eq44.false (sym c.in_ok-next.ensures ∙ ap Ok c.in-Within.is) (rw cut.1 at now.2),
    )

pub loop-c-preserved : goal.loop-c-preserved
loop-c-preserved c =
    let now = c.loop-c.invariant in
    let cut = one_more now.0 _ _ c.in-Some.c now.1 c.in-Some.ensures.steps.0 in
    let parts = map (λ v. v.items) c.loop-c.parts.items in
    let d = c.in-Read.sign in (
      cut.0,
      cut.2,
      list-read signs_in_tags (tagged parts c.loop-c.gap c.loop-c.part.items) c.loop-c.stage cut.0 (tags_of c.args.text.now)
          (tagged parts c.in_ok-gap-in-Read.gap c.add_folded.new.part.items) d c.in-Some.c c.if-c-eq44.false (sym c.in_ok-next.ensures ∙ ap Ok c.in-Read.is)
          (tagged-more parts c.loop-c.gap c.in_ok-gap-in-Read.gap c.loop-c.part.items c.add_folded.new.part.items d c.in_ok-gap-in-Read.ensures) (rw cut.1 at now.2),
    )

pub returns-in_err-end_part-2 : goal.returns-in_err-end_part-2
returns-in_err-end_part-2 c =
    let now = c.loop-c.invariant in
    let ended = no_more now.0 _ now.1 c.in-None.ensures.steps.0.0 in
    let p = err_from_is_err_and c.from_residual-in_err-end_part-2.result c.from_residual-in_err-end_part-2.ensures.1 in
    rw (p.1, p.2)
    (list-end-fault signs_in_tags (tagged (map (λ v. v.items) c.loop-c.parts.items) c.loop-c.gap c.loop-c.part.items) c.loop-c.stage now.0 (tags_of c.args.text.now)
    c.in_err-end_part-2.field-0.0 ended (sign_end _ _ c.in_err-end_part-2.ensures.err) now.2)

pub returns : goal.returns
returns c =
    let now = c.loop-c.invariant in
    let ended = no_more now.0 _ now.1 c.in-None.ensures.steps.0.0 in
    let ok = c.in_ok-end_part-2.ensures.ok in
    let parts = map (λ v. v.items) c.loop-c.parts.items in
    let after = map (λ v. v.items) c.end_part-2.new.parts.items in
    list-end signs_in_tags (tagged parts c.loop-c.gap c.loop-c.part.items) c.loop-c.stage now.0 (tags_of c.args.text.now) after ended ok.0
    (tagged-next parts after c.loop-c.gap c.loop-c.part.items [] ok.1) now.2
