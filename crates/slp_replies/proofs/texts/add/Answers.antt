use Rattle.std.proofs.Common.{◌≡◌, [], get_or, length, subst, arith}
use Rattle.std.specs.Prelude.{string_bytes, IfSome}
use Rattle.std.proofs.lemmas.Option.{slice_get-get_or}
use Rattle.std.proofs.lemmas.Str.{IsUtf8-string_bytes}
use Rattle.slp_text.proofs.Characters.{start_ends}
use Rattle.slp_replies.specs.TextLists.{written_next}
use Rattle.attr_union.specs.Rooms.{IsWrittenWithin}
use Rattle.slp_replies.proofs.WrittenTexts.{written-some}
use Rattle.slp_replies.proofs.texts.add.Goals as goal

pub truncate-requires : goal.truncate-requires
truncate-requires g c =
    let texts = g.T.Texts.texts c.args.texts.now in
    let t = get_or texts c.args.place [] in
    let at = slice_get-get_or texts c.args.place [] c.requires.place in
    let old = string_bytes c.args.out.now in
    let new = string_bytes c.append_next.new.out in
    let written = subst (λ o. IfSome o (λ u. IsWrittenWithin c.args.room old (written_next c.args.place u) new)) at c.in_ok-append_next.ensures in
    let grown = written-some c.args.room old (written_next c.args.place t) new written in
    let n = c.len-before.ensures in
    let end = start_ends (string_bytes c.append_next.new.out) (string_bytes c.args.out.now) grown.0 (IsUtf8-string_bytes c.append_next.new.out) (IsUtf8-string_bytes c.args.out.now) grown.1 in
    let m : c.len-before.result ≡ length (string_bytes c.args.out.now) = omega arith in
    rw m (λ le. (end.0, λ above below. end.1 below))
