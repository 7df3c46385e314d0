use Rattle.std.proofs.Common.{◌≡◌, ◌++◌, ◌<◌, List, ℕ, length, sym, ap, subst, ◌∙◌, inl}
use Rattle.std.specs.Prelude.{string_bytes, IfSome}
use Rattle.std.proofs.lemmas.List.{length-map}
use Rattle.std.proofs.lemmas.Option.{slice_get-get_or}
use Rattle.directory_state.specs.Searches.{entries_lent}
use Rattle.attr_union.specs.Rooms.{IsWrittenWithin}
use Rattle.slp_replies.proofs.MappedTexts.{at-mapped}
use Rattle.slp_answer.proofs.text_replies.TypeTextsTexts.print.Goals as goal

pub returns : goal.returns
returns c =
    let es = c.args.self.now.entries.now in
    let printed = λ (t : List ℕ). IsWrittenWithin c.args._room (string_bytes c.args.out.now) t (string_bytes c.push_str.new.self) in
    let within : c.args.place < length es = subst (λ n. c.args.place < n) (length-map (entries_lent es) (λ e. e.kind) ∙ length-map es (λ p. p.now)) c.requires in
    let at = slice_get-get_or es c.args.place c.index-self-place.result within in
    at-mapped (λ e. e.kind) printed (entries_lent es) c.args.place
    (at-mapped (λ p. p.now) (λ e. printed e.kind) es c.args.place
    (subst (λ o. IfSome o (λ p. printed p.now.kind)) (sym at) (inl (c.in_ok-push_str.ensures.bytes ∙ ap (λ t. string_bytes c.args.out.now ++ t) c.text.ensures))))
