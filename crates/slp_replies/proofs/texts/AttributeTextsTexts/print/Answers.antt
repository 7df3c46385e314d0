use Rattle.std.proofs.Common.{◌<◌, sym, subst, ◌∙◌}
use Rattle.std.specs.FinMap as fin
use Rattle.std.specs.Prelude.{string_bytes}
use Rattle.std.proofs.lemmas.List.{length-map}
use Rattle.std.proofs.lemmas.Result.{IfOk-weaker}
use Rattle.attr_list.specs.Texts.{attribute_text}
use Rattle.attr_union.specs.Rooms.{IsWrittenWithin}
use Rattle.slp_replies.proofs.MappedTexts.{at-mapped}
use Rattle.slp_replies.proofs.texts.AttributeTextsTexts.print.Goals as goal

pub print_one-requires : goal.print_one-requires
print_one-requires c =
    let a = c.args.self.now.attributes.now in
    subst (λ n. c.args.place < n) (length-map (fin.entries a) (λ p. attribute_text p.0 p.1) ∙ sym (fin.len-entries a)) c.requires

pub returns : goal.returns
returns c =
    let a = c.args.self.now.attributes.now in
    IfOk-weaker c.print_one.result _ _ (λ u is. at-mapped (λ p. attribute_text p.0 p.1) (λ t. IsWrittenWithin c.args.room (string_bytes c.args.out.now) t (string_bytes c.print_one.new.out)) (fin.entries a) c.args.place is) c.print_one.ensures
