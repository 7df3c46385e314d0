use Rattle.std.proofs.Common.{sym, ◌∙◌}
use Rattle.std.specs.FinMap as fin
use Rattle.std.proofs.lemmas.List.{length-map}
use Rattle.attr_list.specs.Texts.{attribute_text}
use Rattle.slp_replies.proofs.texts.AttributeTextsTexts.number.Goals as goal

pub returns : goal.returns
returns c =
    let a = c.args.self.now.attributes.now in
    c.len.ensures ∙ fin.len-entries a ∙ sym (length-map (fin.entries a) (λ p. attribute_text p.0 p.1))
