use Rattle.std.proofs.Common.{◌∙◌, ap, sym}
use Rattle.attr_values.specs.Values.{opaque_rest}
use Rattle.search_filter.proofs.ReadTexts.{same-fault, star-text}
use Rattle.search_filter.proofs.reading.star_in.Goals as goal

pub returns-in-None : goal.returns-in-None
returns-in-None c =
    same-fault c.star_after_text.result _ _ (star-text c.args.before.now c.utf8.before (sym c.has.ensures ∙ c.if-has.false) (sym (c.in-None.ensures ∙ ap opaque_rest c.trim.ensures))) c.star_after_text.ensures
