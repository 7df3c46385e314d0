use Rattle.std.proofs.Common.{◌∙◌, ap, chars, sym}
use Rattle.slp_text.specs.Ascii.{comma}
use Rattle.attr_values.specs.Rests.{rest_of}
use Rattle.attr_list.specs.Pieces.{next_of}
use Rattle.attr_list.proofs.CutTexts.{after-mark, empty-chars, some-chars}
use Rattle.attr_list.proofs.ReadValues.{next_of-none, next_of-some}
use Rattle.attr_list.proofs.reading.next_element.Goals as goal

pub returns-then-is_empty : goal.returns-then-is_empty
returns-then-is_empty c =
    let none = empty-chars c.trim_start-rest.result.now c.trim_start-rest.utf8 (sym c.is_empty.ensures ∙ c.if-is_empty.true) in
    ap next_of (sym none ∙ c.trim_start-rest.ensures)

pub returns-in-Some : goal.returns-in-Some
returns-in-Some c =
    let after = after-mark comma c.trim_start-rest.result.now c.strip_prefix.result c.trim_start-rest.utf8 c.strip_prefix.ensures.cases in
    next_of-some (chars c.trim_start-rest.result.now) (chars c.in-Some.next.now) (ap rest_of (sym c.in-Some.is) ∙ after) ∙ ap next_of c.trim_start-rest.ensures

pub returns-in-None : goal.returns-in-None
returns-in-None c =
    let after = after-mark comma c.trim_start-rest.result.now c.strip_prefix.result c.trim_start-rest.utf8 c.strip_prefix.ensures.cases in
    next_of-none (chars c.trim_start-rest.result.now) (some-chars c.trim_start-rest.result.now c.trim_start-rest.utf8 (sym c.is_empty.ensures ∙ c.if-is_empty.false)) (ap rest_of (sym c.in-None.is) ∙ after) ∙ ap next_of c.trim_start-rest.ensures
