use Rattle.std.proofs.Common.{chars, sym, ◌∙◌}
use Rattle.attr_list.proofs.CutTexts.{empty-chars, some-chars}
use Rattle.attr_list.proofs.ReadLists.{elements-begin, elements-empty}
use Rattle.attr_list.proofs.reading.read_elements.Goals as goal

pub returns-then-is_empty-clause-value : goal.returns-then-is_empty-clause-value
returns-then-is_empty-clause-value c =
    elements-empty (chars c.args.text.now) (chars c.trim_start.result.now) c.new-elements.result.items c.trim_start.ensures
    (empty-chars c.trim_start.result.now c.trim_start.utf8 (sym c.is_empty.ensures ∙ c.if-is_empty.true)) c.new-elements.ensures.items

pub loop-rest-init : goal.loop-rest-init
loop-rest-init c =
    elements-begin (chars c.args.text.now) (chars c.trim_start.result.now) c.new-elements.result.items c.trim_start.ensures
    (some-chars c.trim_start.result.now c.trim_start.utf8 (sym c.is_empty.ensures ∙ c.if-is_empty.false)) c.new-elements.ensures.items
