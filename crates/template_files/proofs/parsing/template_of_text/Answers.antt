use Rattle.std.proofs.Common.{◌≡◌, ◌+◌, ◌-◌, ap, sym, ◌∙◌, arith, length, Err}
use Rattle.std.specs.Str.Lines.{lines}
use Rattle.std.proofs.lemmas.Iterator.Consumers.{map_from_collect}
use Rattle.std.proofs.lemmas.Iterator.Splits.{YieldsList-from_lines}
use Rattle.std.proofs.lemmas.List.{length-map}
use Rattle.template_files.specs.Reading.{at_line, template_of_lines}
use Rattle.template_files.specs.Stops.{texts_of}
use Rattle.srv_template.specs.declared.fault.ParseFault.TheVariants.{Line}
use Rattle.template_files.proofs.ParsedTemplates.{parsed-lines, parsed-long}
use Rattle.template_files.proofs.parsing.template_of_text.Goals as goal

pub returns-then-text-gt-LONGEST_TEMPLATE : goal.returns-then-text-gt-LONGEST_TEMPLATE
returns-then-text-gt-LONGEST_TEMPLATE c = parsed-long c.args.text.now (omega arith)

pub returns-in-Ok : goal.returns-in-Ok
returns-in-Ok c =
    let all : texts_of c.in_ok-lines.lines.items ≡ lines c.args.text.now =
    let read = map_from_collect c.collect.result c.collect.ensures.ran (YieldsList-from_lines {s = c.lines.result} c.args.text.now c.lines.ensures.rest) in
    rw c.in_ok-lines.was at read in
    parsed-lines c.args.text.now _ (omega arith) all
    ∙ ap (λ ls. at_line (length (texts_of c.in_ok-lines.lines.items)) (template_of_lines (texts_of ls))) (sym c.deref.ensures.value)
    ∙ ap (at_line (length (texts_of c.in_ok-lines.lines.items))) c.in-Ok.ensures

pub returns-in-Err-Left : goal.returns-in-Err-Left
returns-in-Err-Left c =
    let all : texts_of c.in_ok-lines.lines.items ≡ lines c.args.text.now =
    let read = map_from_collect c.collect.result c.collect.ensures.ran (YieldsList-from_lines {s = c.lines.result} c.args.text.now c.lines.ensures.rest) in
    rw c.in_ok-lines.was at read in
    let count : length (texts_of c.in_ok-lines.lines.items) + 1 - c.in-Err-Left.left ≡ c.saturating_sub.result = omega (arith, length-map c.in_ok-lines.lines.items (λ l. l.now), c.len.ensures, c.saturating_sub.ensures) in
    parsed-lines c.args.text.now _ (omega arith) all
    ∙ ap (λ ls. at_line (length (texts_of c.in_ok-lines.lines.items)) (template_of_lines (texts_of ls))) (sym c.deref.ensures.value)
    ∙ ap (at_line (length (texts_of c.in_ok-lines.lines.items))) (rw c.in-Err-Left.field-0-is at c.in-Err-Left.ensures)
    ∙ ap (λ n. Err (Line n)) count
