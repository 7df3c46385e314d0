use Rattle.std.proofs.Common.{ap, ◌∙◌, sym, arith}
use Rattle.std.proofs.lemmas.List.{take_rest}
use Rattle.std.specs.Prelude.{not}
use Rattle.template_files.proofs.SplitLines.{blanks-skipped, from_first-found, from_first-none, is_filled, whole}
use Rattle.template_files.specs.Stops.{texts_of}
use Rattle.template_files.proofs.lines.after_blanks.Goals as goal

pub returns-then-not-is_blank : goal.returns-then-not-is_blank
returns-then-not-is_blank c =
    ap texts_of (take_rest c.args.lines.now c.loop-i.i)
    ∙ from_first-found is_filled c.args.lines.now c.loop-i.i _ (omega arith) (ap not (sym c.is_blank.ensures) ∙ ap not c.if-not-is_blank.true) c.loop-i.invariant
    ∙ blanks-skipped (texts_of c.args.lines.now)

pub returns : goal.returns
returns c = from_first-none is_filled c.args.lines.now (whole is_filled c.args.lines.now c.loop-i.i (omega arith) c.loop-i.invariant) ∙ blanks-skipped (texts_of c.args.lines.now)
