use Rattle.std.proofs.Common.{ap, ◌∙◌, sym, arith}
use Rattle.std.proofs.lemmas.List.{take_rest}
use Rattle.template_files.specs.Reading.{is_help}
use Rattle.template_files.proofs.SplitLines.{from_first-found, from_first-none, to_first-all, to_first-found, whole}
use Rattle.template_files.specs.Stops.{texts_of}
use Rattle.template_files.proofs.values.split_at_help.Goals as goal

pub returns-then-is_help-clause-before : goal.returns-then-is_help-clause-before
returns-then-is_help-clause-before c = to_first-found is_help c.args.lines.now c.loop-i.i _ (omega arith) (sym c.is_help.ensures ∙ c.if-is_help.true) c.loop-i.invariant

pub returns-then-is_help-clause-after : goal.returns-then-is_help-clause-after
returns-then-is_help-clause-after c =
    ap texts_of (take_rest c.args.lines.now c.loop-i.i)
    ∙ from_first-found is_help c.args.lines.now c.loop-i.i _ (omega arith) (sym c.is_help.ensures ∙ c.if-is_help.true) c.loop-i.invariant

pub returns-clause-before : goal.returns-clause-before
returns-clause-before c = to_first-all is_help c.args.lines.now (whole is_help c.args.lines.now c.loop-i.i (omega arith) c.loop-i.invariant)

pub returns-clause-after : goal.returns-clause-after
returns-clause-after c = from_first-none is_help c.args.lines.now (whole is_help c.args.lines.now c.loop-i.i (omega arith) c.loop-i.invariant)
