use Rattle.std.proofs.Common.{ap, ◌∙◌, sym, arith}
use Rattle.std.proofs.lemmas.List.{take_rest}
use Rattle.slp_text.specs.Words.{is_blank}
use Rattle.template_files.proofs.SplitLines.{from_first-found, from_first-none, to_first-all, to_first-found, whole}
use Rattle.template_files.specs.Stops.{texts_of}
use Rattle.template_files.proofs.lines.split_at_blank.Goals as goal

pub returns-then-is_blank-clause-before : goal.returns-then-is_blank-clause-before
returns-then-is_blank-clause-before c = to_first-found is_blank c.args.lines.now c.loop-i.i _ (omega arith) (sym c.is_blank.ensures ∙ c.if-is_blank.true) c.loop-i.invariant

pub returns-then-is_blank-clause-after : goal.returns-then-is_blank-clause-after
returns-then-is_blank-clause-after c =
    ap texts_of (take_rest c.args.lines.now c.loop-i.i)
    ∙ from_first-found is_blank c.args.lines.now c.loop-i.i _ (omega arith) (sym c.is_blank.ensures ∙ c.if-is_blank.true) c.loop-i.invariant

pub returns-clause-before : goal.returns-clause-before
returns-clause-before c = to_first-all is_blank c.args.lines.now (whole is_blank c.args.lines.now c.loop-i.i (omega arith) c.loop-i.invariant)

pub returns-clause-after : goal.returns-clause-after
returns-clause-after c = from_first-none is_blank c.args.lines.now (whole is_blank c.args.lines.now c.loop-i.i (omega arith) c.loop-i.invariant)
