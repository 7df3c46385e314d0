use Rattle.std.proofs.Common.{ap, chars, sym, ◌∙◌}
use Rattle.std.specs.Prelude.{is_some}
use Rattle.slp_text.specs.Ascii.{equals_sign}
use Rattle.template_files.proofs.ListedValues.{more_of}
use Rattle.template_files.proofs.RefusedValues.{some-after}
use Rattle.template_files.proofs.faults.has_equals.Goals as goal

pub returns : goal.returns
returns c = c.is_some.ensures ∙ sym (more_of c.cut_at.result.1) ∙ ap is_some c.cut_at.ensures.after ∙ some-after equals_sign (chars c.args.line.now)
