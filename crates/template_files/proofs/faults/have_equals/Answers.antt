use Rattle.std.proofs.Common.{rules, ◌∙◌}
use Rattle.std.specs.Prelude.{not, ◌&&◌}
use Rattle.std.proofs.lemmas.Iterator.{YieldsList-from_slice}
use Rattle.std.proofs.lemmas.Iterator.Search.{any_from_yields_List}
use Rattle.template_files.specs.Faults.{has_equals}
use Rattle.template_files.specs.Reading.{is_help}
use Rattle.template_files.proofs.RefusedValues.{any-spoken}
use Rattle.template_files.proofs.faults.have_equals.Goals as goal

pub returns : goal.returns
returns c =
    any_from_yields_List (λ l. not (is_help l.now) && has_equals l.now) _ _ c.any.result c.any.ensures.ran (YieldsList-from_slice c.args.lines.now cc) (λ x b q k. (search rules, search rules))
    ∙ any-spoken c.args.lines.now
