use Rattle.std.proofs.Common.{◌∙◌, ap}
use Rattle.std.specs.Prelude.{◌==◌}
use Rattle.attr_values.specs.Rests.{rest_after}
use Rattle.attr_list.proofs.CutTexts.{after-mark}
use Rattle.template_files.specs.Reading.{number_sign}
use Rattle.template_files.proofs.values.help_in.Goals as goal

pub returns : goal.returns
returns c =
    after-mark number_sign c.trim_start.result.now c.strip_prefix.result c.trim_start.utf8 c.strip_prefix.ensures.cases
    ∙ ap (rest_after (λ d. d == number_sign)) c.trim_start.ensures
