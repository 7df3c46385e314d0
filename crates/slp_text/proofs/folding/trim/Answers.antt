use Rattle.std.proofs.Common.{◌∙◌, ap}
use Rattle.std.specs.Prelude.{reverse}
use Rattle.std.specs.Str.Pattern.{FindsSuffixBy}
use Rattle.slp_text.specs.Keys.{is_white, trim_start}
use Rattle.slp_text.proofs.TrimmedTexts.{FindsWhite, trimmed_end, white_set}
use Rattle.slp_text.proofs.folding.trim.Goals as goal

pub returns : goal.returns
returns c =
    trimmed_end (FindsWhite FindsSuffixBy) (λ s o f. f is_white white_set) c.trim_start.result.now c.trim_end_matches.result.now c.trim_end_matches.utf8 c.trim_end_matches.ensures.matches
    ∙ ap (λ cs. reverse (trim_start (reverse cs))) c.trim_start.ensures
