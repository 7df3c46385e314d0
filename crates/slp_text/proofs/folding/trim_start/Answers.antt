use Rattle.slp_text.specs.Keys.{is_white}
use Rattle.std.specs.Str.Pattern.{FindsPrefixBy}
use Rattle.slp_text.proofs.TrimmedTexts.{FindsWhite, trimmed_start, white_set}
use Rattle.slp_text.proofs.folding.trim_start.Goals as goal

pub returns : goal.returns
returns c = trimmed_start (FindsWhite FindsPrefixBy) (λ s o f. f is_white white_set) c.args.text.now c.trim_start_matches.result.now c.trim_start_matches.utf8 c.trim_start_matches.ensures.matches
