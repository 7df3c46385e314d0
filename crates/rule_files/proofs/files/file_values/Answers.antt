use Rattle.std.proofs.Common.{arith}
use Rattle.std.proofs.lemmas.Grind.{common_steps}
use Rattle.rule_files.proofs.files.file_values.Goals as goal

pub returns-clause-value : goal.returns-clause-value
returns-clause-value c = grind (arith, common_steps)

pub returns-then-rules-gt-MOST_RULES-clause-value : goal.returns-then-rules-gt-MOST_RULES-clause-value
returns-then-rules-gt-MOST_RULES-clause-value c = grind (arith, common_steps)
