use Rattle.std.proofs.Common.{arith, rules}
use Rattle.std.proofs.lemmas.Grind.{common_steps}
use Rattle.slp_headers.proofs.Texts.{is_utf8_tag}
use Rattle.slp_headers.proofs.reading.tag_in.Goals as goal

pub returns-then-bytes-lt-TAG : goal.returns-then-bytes-lt-TAG
returns-then-bytes-lt-TAG c = search rules

pub returns-then-length-gt-LONGEST : goal.returns-then-length-gt-LONGEST
returns-then-length-gt-LONGEST c = grind (arith, common_steps)

pub returns-then-not-are_printable : goal.returns-then-not-are_printable
returns-then-not-are_printable c = grind (arith, common_steps)

pub returns-in-Ok : goal.returns-in-Ok
returns-in-Ok c = grind (arith, common_steps)

pub returns-in-Err : goal.returns-in-Err
returns-in-Err c = grind (arith, is_utf8_tag)
