use Rattle.std.proofs.Common.{take, arith}
use Rattle.slp_replies.proofs.LastDigits.{last_digit}
use Rattle.slp_replies.proofs.octets.put_octet.Goals as goal

pub returns-clause-text : goal.returns-clause-text
returns-clause-text c =
    last_digit (take c.args.at c.args.text.now) (take c.put_small-at.result c.put_small-at.new.text) (take c.put_digit.result c.put_digit.new.text) c.args.octet (omega (arith, c.if-octet-lt100.false)) (omega (arith, c.requires.octet)) c.put_small-at.ensures.text c.put_digit.ensures.text
