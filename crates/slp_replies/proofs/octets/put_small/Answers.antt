use Rattle.std.proofs.Common.{take, arith}
use Rattle.slp_replies.proofs.LastDigits.{last_digit}
use Rattle.slp_replies.proofs.octets.put_small.Goals as goal

pub returns-clause-text : goal.returns-clause-text
returns-clause-text c =
    last_digit (take c.args.at c.args.text.now) (take c.put_digit-at.result c.put_digit-at.new.text) (take c.put_digit-2.result c.put_digit-2.new.text) c.args.number (omega (arith, c.if-number-lt10.false)) (omega (arith, c.requires.number)) c.put_digit-at.ensures.text c.put_digit-2.ensures.text
