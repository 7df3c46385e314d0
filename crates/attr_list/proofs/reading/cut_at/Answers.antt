use Rattle.attr_list.proofs.CutTexts.{split-after, split-before, unsplit-after, unsplit-before}
use Rattle.attr_list.proofs.reading.cut_at.Goals as goal

pub returns-in-Some-clause-before : goal.returns-in-Some-clause-before
returns-in-Some-clause-before c = split-before c.args.mark c.args.text.now c.in-Some.before.now c.in-Some.after.now c.utf8.text c.in-Some.ensures.cases

pub returns-in-Some-clause-after : goal.returns-in-Some-clause-after
returns-in-Some-clause-after c = split-after c.args.mark c.args.text.now c.in-Some.before.now c.in-Some.after.now c.utf8.text c.in-Some.ensures.cases

pub returns-in-None-clause-before : goal.returns-in-None-clause-before
returns-in-None-clause-before c = unsplit-before c.args.mark c.args.text.now c.utf8.text c.in-None.ensures.cases

pub returns-in-None-clause-after : goal.returns-in-None-clause-after
returns-in-None-clause-after c = unsplit-after c.args.mark c.args.text.now c.utf8.text c.in-None.ensures.cases
