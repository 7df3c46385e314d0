use Rattle.attr_list.proofs.Merged.{merged-alone}
use Rattle.attr_list.proofs.merging.front_of.Goals as goal

pub returns-in-Some-None-clause-parts : goal.returns-in-Some-None-clause-parts
returns-in-Some-None-clause-parts c =
    merged-alone c.args.standing.now c.in-Some-None.left.now c.args.coming.now c.in-Some-None.stands.now c.in-Some-None.ensures.cases.0 c.in-Some-None.ensures'.cases
