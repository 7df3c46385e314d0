use Rattle.directory_state.proofs.DeniedKinds.{none-listed}
use Rattle.directory_state.proofs.search.Shortlist.sees_none.Goals as goal

pub returns-clause-none : goal.returns-clause-none
returns-clause-none g c = λ many.
    none-listed c.args.question.now.viewer c.args.question.now.query.now.kind _ _ c.count_of_kind.ensures.whole (c.may_see.ensures c.if-may_see.false)
