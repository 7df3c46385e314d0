use Rattle.std.proofs.Common.{rules, ◌≡◌, [], sym, ap}
use Rattle.left_right.specs.Sides.{view}
use Rattle.published_view.specs.Traces.{Trace, last_at}
use Rattle.published_view.proofs.view.LoopView.hear_asked.Goals as goal

pub returns-in_err-sent-clause-later : goal.returns-in_err-sent-clause-later
returns-in_err-sent-clause-later g c =
    let after : Trace = view c.answered-reader.result.0.place in
    let same : after ≡ c.args.self.now = search rules in
    ([], ap last_at (sym same))
