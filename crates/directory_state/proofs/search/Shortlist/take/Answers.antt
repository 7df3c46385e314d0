use Rattle.std.proofs.Common.{sym, ◌∙◌}
use Rattle.directory_state.specs.Searches.{bytes_in, cost_in}
use Rattle.directory_state.proofs.Cuts.{cut-empty, with_deadline-some}
use Rattle.directory_state.proofs.search.Shortlist.take.Goals as goal

pub returns-then-wants-clause-spoken : goal.returns-then-wants-clause-spoken
returns-then-wants-clause-spoken c = λ empty.
    let room = c.put.new.self.room in
    absurd (with_deadline-some c.args.seen.entry.now.url c.args.seen.entry.now.deadline c.args.self.now.latest
    (sym c.in_ok-put.ensures.joins ∙ cut-empty (cost_in room) (bytes_in room) c.put.new.self.latest (sym c.shrink.ensures.cut ∙ empty)))
