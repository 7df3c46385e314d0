use Rattle.std.proofs.Common.{[], sym, ap, ◌∙◌, arith}
use Rattle.std.proofs.lemmas.Option.{get_or_from_slice_get}
use Rattle.directory_state.specs.Searches.{shows_in}
use Rattle.directory_state.proofs.ShownEntries.{left-here, none-left}
use Rattle.directory_state.proofs.asked.Viewer.shows_after.Goals as goal

pub returns-then-shows_in : goal.returns-then-shows_in
returns-then-shows_in c =
    let v = c.args.self.now in
    let e = c.args.entry.now in
    let place = c.loop-later.later in
    let here = ap (shows_in v e c.args.tag.now) (get_or_from_slice_get v.asked place c.at.result.now [] c.at.ensures) in
    sym (left-here v e c.args.tag.now place (omega (arith, c.loop-later-test.true)) (here ∙ sym c.shows_in.ensures ∙ c.if-shows_in.true)) ∙ c.loop-later.invariant

pub loop-later-preserved : goal.loop-later-preserved
loop-later-preserved c =
    let v = c.args.self.now in
    let e = c.args.entry.now in
    let place = c.loop-later.later in
    let here = ap (shows_in v e c.args.tag.now) (get_or_from_slice_get v.asked place c.at.result.now [] c.at.ensures) in
    sym (none-left v e c.args.tag.now place (omega (arith, c.loop-later-test.true)) (here ∙ sym c.shows_in.ensures ∙ c.if-shows_in.false)) ∙ c.loop-later.invariant
