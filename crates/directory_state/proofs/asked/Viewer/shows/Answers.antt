use Rattle.std.proofs.Common.{◌+◌, sym, ap, ◌∙◌}
use Rattle.std.specs.Prelude.{◌||◌, not}
use Rattle.std.specs.List.{list_any}
use Rattle.directory_questions.specs.Sights.{is_left_in}
use Rattle.directory_state.specs.Searches.{open_scopes}
use Rattle.directory_state.proofs.ShownEntries.{by-sight}
use Rattle.directory_state.proofs.asked.Viewer.shows.Goals as goal

pub returns-then-not-hides_first : goal.returns-then-not-hides_first
returns-then-not-hides_first c =
    let v = c.args.self.now in
    let e = c.args.entry.now in
    let tag = c.args.tag.now in
    let s = c.args.sight.now in
    ap not c.if-not-hides_first.true ∙ sym (by-sight v e s tag c.hides_first.result c.requires c.hides_first.ensures
    ∙ ap (λ b. not b || list_any (is_left_in v.rules.now v.asker e tag) (open_scopes v e (s.first + 1))) c.if-not-hides_first.true)

pub returns-else-not-hides_first : goal.returns-else-not-hides_first
returns-else-not-hides_first c =
    let v = c.args.self.now in
    let e = c.args.entry.now in
    let tag = c.args.tag.now in
    let s = c.args.sight.now in
    c.shows_after.ensures
    ∙ sym (by-sight v e s tag c.hides_first.result c.requires c.hides_first.ensures
    ∙ ap (λ b. not b || list_any (is_left_in v.rules.now v.asker e tag) (open_scopes v e (s.first + 1))) c.if-not-hides_first.false)
