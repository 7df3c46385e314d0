use Rattle.std.proofs.Common.{rules, ◌≡◌, ◌++◌, ℕ, Bool, List, sym, subst}
use Rattle.std.specs.Prelude.{IfOk}
use Rattle.slp_tags.specs.Tags.{selects}
use Rattle.attr_list.specs.Maps.{elements_in, kept_attributes}
use Rattle.directory_state.proofs.ShownEntries.{no-tables, open-whole}
use Rattle.directory_state.proofs.asked.Viewer.add_shown.Goals as goal

pub returns-then-hide_nothing : goal.returns-then-hide_nothing
returns-then-hide_nothing c =
    let v = c.args.self.now in
    let seen = c.args.seen in
    let p : List ℕ → Bool = selects c.args.tags.now in
    let none = no-tables v c.hide_nothing.result c.hide_nothing.ensures c.if-hide_nothing.true in
    subst (λ a. IfOk c.add.result (λ _. c.add.new.self ≡ c.args.gathering.now ++ elements_in (kept_attributes a p))) (sym (open-whole v seen.entry.now seen.first none c.requires))
    (c.add.ensures p (λ tag r met. search rules))
