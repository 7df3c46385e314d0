use Rattle.std.proofs.Common.{rules, ◌≡◌, ◌++◌, ℕ, Bool, List, sym, subst}
use Rattle.std.specs.Prelude.{◌&&◌, IfOk}
use Rattle.slp_tags.specs.Tags.{selects}
use Rattle.attr_list.specs.Maps.{elements_in, kept_attributes}
use Rattle.directory_questions.specs.Sights.{is_shown}
use Rattle.directory_state.proofs.ShownEntries.{all-whole, shown-selected}
use Rattle.directory_state.proofs.asked.Viewer.add_by_sight.Goals as goal

pub returns-in-Some : goal.returns-in-Some
returns-in-Some c =
    let v = c.args.self.now in
    let e = c.args.seen.entry.now in
    let p : List ℕ → Bool = λ tag. selects c.args.tags.now tag && is_shown v.rules.now v.asker v.asked e tag in
    subst (λ a. IfOk c.add.result (λ _. c.add.new.self ≡ c.args.gathering.now ++ elements_in a)) (shown-selected v e c.args.tags.now)
    (c.add.ensures p (λ tag r met. search rules))

pub returns-in-None : goal.returns-in-None
returns-in-None c =
    let p : List ℕ → Bool = selects c.args.tags.now in
    subst (λ a. IfOk c.add-in-None.result (λ _. c.add-in-None.new.self ≡ c.args.gathering.now ++ elements_in (kept_attributes a p))) (sym (all-whole c.args.self.now c.args.seen.entry.now c.in-None.ensures))
    (c.add-in-None.ensures p (λ tag r met. search rules))
