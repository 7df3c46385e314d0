use Rattle.std.proofs.Common.{◌≡◌, Bool, true, false, cond, not, [], ◌∷◌, refl, sym, ap, ◌∙◌, arith}
use Rattle.std.specs.Prelude.{filter}
use Rattle.registry_core.specs.Entries.{is_within}
use Rattle.directory_state.specs.Deadlines.{total_cost}
use Rattle.directory_state.specs.Searches.{bytes_in, cost_in, cut, deadlines_with}
use Rattle.directory_state.proofs.Shortlists.{passed_over}
use Rattle.directory_state.proofs.search.Shortlist.is_past.Goals as goal

not-true : (b : Bool) → not b ≡ true → b ≡ false
not-true true h = absurd cc
not-true false h = refl

pub returns-in-Some : goal.returns-in-Some
returns-in-Some c = λ after.
    let cost = cost_in c.args.self.now.room in
    let left = bytes_in c.args.self.now.room in
    let bound = c.in-Some.bound.now in
    let e = c.args.entry.now in
    let ps = c.args.self.now.latest in
    let outside : is_within bound e ≡ false = sym c.le.ensures ∙ not-true c.le.result after in (
      (λ empty. let none = ap (total_cost cost) empty in omega (arith, none, c.in-Some.ensures.over)),
      (λ p. passed_over cost left bound p (e ∷ []) ps c.in-Some.ensures ∙ ap (λ w. cut cost left (deadlines_with (filter p (cond w (e ∷ []) [])) ps)) outside ∙ c.requires.is_cut),
    )
