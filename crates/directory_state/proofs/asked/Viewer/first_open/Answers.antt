use Rattle.std.proofs.Common.{◌≡◌, ◌≤◌, length, ℕ, ◌+◌, ◌∷◌, [], Bool, List, Some, cond, drop, filter, sym, ap, ◌∙◌, arith}
use Rattle.std.specs.Prelude.{slice_get}
use Rattle.std.proofs.lemmas.List.{drop_all}
use Rattle.std.proofs.lemmas.Option.{get_or_from_slice_get, slice_get_within}
use Rattle.directory_questions.specs.Sights.{is_open_in}
use Rattle.directory_state.proofs.SeenUrls.{drop_here}
use Rattle.directory_state.proofs.asked.Viewer.first_open.Goals as goal

pub returns-then-is_open_in : goal.returns-then-is_open_in
returns-then-is_open_in c =
    let v = c.args.self.now in
    let scopes : List (List ℕ) = v.asked in
    let p : List ℕ → Bool = is_open_in v.rules.now v.asker c.args.entry.now in
    let place = c.loop-place.place in
    let s : List ℕ = c.at.result.now in
    let at : slice_get scopes place ≡ Some s = c.at.ensures in
    let rest = filter p (drop (place + 1) scopes) in record {
      within = slice_get_within scopes place s at;
      first = sym c.loop-place.invariant ∙ ap (filter p) (drop_here scopes place s at) ∙ ap (λ b. cond b (s ∷ rest) rest) (sym c.is_open_in.ensures ∙ c.if-is_open_in.true)
          ∙ ap (λ t. t ∷ rest) (sym (get_or_from_slice_get scopes place s [] at));
    }

pub loop-place-preserved : goal.loop-place-preserved
loop-place-preserved c =
    let scopes : List (List ℕ) = c.args.self.now.asked in
    let p : List ℕ → Bool = is_open_in c.args.self.now.rules.now c.args.self.now.asker c.args.entry.now in
    let s : List ℕ = c.at.result.now in
    let rest = filter p (drop (c.loop-place.place + 1) scopes) in
    sym (ap (λ b. cond b (s ∷ rest) rest) (sym c.is_open_in.ensures ∙ c.if-is_open_in.false)) ∙ sym (ap (filter p) (drop_here scopes c.loop-place.place s c.at.ensures)) ∙ c.loop-place.invariant

pub returns : goal.returns
returns c =
    let v = c.args.self.now in
    let scopes : List (List ℕ) = v.asked in
    let past : length scopes ≤ c.loop-place.place = omega (arith, c.loop-place-test.false, c.len-place-end.ensures) in
    sym c.loop-place.invariant ∙ ap (filter (is_open_in v.rules.now v.asker c.args.entry.now)) (drop_all c.loop-place.place scopes past)
