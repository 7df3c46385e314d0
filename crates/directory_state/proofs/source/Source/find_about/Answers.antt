use Rattle.std.proofs.Common.{map, refl, subst, sym}
use Rattle.std.specs.Prelude.{◌↔◌}
use Rattle.directory_questions.specs.Calls.{standpoint}
use Rattle.directory_questions.specs.Items.{is_target, IsOpenNow, Matches}
use Rattle.directory_questions.specs.declared.query.Target.{Target}
use Rattle.directory_state.specs.Searches.{seen_of, IsIn}
use Rattle.directory_state.specs.State.{State}
use Rattle.directory_state.proofs.OpenEntries.{seen-open, KeepsTest}
use Rattle.directory_state.proofs.Sources.{source-listing}
use Rattle.directory_state.proofs.source.Source.find_about.Goals as goal

-- no attributes are looked at
keeps : (t : Target) → KeepsTest (is_target t)
keeps (Target.Kind k) e a = refl
keeps (Target.Place u) e a = refl

pub returns-clause-found : goal.returns-clause-found
returns-clause-found g c = λ o h k e.
    let s : State = k.state in
    let f = c.in_ok-entries.ensures.found in
    let v = c.in-Some.viewer in
    let t = c.args.query.now.target in
    let p = is_target t in
    let listed = source-listing t s c.args.self.now f.0 k.source f.1 in
    subst (λ es. IsIn (map (seen_of v) es) e ↔ Matches (IsOpenNow (standpoint o h c.args.moment c.args.asker) c.args.query.now.scopes) p e) (sym f.2)
    (seen-open o h s c.args.moment c.args.asker c.args.query.now.scopes v p f.0 k.fold (c.in-Some.ensures.viewer t s k.source) (keeps t) listed e)
