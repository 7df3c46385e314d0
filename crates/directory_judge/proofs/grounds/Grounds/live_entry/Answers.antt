use Rattle.std.proofs.Common.{◌≡◌, Some, None, false, true, cond, sym, ap, ◌∙◌, arith, rules}
use Rattle.std.specs.Option.{option_copied}
use Rattle.std.specs.FinMap as fin
use Rattle.std.proofs.lemmas.Bool.Decides.{nat_tests}
use Rattle.registry_core.specs.Entries.{Pair, outlives, if_kept}
use Rattle.registry_core.proofs.Lists.{get-passing_entries}
use Rattle.directory_judge.specs.Judgements.{Grounds}
use Rattle.directory_judge.proofs.grounds.Grounds.live_entry.Goals as goal
use Rattle.directory_judge.proofs.grounds.Grounds.live_entry.Goals.{in_default-via-in-Some+else-entry-from, in_default-via-in_default}

pub returns-in-Some-clause-value : goal.returns-in-Some-clause-value
returns-in-Some-clause-value g c =
    let q : Pair = (c.args.url.now, c.args.language.now) in
    let t = c.self.inside.moment in
    let e = c.in-Some.entry.now in
    let lives : outlives t e ≡ true = grind (arith, nat_tests, c.if-entry-from.true, c.from.ensures) in
    sym (ap (λ b. cond b (Some e) None) lives) ∙ ap (if_kept (outlives t)) (sym (ap option_copied c.in-Some.is) ∙ c.find.ensures.value)
    ∙ sym (get-passing_entries (outlives t) (g.R.Registry.contents c.self.inside.registry.now) q) ∙ ap (λ (v : Grounds). fin.get v.live q) c.self.view_is

pub returns-in_default-clause-value : goal.returns-in_default-clause-value
returns-in_default-clause-value g c =
    let q : Pair = (c.args.url.now, c.args.language.now) in
    let t = c.self.inside.moment in
    let none : None ≡ if_kept (outlives t) (option_copied c.find.result) =
    elim c.in_default.branch [
      | in_default-via-in-Some+else-entry-from w ↦
          let dead : outlives t w.in-Some.entry.now ≡ false = grind (arith, nat_tests, w.if-entry-from.false, w.from.ensures) in
          sym (ap (λ b. cond b (Some w.in-Some.entry.now) None) dead) ∙ sym (ap (λ o. if_kept (outlives t) (option_copied o)) w.in-Some.is)
      | in_default-via-in_default w ↦
          let nothing : c.find.result ≡ None = search rules in
          sym (ap (λ o. if_kept (outlives t) (option_copied o)) nothing)
    ] in
    none ∙ ap (if_kept (outlives t)) c.find.ensures.value
    ∙ sym (get-passing_entries (outlives t) (g.R.Registry.contents c.self.inside.registry.now) q) ∙ ap (λ (v : Grounds). fin.get v.live q) c.self.view_is
