use Rattle.std.proofs.Common.{◌≡◌, true, false, ap, sym, subst, ◌∙◌, arith}
use Rattle.std.specs.Option.{option_map}
use Rattle.std.proofs.lemmas.Bool.Decides.{nat_tests}
use Rattle.std.specs.Cmp.Lexicographic.{as_long}
use Rattle.slp_text.specs.Words.{bytes_eq, texts_eq}
use Rattle.registry_core.specs.Entries.{outlives}
use Rattle.directory_judge.specs.Judgements.{Grounds, ruling_in}
use Rattle.directory_judge.specs.Walks.{IsRuledWalk, IsVisit}
use Rattle.directory_judge.specs.declared.withdrawals.RuledEntry.{RuledEntry}
use Rattle.access_rules.specs.Deciding.{deed}
use Rattle.access_rules.specs.declared.rule.Action.TheVariants.{Withdraw}
use Rattle.directory_judge.proofs.Rulings.{IsRuledWalk-with, IsVisit-dead, IsVisit-other, IsVisit-with, no-scopes, not-false, not-true, ruling-none}
use Rattle.directory_judge.proofs.grounds.Grounds.visit.Goals as goal

pub returns-in-Some-clause-entry : goal.returns-in-Some-clause-entry
returns-in-Some-clause-entry g c =
    let on = c.args.self.now in
    let e = c.args.entry.now in
    let r : RuledEntry = record { entry = c.args.entry; finding = c.in-Some.finding } in
    let moment : on.now ≡ c.self.inside.moment = sym (ap (λ (v : Grounds). v.now) c.self.view_is) in
    let lives : outlives on.now e ≡ true = grind (arith, nat_tests, moment, c.if-entry-from.false, c.from.ensures) in
    let same : texts_eq e.scopes c.args.scopes.now ≡ true = not-false (texts_eq e.scopes c.args.scopes.now) (sym c.ne.ensures ∙ c.if-ne.false) in
    subst (IsVisit on c.args.scopes.now e c.args.walk) (sym c.with.ensures) (IsVisit-with on c.args.scopes.now c.args.walk r (sym c.in-Some.ensures) lives same)

pub returns-in-None-clause-entry : goal.returns-in-None-clause-entry
returns-in-None-clause-entry g c =
    let on = c.args.self.now in
    let e = c.args.entry.now in
    let same : texts_eq e.scopes c.args.scopes.now ≡ true = not-false (texts_eq e.scopes c.args.scopes.now) (sym c.ne.ensures ∙ c.if-ne.false) in
    let long = as_long bytes_eq e.scopes c.args.scopes.now same in
    let none = no-scopes e.scopes (ruling-none on.rules (deed on.asker Withdraw e.kind e.owner) e.scopes (sym c.rule.ensures ∙ ap (option_map ruling_in) c.in-None.is)).1 in
    absurd (omega (arith, none, long, c.requires.some_scope))

pub returns-then-entry-from-clause-entry : goal.returns-then-entry-from-clause-entry
returns-then-entry-from-clause-entry g c =
    let on = c.args.self.now in
    let e = c.args.entry.now in
    let moment : on.now ≡ c.self.inside.moment = sym (ap (λ (v : Grounds). v.now) c.self.view_is) in
    let dead : outlives on.now e ≡ false = grind (arith, nat_tests, moment, c.if-entry-from.true, c.from.ensures) in
    IsVisit-dead on c.args.scopes.now c.args.walk e dead

pub returns-then-entry-from-clause-ruled : goal.returns-then-entry-from-clause-ruled
returns-then-entry-from-clause-ruled g c = c.requires.ruled

pub returns-then-ne-clause-entry : goal.returns-then-ne-clause-entry
returns-then-ne-clause-entry g c =
    let on = c.args.self.now in
    let e = c.args.entry.now in
    let moment : on.now ≡ c.self.inside.moment = sym (ap (λ (v : Grounds). v.now) c.self.view_is) in
    let lives : outlives on.now e ≡ true = grind (arith, nat_tests, moment, c.if-entry-from.false, c.from.ensures) in
    IsVisit-other on c.args.scopes.now c.args.walk e lives (not-true _ (sym c.ne.ensures ∙ c.if-ne.true))

pub returns-then-ne-clause-ruled : goal.returns-then-ne-clause-ruled
returns-then-ne-clause-ruled g c = record { first = c.requires.ruled.first; kept = c.requires.ruled.kept }

pub returns-in-Some-clause-ruled : goal.returns-in-Some-clause-ruled
returns-in-Some-clause-ruled g c =
    let r : RuledEntry = record { entry = c.args.entry; finding = c.in-Some.finding } in
    subst (IsRuledWalk c.args.self.now) (sym c.with.ensures) (IsRuledWalk-with c.args.self.now c.args.scopes.now c.args.walk r (sym c.in-Some.ensures) c.requires.ruled)

pub returns-in-None-clause-ruled : goal.returns-in-None-clause-ruled
returns-in-None-clause-ruled g c = record { first = c.requires.ruled.first; kept = c.requires.ruled.kept }
