use Rattle.std.proofs.Common.{◌≤◌, Some, sym, ap, subst, inl, inr}
use Rattle.std.proofs.lemmas.Bool.{cases_lt}
use Rattle.directory_state.specs.Searches.{bytes_in, shortlist_with, IsOpenBefore}
use Rattle.directory_state.proofs.PassedEntries.{run-before, run-next, seen-before}
use Rattle.directory_state.proofs.search.Shortlist.meet.Goals as goal
use Rattle.directory_state.proofs.search.Shortlist.meet.Goals.{then-is_over, else-is_over}

pub if_live-first-requires : goal.if_live-first-requires
if_live-first-requires g c =
    let v = c.args.question.now.viewer in
    let rest = g.R.Registry.rest_of_kind c.args.registry.now (Some c.args.question.now.query.now.kind) in
    (run-next v rest c.args.stand.from c.in-Some.place c.in-Some-next_alike.entry.now (subst (IsOpenBefore v rest c.args.stand.from) c.in-Some.is c.requires.open) c.in-Some-next_alike.ensures.next).1

pub returns-clause-open : goal.returns-clause-open
returns-clause-open g c =
    let v = c.args.question.now.viewer in
    let rest = g.R.Registry.rest_of_kind c.args.registry.now (Some c.args.question.now.query.now.kind) in
    let f = c.in-Some-next_alike.entry.now in
    let now = run-next v rest c.args.stand.from c.in-Some.place f (subst (IsOpenBefore v rest c.args.stand.from) c.in-Some.is c.requires.open) c.in-Some-next_alike.ensures.next in
    run-before v rest c.args.stand.from c.in-Some.place f now

pub returns-clause-next : goal.returns-clause-next
returns-clause-next g c =
    let v = c.args.question.now.viewer in
    let rest = g.R.Registry.rest_of_kind c.args.registry.now (Some c.args.question.now.query.now.kind) in
    let now = run-next v rest c.args.stand.from c.in-Some.place c.in-Some-next_alike.entry.now (subst (IsOpenBefore v rest c.args.stand.from) c.in-Some.is c.requires.open) c.in-Some-next_alike.ensures.next in
    ap (shortlist_with c.args.self.now c.args.question.now) now.0

pub returns-clause-each : goal.returns-clause-each
returns-clause-each g c = λ empty.
    let v = c.args.question.now.viewer in
    let rest = g.R.Registry.rest_of_kind c.args.registry.now (Some c.args.question.now.query.now.kind) in
    (run-next v rest c.args.stand.from c.in-Some.place c.in-Some-next_alike.entry.now (subst (IsOpenBefore v rest c.args.stand.from) c.in-Some.is c.requires.open) c.in-Some-next_alike.ensures.next).0

pub returns-2-clause-open : goal.returns-2-clause-open
returns-2-clause-open g c =
    let v = c.args.question.now.viewer in
    let rest = g.R.Registry.rest_of_kind c.args.registry.now (Some c.args.question.now.query.now.kind) in
    elim c.if-is_over.branch [
      | then-is_over w ↦ subst (IsOpenBefore v rest c.in_ok-entry.from) (sym w.known-is) tt
      | else-is_over w ↦
          let fits : c.args.self.now.used ≤ bytes_in c.args.self.now.room = elim (cases_lt (bytes_in c.args.self.now.room) c.args.self.now.used) [
            | inl over ↦ let no = w.if-is_over.ensures.1 over in cc
            | inr within ↦ within
          ] in
          subst (IsOpenBefore v rest c.in_ok-entry.from) (sym w.known-is) (seen-before v rest c.in_ok-entry.from c.in_ok-entry.entry.now c.sees-first.result (c.in_ok-entry.ensures.there fits) c.sees-first.ensures.seen)
    ]
