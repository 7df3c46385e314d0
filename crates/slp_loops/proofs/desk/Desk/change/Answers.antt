use Rattle.std.proofs.Common.{◌≡◌, true, [], Result, Ok, Err, refl, sym, ◌∙◌, subst}
use Rattle.std.specs.Prelude.{IfOk, OnOk}
use Rattle.std.specs.Result.{is_ok}
use Rattle.std.proofs.lemmas.Bool.{true≢false}
use Rattle.directory_judge.specs.History.{History}
use Rattle.history_log.specs.Pasts.{IsPast}
use Rattle.published_view.specs.Traces.{last_at}
use Rattle.slp_loops.proofs.desk.Desk.change.Goals as goal
use Rattle.slp_loops.proofs.desk.Desk.change.Goals.{in-Ok, in-Err}

where_ok : {A E : Type 0} (r : Result A E) (P : Type 0) → is_ok r ≡ true → OnOk r P → P
where_ok (Ok x) P is holds = holds
where_ok (Err e) P is holds = absurd cc

pub returns-clause-served : goal.returns-clause-served
returns-clause-served g c = record {
  before = c.deref_mut.result.now.history;
  after = c.change_and_note-changed.new.writer.history;
  legal = c.in_ok-sent.ensures.legal;
  changed = c.in_ok-sent.ensures.made;
  told = elim c.match-note.branch [
    | in-Ok w ↦ λ is.
        let noted : w.in-Ok.note ≡ c.change_and_note-changed.new.writer.history = subst (λ r. IfOk r (λ n. n ≡ c.change_and_note-changed.new.writer.history)) w.in-Ok.is c.in_ok-sent.ensures.noted in
        let seen : IsPast w.in-Ok.note (last_at w.learn.new.self) = where_ok w.learn.result (IsPast w.in-Ok.note (last_at w.learn.new.self)) (sym w.is_ok-self.ensures.value ∙ (sym w.self2-is ∙ is)) w.learn.ensures.learnt in
        subst (λ s. IsPast c.change_and_note-changed.new.writer.history (last_at s.view)) (sym w.self-is) (subst (λ (h : History). IsPast h (last_at w.learn.new.self)) noted seen)
    | in-Err w ↦ λ is. absurd (true≢false (sym is ∙ w.self2-is))
  ];
}

pub returns-clause-later : goal.returns-clause-later
returns-clause-later g c = elim c.match-note.branch [
  | in-Ok w ↦ subst (λ s. IsPast (last_at c.args.self.now.view) (last_at s.view)) (sym w.self-is) w.learn.ensures.later
  | in-Err w ↦ subst (λ s. IsPast (last_at c.args.self.now.view) (last_at s.view)) (sym w.self-is) ([], refl)
]
