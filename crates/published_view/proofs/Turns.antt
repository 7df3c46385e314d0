-- The steps that keep the rule: a thread comes, a thread asks at what is published, and the writer shows the same, or what it wrote.
use Rattle.std.proofs.Common.{◌≡◌, ℕ, List, [], ◌∷◌, Option, set, refl, sym, ap, ◌∙◌, subst}
use Rattle.logbook.specs.Pages.{Book}
use Rattle.left_right.specs.Register.{Admits, TurnsAt}
use Rattle.atomic_table.proofs.Lists.{set_again}
use Rattle.directory_judge.specs.Contents.{content}
use Rattle.directory_judge.specs.History.{History}
use Rattle.directory_questions.specs.Calls.{Opening, Call}
use Rattle.directory_questions.specs.Verdicts.{IsLegal}
use Rattle.directory_state.specs.Folds.{Fold}
use Rattle.directory_state.specs.State.{State, opening_state, state_after, state_made}
use Rattle.directory_state.proofs.LegalHistories.{Fold-events, one_step}
use Rattle.published_view.specs.Traces.{Asked, Wrote, Trace, HaveRuns, IsWritten}
use Rattle.published_view.specs.Rules.{IsAfter, IsPublished, Leaves, NextOf, SeesAll, Shows, history_of}
use Rattle.published_view.proofs.Entries.{have_pasts, has_runs, nothing_ran, one_asks, one_comes, one_writes, set_at}
use Rattle.published_view.specs.Steps.{stepped}
use Rattle.published_view.specs.declared.copies.PublishedCopy.{PublishedCopy}
use Rattle.published_view.specs.declared.copies.Step.{Step}

module _ (book : Book) (o : Opening) where
  pub admits : Admits (IsPublished book o) []
  admits x traces h = (h.0, one_comes o (history_of x) traces h.1)

  pub opens : (x : PublishedCopy) → IsAfter book o x → history_of x ≡ [] → IsPublished book o x ([] ∷ [])
  opens x is empty = (is, one_comes o (history_of x) [] (subst (λ (h : History). HaveRuns o h []) (sym empty) (nothing_ran o)))

  -- a thread asks at what is published
  pub enters : (seat : ℕ) (v : Trace) (call : Option Call) (x : PublishedCopy) → TurnsAt (IsPublished book o) seat v x x (SeesAll book o call)
  enters seat v call x traces h at =
      let g = history_of x in
      let more : HaveRuns o g (set traces seat (Asked g call ∷ v)) = one_asks o g traces seat v at call h.1 in (
        Asked g call ∷ v,
        (h.0, more),
        (
          record {
            newest = refl;
            later = have_pasts o g traces h.1 seat v at;
            legal = h.0.legal;
            runs = has_runs o g (set traces seat (Asked g call ∷ v)) more seat (Asked g call ∷ v) (set_at traces seat v (Asked g call ∷ v) at);
          },
          refl,
          h.0,
        ),
      )

  -- a step makes of it the state of the longer history
  pub goes_on : (call : Option Call) (k : PublishedCopy) (s : Step) → IsAfter book o k → NextOf book o call (history_of k) s → IsAfter book o (stepped k s)
  goes_on call k s is next = record {
    book_is = next.book_is;
    legal = subst (λ (h : History). IsLegal o h) (sym next.longer) next.legal;
    left = ap (λ (d : State). state_made (content s.change) d) is.left ∙ (one_step o (history_of k) next.event (content s.change) next.legal next.stands ∙ ap (λ (h : History). state_after o h) (sym next.longer));
  }

  -- the writer shows what is the same
  pub shows : (seat : ℕ) (v : Trace) (x y : PublishedCopy) → y ≡ x → TurnsAt (IsPublished book o) seat v x y (Shows book o)
  shows seat v x y same traces h at =
      let is : IsPublished book o y traces = subst (λ (k : PublishedCopy). IsPublished book o k traces) (sym same) h in
      (v, (is.0, subst (λ (us : List Trace). HaveRuns o (history_of y) us) (sym (set_again traces seat v at)) is.1), (refl, is.0))

  -- the writer shows what it wrote
  pub leaves : (seat : ℕ) (v : Trace) (call : Option Call) (x y : PublishedCopy) (s : Step) → NextOf book o call (history_of x) s → y ≡ stepped x s → TurnsAt (IsPublished book o) seat v x y (Leaves book o call)
  leaves seat v call x y s next same traces h at =
      let longer : history_of y ≡ next.event ∷ history_of x = ap (λ (k : PublishedCopy). history_of k) same ∙ next.longer in
      let left : IsWritten o call (history_of x) (history_of y) = subst (λ (g : History). IsWritten o call (history_of x) g) (sym longer) next.written in
      let after : IsAfter book o y = subst (λ (k : PublishedCopy). IsAfter book o k) (sym same) (goes_on call x s h.0 next) in
      (Wrote (history_of y) call ∷ v, (after, one_writes o (history_of x) (history_of y) call left traces seat v at h.1), (refl, after))

  -- the directory is the state of its history
  pub folded : (k : PublishedCopy) → IsAfter book o k → Fold o (history_of k) k.directory
  folded k is = subst (λ (s : State). Fold o (history_of k) s) (sym is.left) (Fold-events o (history_of k) is.legal)

  -- a directory to which nothing happened
  pub opens_at : (k : PublishedCopy) → k.trail.seen.book ≡ book → history_of k ≡ [] → k.directory ≡ opening_state o → IsAfter book o k
  opens_at k named empty is = record {
    book_is = named;
    legal = subst (λ (h : History). IsLegal o h) (sym empty) tt;
    left = is ∙ ap (λ (h : History). state_after o h) (sym empty);
  }
