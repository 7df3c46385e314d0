-- What a writer's own directory tells at the history that it published.
use Rattle.std.proofs.Common.{◌≡◌, ℕ, max, List, ◌∷◌, Option, None, inl, inr, refl, sym, ap, ◌∙◌, subst, arith}
use Rattle.logbook.specs.Pages.{Book}
use Rattle.access_rules.specs.Deciding.{SiteRules}
use Rattle.directory_judge.specs.History.{History, now}
use Rattle.directory_judge.specs.declared.change.Change.{Change}
use Rattle.directory_questions.specs.Calls.{Opening}
use Rattle.directory_questions.specs.Verdicts.{IsLegal}
use Rattle.directory_state.specs.Folds.{Fold}
use Rattle.slp_answer.specs.Answers.{Acknowledges}
use Rattle.slp_replies.specs.declared.answer.Sent.{Sent}
use Rattle.published_view.specs.declared.copies.PublishedCopy.{PublishedCopy}
use Rattle.directory_runs.specs.Changes.{reload_at, sweep_at}
use Rattle.directory_runs.specs.Runs.{Sweep, Reload}
use Rattle.published_view.specs.Changes.{Writing}
use Rattle.published_view.specs.Rules.{IsAfter, history_of}
use Rattle.published_view.specs.Traces.{IsWritten}
use Rattle.published_view.proofs.Turns.{folded}

-- the history that a writer is known by
abbrev pub published : Writing → History
published w = w.history

module _ {book : Book} {o : Opening} (own : PublishedCopy) (h : History) (is : IsAfter book o own) (same : history_of own ≡ h) where
  pub legal_at : IsLegal o h
  legal_at = subst (λ (x : History). IsLegal o x) same is.legal

  pub folded_at : Fold o h own.directory
  folded_at = subst (λ (x : History). Fold o x own.directory) same (folded book o own is)

  -- what is acknowledged at every history of which the directory is the state, is acknowledged there
  pub told_at : {m asker : ℕ} {bytes : List ℕ} {what : Sent} {change : Option Change} {reply line : List ℕ}
      → ((p : Opening) (g : History) → Fold p g own.directory → IsLegal p g → Acknowledges p g m asker bytes what change reply line) → Acknowledges o h m asker bytes what change reply line
  told_at told = told o h folded_at legal_at

  module _ (m n : ℕ) (at : n ≡ max m own.directory.clock) where
    -- the moment at which a call acts
    pub acts_at : n ≡ now h m
    acts_at = at ∙ ap (max m) folded_at.clocks

    -- what the operator does at it is legal
    pub sweep_is_legal : IsLegal o (sweep_at n ∷ h)
    sweep_is_legal = (omega (arith, acts_at), tt, legal_at)

    pub reload_is_legal : (rs : SiteRules) → IsLegal o (reload_at n rs ∷ h)
    reload_is_legal rs = (omega (arith, acts_at), tt, legal_at)

    -- and is written
    pub sweep_is_written : IsWritten o None h (sweep_at n ∷ h)
    sweep_is_written = (Sweep m, inl (m, refl), λ w at. (tt, ap (λ (x : History). sweep_at (now x m) ∷ x) at ∙ ap (λ (k : ℕ). sweep_at k ∷ h) (sym acts_at)))

    pub reload_is_written : (rs : SiteRules) → IsWritten o None h (reload_at n rs ∷ h)
    reload_is_written rs = (Reload m rs, inr (m, rs, refl), λ w at. (tt, ap (λ (x : History). reload_at (now x m) rs ∷ x) at ∙ ap (λ (k : ℕ). reload_at k rs ∷ h) (sym acts_at)))
