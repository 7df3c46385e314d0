-- What every event of a run keeps.
use Rattle.std.proofs.Common.{◌≡◌, ℕ, Bool, true, false, cond, List, [], ◌∷◌, ◌++◌, refl, sym, ap, subst, arith, Option, Some, None}
use Rattle.std.specs.Prelude.{◌↔◌, ◌==◌, Contains}
use Rattle.std.specs.List.{All}
use Rattle.std.proofs.lemmas.List.Elements.{All-nil, All-cons, All-weaker, All-contains}
use Rattle.std.proofs.lemmas.Bool.Decides.{nat_tests}
use Rattle.registry_core.specs.declared.entry.Entry.{Entry as AnyEntry}
use Rattle.directory_judge.specs.History.{History, Event, clock}
use Rattle.directory_questions.specs.Answers.{is_change_of, IsAnswer, IsOpenTo}
use Rattle.directory_questions.specs.Bytes.{AreBytes}
use Rattle.directory_questions.specs.Calls.{Opening, Call}
use Rattle.directory_questions.specs.Verdicts.{IsLegal, history_with}
use Rattle.directory_runs.specs.Runs.{Happening, Publish, Sweep, Reload, Entry, Look, Tell, Learn, Refusal, Reply, World, Run, IsRun, May, shown, happened, world}
use Rattle.history_log.specs.Pasts.{IsPast, longer}
use Rattle.history_log.proofs.Pasts.{IsPast-self, IsPast-cons, IsPast-trans, longer-past, longer-first, longer-second}
use Rattle.directory_state.proofs.Outcomes.{stays_legal, open-told}

history_with-past : (change : Option Event) (h : History) → IsPast h (history_with change h)
history_with-past None h = IsPast-self h
history_with-past (Some c) h = IsPast-cons c h h (IsPast-self h)

-- what is published only gets longer
pub grows : (o : Opening) (w : World) (e : Happening) → May o w e → IsPast w.published (happened w e).published
grows o w (Publish c t after) may = history_with-past after w.published
grows o w (Sweep m) may = IsPast-cons _ w.published w.published (IsPast-self w.published)
grows o w (Reload m rs) may = IsPast-cons _ w.published w.published (IsPast-self w.published)
grows o w (Entry i c t) may = IsPast-self w.published
grows o w (Look i) may = IsPast-self w.published
grows o w Tell may = IsPast-self w.published
grows o w (Learn i n) may = IsPast-self w.published
grows o w Refusal may = IsPast-self w.published

legal_step : (o : Opening) (w : World) (e : Happening) → May o w e → IsLegal o w.published → IsLegal o (happened w e).published
legal_step o w (Publish c t after) may legal = stays_legal o w.published c t after may.0 legal may.2
legal_step o w (Sweep m) may legal = (omega arith, tt, legal)
legal_step o w (Reload m rs) may legal = (omega arith, tt, legal)
legal_step o w (Entry i c t) may legal = legal
legal_step o w (Look i) may legal = legal
legal_step o w Tell may legal = legal
legal_step o w (Learn i n) may legal = legal
legal_step o w Refusal may legal = legal

pub legal_run : (o : Opening) (run : Run) → IsRun o run → IsLegal o (world run).published
legal_run o [] is = tt
legal_run o (e ∷ run) is = legal_step o (world run) e is.0 (legal_run o run is.1)

-- ---- all is of one history

-- a reply is what is told of its call at its history, which is a past of the one that is published
pub record IsGiven (o : Opening) (h : History) (r : Reply) : Type 0 where
  pub past : IsPast r.at h
  pub bytes : AreBytes r.call.bytes
  pub still : is_change_of r.call.bytes ≡ false
  pub answers : IsAnswer o r.at r.call r.outcome None

-- each goes on from those before it
abbrev pub IsInOrder : List Reply → Type 0
IsInOrder [] = Unit {0}
IsInOrder (r ∷ rs) = All (λ (s : Reply). IsPast s.at r.at) rs × IsInOrder rs

pub record Kept (o : Opening) (w : World) : Type 0 where
  pub seen : (i : ℕ) → IsPast (w.seen i) w.published
  pub notes : All (λ n. IsPast n w.published) w.notes
  pub replies : All (IsGiven o w.published) w.replies
  pub order : IsInOrder w.replies

shown-past : (P : History → Type 0) (seen : ℕ → History) (i : ℕ) (h : History) → ((j : ℕ) → P (seen j)) → P h → (j : ℕ) → P (shown i h seen j)
shown-past P seen i h all one j = elim (j == i) as (λ b. P (cond b h (seen j))) [ true ↦ one | false ↦ all j ]

IsGiven-more : (o : Opening) (g h : History) → IsPast g h → (r : Reply) → IsGiven o g r → IsGiven o h r
IsGiven-more o g h more r is = record { past = IsPast-trans r.at g h is.past more; bytes = is.bytes; still = is.still; answers = is.answers }

-- more is published
more_kept : (o : Opening) (w : World) (h : History) → IsPast w.published h → Kept o w → Kept o (record w { published = h })
more_kept o w h more k = record {
  seen = λ i. IsPast-trans (w.seen i) w.published h (k.seen i) more;
  notes = All-weaker (λ n. IsPast n w.published) (λ n. IsPast n h) (λ n p. IsPast-trans n w.published h p more) w.notes k.notes;
  replies = All-weaker (IsGiven o w.published) (IsGiven o h) (IsGiven-more o w.published h more) w.replies k.replies;
  order = k.order;
}

kept_step : (o : Opening) (w : World) (e : Happening) → May o w e → Kept o w → Kept o (happened w e)
kept_step o w (Publish c t after) may k = more_kept o w (history_with after w.published) (grows o w (Publish c t after) may) k
kept_step o w (Sweep m) may k = more_kept o w _ (grows o w (Sweep m) may) k
kept_step o w (Reload m rs) may k = more_kept o w _ (grows o w (Reload m rs) may) k
kept_step o w (Entry i c t) may k = record {
  seen = shown-past (λ h. IsPast h w.published) w.seen i w.published k.seen (IsPast-self w.published);
  notes = k.notes;
  replies = All-cons (IsGiven o w.published) _ w.replies (record { past = IsPast-self w.published; bytes = may.0; still = may.1; answers = may.2 }) k.replies;
  order = (All-weaker (IsGiven o w.published) (λ (s : Reply). IsPast s.at w.published) (λ s is. is.past) w.replies k.replies, k.order);
}
kept_step o w (Look i) may k = record { seen = shown-past (λ h. IsPast h w.published) w.seen i w.published k.seen (IsPast-self w.published); notes = k.notes; replies = k.replies; order = k.order }
kept_step o w Tell may k = record { seen = k.seen; notes = All-cons (λ n. IsPast n w.published) w.published w.notes (IsPast-self w.published) k.notes; replies = k.replies; order = k.order }
kept_step o w (Learn i n) may k = record {
  seen = shown-past (λ h. IsPast h w.published) w.seen i (longer (w.seen i) n) k.seen (longer-past (w.seen i) n w.published (k.seen i) (All-contains (λ x. IsPast x w.published) w.notes n k.notes may));
  notes = k.notes;
  replies = k.replies;
  order = k.order;
}
kept_step o w Refusal may k = k

pub kept_run : (o : Opening) (run : Run) → IsRun o run → Kept o (world run)
kept_run o [] is = record { seen = λ i. IsPast-self []; notes = All-nil (λ n. IsPast n []); replies = All-nil (IsGiven o []); order = tt }
kept_run o (e ∷ run) is = kept_step o (world run) e is.0 (kept_run o run is.1)

-- ---- nothing is forgotten

pub published_grows : (o : Opening) (later run : Run) → IsRun o (later ++ run) → IsPast (world run).published (world (later ++ run)).published
published_grows o [] run is = IsPast-self (world run).published
published_grows o (e ∷ later) run is = IsPast-trans _ (world (later ++ run)).published _ (published_grows o later run is.1) (grows o (world (later ++ run)) e is.0)

shown-grows : (seen : ℕ → History) (i : ℕ) (h : History) → IsPast (seen i) h → (j : ℕ) → IsPast (seen j) (shown i h seen j)
shown-grows seen i h p j = elim (j == i) as (λ b. (j == i) ≡ b → IsPast (seen j) (cond b h (seen j))) [
  | true ↦ λ is. let same : j ≡ i = grind (arith, nat_tests) in subst (λ (k : ℕ). IsPast (seen k) h) (sym same) p
  | false ↦ λ _. IsPast-self (seen j)
] refl

seen_step : (o : Opening) (w : World) (e : Happening) → May o w e → Kept o w → (i : ℕ) → IsPast (w.seen i) ((happened w e).seen i)
seen_step o w (Publish c t after) may k i = IsPast-self (w.seen i)
seen_step o w (Sweep m) may k i = IsPast-self (w.seen i)
seen_step o w (Reload m rs) may k i = IsPast-self (w.seen i)
seen_step o w (Entry j c t) may k i = shown-grows w.seen j w.published (k.seen j) i
seen_step o w (Look j) may k i = shown-grows w.seen j w.published (k.seen j) i
seen_step o w Tell may k i = IsPast-self (w.seen i)
seen_step o w (Learn j n) may k i =
    shown-grows w.seen j (longer (w.seen j) n) (longer-first (w.seen j) n w.published (k.seen j) (All-contains (λ x. IsPast x w.published) w.notes n k.notes may)) i
seen_step o w Refusal may k i = IsPast-self (w.seen i)

pub seen_grows : (o : Opening) (later run : Run) (i : ℕ) → IsRun o (later ++ run) → IsPast ((world run).seen i) ((world (later ++ run)).seen i)
seen_grows o [] run i is = IsPast-self ((world run).seen i)
seen_grows o (e ∷ later) run i is =
    IsPast-trans _ ((world (later ++ run)).seen i) _ (seen_grows o later run i is.1) (seen_step o (world (later ++ run)) e is.0 (kept_run o (later ++ run) is.1) i)

-- ---- replies

rest_is_run : (o : Opening) (later run : Run) → IsRun o (later ++ run) → IsRun o run
rest_is_run o [] run is = is
rest_is_run o (e ∷ later) run is = rest_is_run o later run is.1

order_at : (newer older : List Reply) (r : Reply) → IsInOrder (newer ++ r ∷ older) → All (λ (s : Reply). IsPast s.at r.at) older
order_at [] older r is = is.0
order_at (x ∷ newer) older r is = order_at newer older r is.1

pub go_on : (o : Opening) (run : Run) (newer older : List Reply) (r s : Reply) → IsRun o run → (world run).replies ≡ newer ++ r ∷ older → Contains older s → IsPast s.at r.at
go_on o run newer older r s is all has = All-contains (λ (s : Reply). IsPast s.at r.at) older s (order_at newer older r (subst IsInOrder all (kept_run o run is).order)) has

abbrev Since : World → World → Type 0
Since v w = (fresh : List Reply) × (w.replies ≡ fresh ++ v.replies) × All (λ (r : Reply). IsPast (v.seen r.loop) r.at) fresh

since_step : (o : Opening) (v w : World) (e : Happening) → May o w e → ((i : ℕ) → IsPast (v.seen i) w.published) → Since v w → Since v (happened w e)
since_step o v w (Publish c t after) may all s = s
since_step o v w (Sweep m) may all s = s
since_step o v w (Reload m rs) may all s = s
since_step o v w (Entry i c t) may all s =
    let r : Reply = record { loop = i; at = w.published; call = c; outcome = t } in
    (r ∷ s.0, ap (λ (x : List Reply). r ∷ x) s.1, All-cons (λ (r : Reply). IsPast (v.seen r.loop) r.at) r s.0 (all i) s.2)
since_step o v w (Look i) may all s = s
since_step o v w Tell may all s = s
since_step o v w (Learn i n) may all s = s
since_step o v w Refusal may all s = s

since_run : (o : Opening) (later run : Run) → IsRun o (later ++ run) → Since (world run) (world (later ++ run))
since_run o [] run is = ([], refl, All-nil (λ (r : Reply). IsPast ((world run).seen r.loop) r.at))
since_run o (e ∷ later) run is =
    since_step o (world run) (world (later ++ run)) e is.0
    (λ i. IsPast-trans _ (world run).published _ ((kept_run o run (rest_is_run o later run is.1)).seen i) (published_grows o later run is.1))
    (since_run o later run is.1)

pub fresh_replies : (o : Opening) (later run : Run) → IsRun o (later ++ run) → (fresh : List Reply) × ((world (later ++ run)).replies ≡ fresh ++ (world run).replies)
    × ((r : Reply) → Contains fresh r → IsPast ((world run).seen r.loop) r.at)
fresh_replies o later run is = let s = since_run o later run is in (s.0, s.1, λ r has. All-contains (λ (r : Reply). IsPast ((world run).seen r.loop) r.at) s.0 r s.2 has)

learnt_is_seen : (o : Opening) (run : Run) (i : ℕ) (n : History) → IsRun o (Learn i n ∷ run) → IsPast n ((world (Learn i n ∷ run)).seen i)
learnt_is_seen o run i n is =
    let w = world run in
    let k = kept_run o run is.1 in
    let own : (i == i) ≡ true = grind (arith, nat_tests) in
    subst (λ (b : Bool). IsPast n (cond b (longer (w.seen i) n) (w.seen i))) (sym own) (longer-second (w.seen i) n w.published (k.seen i) (All-contains (λ x. IsPast x w.published) w.notes n k.notes is.0))

pub learnt_replies : (o : Opening) (later run : Run) (i : ℕ) (n : History) → IsRun o (later ++ Learn i n ∷ run) → (fresh : List Reply) × ((world (later ++ Learn i n ∷ run)).replies ≡ fresh ++ (world run).replies)
    × ((r : Reply) → Contains fresh r → r.loop ≡ i → IsPast n r.at)
learnt_replies o later run i n is =
    let s = fresh_replies o later (Learn i n ∷ run) is in
    let w = world (Learn i n ∷ run) in
    let learnt = learnt_is_seen o run i n (rest_is_run o later (Learn i n ∷ run) is) in
    (s.0, s.1, λ r has same. IsPast-trans n (w.seen i) r.at learnt (subst (λ (j : ℕ). IsPast (w.seen j) r.at) same (s.2 r has)))

pub alike : (o : Opening) (run : Run) (r s : Reply) → IsRun o run → Contains (world run).replies r → Contains (world run).replies s → r.call ≡ s.call → clock r.at ≡ clock s.at
    → ((e : AnyEntry) → IsOpenTo o r.at r.call e ↔ IsOpenTo o s.at r.call e) → r.outcome ≡ s.outcome
alike o run r s is has more same clocks open_to =
    let w = world run in
    let k = kept_run o run is in
    let a = All-contains (IsGiven o w.published) w.replies r k.replies has in
    let b = All-contains (IsGiven o w.published) w.replies s k.replies more in
    open-told o r.at s.at r.call r.outcome s.outcome a.bytes a.still clocks open_to a.answers (subst (λ (c : Call). IsAnswer o s.at c s.outcome None) (sym same) b.answers)
