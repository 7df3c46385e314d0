-- Each step of a thread goes on with the run.
use Rattle.std.proofs.Common.{◌≡◌, ℕ, ◌<◌, ◌≤◌, ◌≢◌, Bool, true, false, cond, List, [], ◌∷◌, ◌++◌, length, set, suc, zero, refl, sym, ap, subst, ◌∙◌, arith, Option, Some, None, inl, inr, ⊎_elim}
use Rattle.std.specs.Prelude.{◌⊎◌, ◌==◌, Contains}
use Rattle.std.specs.List.{AllByRecursion}
use Rattle.std.proofs.lemmas.Bool.Decides.{nat_tests}
use mathlib.Core.Option.{some, some-injective, some-ne-none}
use lib.ListN.{get_elem?}
use Rattle.atomic_table.proofs.Lists.{at_set, set_else}
use Rattle.slp_text.proofs.KeySets.{here, there}
use Rattle.access_rules.specs.Deciding.{SiteRules}
use Rattle.directory_judge.specs.History.{History}
use Rattle.directory_questions.specs.Calls.{Opening, Call}
use Rattle.directory_questions.specs.Outcomes.{Outcome}
use Rattle.history_log.specs.Pasts.{IsPast}
use Rattle.history_log.proofs.Pasts.{IsPast-self, IsPast-trans}
use Rattle.directory_runs.specs.Runs.{Happening, Publish, Sweep, Reload, Entry, Look, Tell, Learn, Refusal, Run, IsRun, world}
use Rattle.directory_runs.specs.Served.{Visit, IsTold, last_seen, visits_of, is_write}
use Rattle.published_view.specs.Traces.{Mark, Asked, Wrote, Trace, last_at, told_of, told_visits, AreTold, AreAllTold, AreMade, HaveRuns, HasRuns, IsMade, IsWriteFor, IsWritten, IsWrittenIn}
use Rattle.directory_runs.proofs.Kept.{grows}
use Rattle.directory_runs.proofs.Merging.{visit_by, visit_may, visit_alike, newest, others-newest}

true-false : {A : Type 0} → true ≡ false → A
true-false e = absurd cc

-- ---- lists

pub last_alike : (told : ℕ → Option Outcome) (trace : Trace) → last_seen (told_visits told trace) ≡ last_at trace
last_alike told [] = refl
last_alike told (Asked h call ∷ trace) = refl
last_alike told (Wrote h call ∷ trace) = last_alike told trace

pub set_at : {A : Type 0} (l : List A) (i : ℕ) (a b : A) → get_elem? l i ≡ some a → get_elem? (set l i b) i ≡ some b
set_at [] i a b e = absurd (some-ne-none a (sym e))
set_at (x ∷ xs) zero a b e = refl
set_at (x ∷ xs) (suc i) a b e = set_at xs i a b e

set_length : {A : Type 0} (l : List A) (i : ℕ) (a : A) → length (set l i a) ≡ length l
set_length [] i a = refl
set_length (x ∷ xs) zero a = refl
set_length (x ∷ xs) (suc i) a = omega (arith, set_length xs i a)

within : {A : Type 0} (l : List A) (i : ℕ) (a : A) → get_elem? l i ≡ some a → i < length l
within [] i a e = absurd (some-ne-none a (sym e))
within (x ∷ xs) zero a e = omega arith
within (x ∷ xs) (suc i) a e = omega (arith, within xs i a e)

at_end : {A : Type 0} (l : List A) (a b : A) (j : ℕ) → get_elem? (l ++ a ∷ []) j ≡ some b → (get_elem? l j ≡ some b) ⊎ ((length l ≤ j) × (a ≡ b))
at_end [] a b zero e = inr (omega arith, some-injective a b e)
at_end [] a b (suc j) e = absurd (some-ne-none b (sym e))
at_end (x ∷ xs) a b zero e = inl e
at_end (x ∷ xs) a b (suc j) e = ⊎_elim (λ t. inl t) (λ t. let le = t.0 in inr (omega (arith, le), t.1)) (at_end xs a b j e)

end_within : {A : Type 0} (l : List A) (a b : A) (j : ℕ) → get_elem? l j ≡ some b → get_elem? (l ++ a ∷ []) j ≡ some b
end_within [] a b j e = absurd (some-ne-none b (sym e))
end_within (x ∷ xs) a b zero e = e
end_within (x ∷ xs) a b (suc j) e = end_within xs a b j e

longer_end : {A : Type 0} (l : List A) (a : A) (i : ℕ) → length (l ++ a ∷ []) ≤ i → length l ≤ i
longer_end [] a i le = omega arith
longer_end (x ∷ xs) a zero le = absurd (omega (arith, le))
longer_end (x ∷ xs) a (suc i) le = let less = longer_end xs a i (omega (arith, le)) in omega (arith, less)

-- ---- what a thread saw is a past

seen_past : (b : Bool) (h g : History) (t : Option (Call × Outcome)) (vs : List Visit) → IsPast (last_seen vs) h → IsPast (last_seen (cond b (record { at = h; told = t } ∷ vs) vs)) h
seen_past true h g t vs p = IsPast-self h
seen_past false h g t vs p = p

pub visits_past : (o : Opening) (i : ℕ) (run : Run) → IsRun o run → IsPast (last_seen (visits_of i run)) (world run).published
visits_past o i [] is = IsPast-self []
visits_past o i (Publish c r change ∷ es) is = IsPast-trans _ (world es).published _ (visits_past o i es is.1) (grows o (world es) (Publish c r change) is.0)
visits_past o i (Sweep m ∷ es) is = IsPast-trans _ (world es).published _ (visits_past o i es is.1) (grows o (world es) (Sweep m) is.0)
visits_past o i (Reload m rs ∷ es) is = IsPast-trans _ (world es).published _ (visits_past o i es is.1) (grows o (world es) (Reload m rs) is.0)
visits_past o i (Entry j c r ∷ es) is = seen_past (i == j) (world es).published [] (Some (c, r)) (visits_of i es) (visits_past o i es is.1)
visits_past o i (Look j ∷ es) is = seen_past (i == j) (world es).published [] None (visits_of i es) (visits_past o i es is.1)
visits_past o i (Tell ∷ es) is = visits_past o i es is.1
visits_past o i (Learn j n ∷ es) is = visits_past o i es is.1
visits_past o i (Refusal ∷ es) is = visits_past o i es is.1

-- ---- nothing was told

none_told : (o : Opening) (trace : Trace) → AreTold o (λ n. None) trace
none_told o [] = tt
none_told o (Asked h call ∷ trace) = (none call, none_told o trace)
  where
    none : (q : Option Call) → IsTold o h (told_of q None)
    none None = tt
    none (Some c) = tt
none_told o (Wrote h call ∷ trace) = none_told o trace

-- what each thread saw is a past of what is published
pub have_pasts : (o : Opening) (h : History) (traces : List Trace) → HaveRuns o h traces → (i : ℕ) (trace : Trace) → get_elem? traces i ≡ some trace → IsPast (last_at trace) h
have_pasts o h traces have i trace at =
    let r = have (λ j n. None) (λ j t e. none_told o t) in
    let run = r.0 in
    let past : IsPast (last_seen (visits_of i run)) h = subst (λ (x : History). IsPast (last_seen (visits_of i run)) x) r.1.at (visits_past o i run r.1.is) in
    subst (λ (x : History). IsPast x h) (ap last_seen (r.1.visits i trace at) ∙ last_alike (λ n. None) trace) past

-- there is a run for one thread, whatever it was told
pub has_runs : (o : Opening) (h : History) (traces : List Trace) → HaveRuns o h traces → (i : ℕ) (trace : Trace) → get_elem? traces i ≡ some trace → HasRuns o h trace
has_runs o h traces have i trace at told are =
    let all : ℕ → ℕ → Option Outcome = λ j. cond (j == i) told (λ n. None) in
    let own : (all i) ≡ told = subst (λ b. cond b told (λ n. None) ≡ told) (sym (self i)) refl in
    let r = have all (λ j t e. of_all j t e) in
    (r.0, i, r.1.is, r.1.at, r.1.visits i trace at ∙ ap (λ (f : ℕ → Option Outcome). told_visits f trace) own)
  where
    self : (i : ℕ) → (i == i) ≡ true
    self i = grind (arith, nat_tests)

    of_all : (j : ℕ) (t : Trace) → get_elem? traces j ≡ some t → AreTold o (cond (j == i) told (λ n. None)) t
    of_all j t e = elim (j == i) as (λ b. (j == i) ≡ b → AreTold o (cond b told (λ n. None)) t) [
      | true ↦ λ yes.
          let same : j ≡ i = grind (arith, nat_tests) in
          let one : trace ≡ t = some-injective trace t (sym at ∙ (ap (λ k. get_elem? traces k) (sym same) ∙ e)) in
          subst (λ (x : Trace). AreTold o told x) one are
      | false ↦ λ no. none_told o t
    ] refl

-- ---- what is written stays in the run, and what is made stays made

written-later : (e : Happening) (run : Run) (trace : Trace) → AllByRecursion (IsWrittenIn run) trace → AllByRecursion (IsWrittenIn (e ∷ run)) trace
written-later e run [] are = tt
written-later e run (Asked h call ∷ trace) are = (tt, written-later e run trace are.1)
written-later e run (Wrote h call ∷ trace) are = (inr are.0, written-later e run trace are.1)

made-still : (before after : List Trace) (h : History) (e : Happening)
    → ((i : ℕ) (t : Trace) (call : Option Call) → get_elem? before i ≡ some t → Contains t (Wrote h call) → (u : Trace) × (get_elem? after i ≡ some u) × Contains u (Wrote h call))
    → IsMade before h e → IsMade after h e
made-still before after h e kept is =
    let k = kept is.0 is.1 is.2 is.3 is.4 in
    (is.0, k.0, is.2, k.1, k.2, is.5)

abbrev KeepMarks : List Trace → List Trace → Type 0
KeepMarks before after = (h : History) (i : ℕ) (t : Trace) (call : Option Call) → get_elem? before i ≡ some t → Contains t (Wrote h call) → (u : Trace) × (get_elem? after i ≡ some u) × Contains u (Wrote h call)

made-by-all : (before after : List Trace) (run : Run) → KeepMarks before after → AreMade before run → AreMade after run
made-by-all before after [] kept are = tt
made-by-all before after (e ∷ es) kept are = (λ is. made-still before after (world (e ∷ es)).published e (kept (world (e ∷ es)).published) (are.0 is), made-by-all before after es kept are.1)

-- ---- steps

-- nothing happened, and no thread is there
pub nothing_ran : (o : Opening) → HaveRuns o [] []
nothing_ran o told are = ([], record { is = tt; at = refl; visits = λ i trace e. absurd (some-ne-none trace (sym e)); others = λ i le. refl; written = λ i trace e. absurd (some-ne-none trace (sym e)); made = tt })

-- a thread comes
pub one_comes : (o : Opening) (h : History) (traces : List Trace) → HaveRuns o h traces → HaveRuns o h (traces ++ [] ∷ [])
one_comes o h traces have told are =
    let r = have told (λ i trace e. are i trace (end_within traces [] trace i e)) in
    let run = r.0 in (
      run,
      record {
        is = r.1.is;
        at = r.1.at;
        visits = λ i trace e. ⊎_elim (λ f. r.1.visits i trace f) (λ (f : (length traces ≤ i) × ([] ≡ trace)). r.1.others i f.0 ∙ ap (told_visits (told i)) f.1) (at_end traces [] trace i e);
        others = λ i le. r.1.others i (longer_end traces [] i le);
        written = λ i trace e. ⊎_elim (λ f. r.1.written i trace f) (λ (f : (length traces ≤ i) × ([] ≡ trace)). subst (λ (t : Trace). AllByRecursion (IsWrittenIn run) t) f.1 tt) (at_end traces [] trace i e);
        made = made-by-all traces (traces ++ [] ∷ []) run (λ g i t call e has. (t, end_within traces [] t i e, has)) r.1.made;
      },
    )

-- what is for a call is the writer's
is_the_writers : (call : Option Call) (e : Happening) → IsWriteFor call e → is_write e ≡ true
is_the_writers (Some c) e is = ap is_write is.2
is_the_writers None e is = ⊎_elim (λ (s : (m : ℕ) × (e ≡ Sweep m)). ap is_write s.1) (λ (s : (m : ℕ) × (rs : SiteRules) × (e ≡ Reload m rs)). ap is_write s.2) is

no_visits_by : (i : ℕ) (e : Happening) (run : Run) → is_write e ≡ true → visits_of i (e ∷ run) ≡ visits_of i run
no_visits_by i (Publish c r change) run is = refl
no_visits_by i (Sweep m) run is = refl
no_visits_by i (Reload m rs) run is = refl
no_visits_by i (Entry j c r) run is = absurd cc
no_visits_by i (Look j) run is = absurd cc
no_visits_by i Tell run is = refl
no_visits_by i (Learn j n) run is = refl
no_visits_by i Refusal run is = refl

-- a thread leaves a mark
module _ (o : Opening) (traces : List Trace) (seat : ℕ) (trace : Trace) (at : get_elem? traces seat ≡ some trace) (mark : Mark) (less : (told : ℕ → Option Outcome) → AreTold o told (mark ∷ trace) → AreTold o told trace) where
  abbrev with_mark : List Trace
  with_mark = set traces seat (mark ∷ trace)

  marked : get_elem? with_mark seat ≡ some (mark ∷ trace)
  marked = set_at traces seat trace (mark ∷ trace) at

  told-before : (told : ℕ → ℕ → Option Outcome) → AreAllTold o told with_mark → AreAllTold o told traces
  told-before told are i t e = elim (i == seat) as (λ b. (i == seat) ≡ b → AreTold o (told i) t) [
    | true ↦ λ yes.
        let same : seat ≡ i = grind (arith, nat_tests) in
        let own : trace ≡ t = some-injective trace t (sym at ∙ (ap (λ k. get_elem? traces k) same ∙ e)) in
        let mine : AreTold o (told seat) trace = less (told seat) (are seat (mark ∷ trace) marked) in
        subst (λ (k : ℕ). AreTold o (told k) t) same (subst (λ (x : Trace). AreTold o (told seat) x) own mine)
    | false ↦ λ no. are i t (set_else traces seat i (mark ∷ trace) (grind (arith, nat_tests)) ∙ e)
  ] refl

  keeps-marks : KeepMarks traces with_mark
  keeps-marks h i t call e has = elim (i == seat) as (λ b. (i == seat) ≡ b → (u : Trace) × (get_elem? with_mark i ≡ some u) × Contains u (Wrote h call)) [
    | true ↦ λ yes.
        let same : seat ≡ i = grind (arith, nat_tests) in
        let own : trace ≡ t = some-injective trace t (sym at ∙ (ap (λ k. get_elem? traces k) same ∙ e)) in
        (mark ∷ trace, ap (λ k. get_elem? with_mark k) (sym same) ∙ marked, there mark (Wrote h call) trace (subst (λ (x : Trace). Contains x (Wrote h call)) (sym own) has))
    | false ↦ λ no. (t, set_else traces seat i (mark ∷ trace) (grind (arith, nat_tests)) ∙ e, has)
  ] refl

  -- of each thread it holds with the mark, if it holds of that thread with it, and of the others as before
  by-thread : (P : ℕ → Trace → Type 0) → P seat (mark ∷ trace) → ((i : ℕ) (t : Trace) → i ≢ seat → get_elem? traces i ≡ some t → P i t) → (i : ℕ) (t : Trace) → get_elem? with_mark i ≡ some t → P i t
  by-thread P own rest i t e = ⊎_elim
      (λ (f : (i ≡ seat) × ((mark ∷ trace) ≡ t)). subst (λ (x : Trace). P i x) f.1 (subst (λ (k : ℕ). P k (mark ∷ trace)) (sym f.0) own))
      (λ (f : (i ≢ seat) × (get_elem? traces i ≡ some t)). rest i t f.0 f.1)
      (at_set traces seat i (mark ∷ trace) t e)

  not-seat : (i : ℕ) → length with_mark ≤ i → (length traces ≤ i) × (i ≢ seat)
  not-seat i le =
      let far : length traces ≤ i = omega (arith, le, set_length traces seat (mark ∷ trace)) in
      let there_is : seat < length traces = within traces seat trace at in
      (far, λ same. omega (arith, far, there_is, same))

-- the writer writes
module _ (o : Opening) (before after : History) (call : Option Call) (written : IsWritten o call before after) (traces : List Trace) (seat : ℕ) (trace : Trace) (at : get_elem? traces seat ≡ some trace) where
  abbrev wrote : Mark
  wrote = Wrote after call

  pub one_writes : HaveRuns o before traces → HaveRuns o after (set traces seat (wrote ∷ trace))
  one_writes have told are =
      let r = have told (told-before o traces seat trace at wrote (λ f all. all) told are) in
      let run = r.0 in
      let e = written.0 in
      let may = written.2 (world run) r.1.at in
      let writes : is_write e ≡ true = is_the_writers call e written.1 in
      let here_is : Contains (wrote ∷ trace) (Wrote (world (e ∷ run)).published call) = subst (λ (h : History). Contains (wrote ∷ trace) (Wrote h call)) (sym may.1) (here wrote trace) in (
        e ∷ run,
        record {
          is = (may.0, r.1.is);
          at = may.1;
          visits = by-thread o traces seat trace at wrote (λ f all. all) (λ i t. visits_of i (e ∷ run) ≡ told_visits (told i) t)
              (no_visits_by seat e run writes ∙ r.1.visits seat trace at)
              (λ i t apart f. no_visits_by i e run writes ∙ r.1.visits i t f);
          others = λ i le. no_visits_by i e run writes ∙ r.1.others i (not-seat o traces seat trace at wrote (λ f all. all) i le).0;
          written = by-thread o traces seat trace at wrote (λ f all. all) (λ i t. AllByRecursion (IsWrittenIn (e ∷ run)) t)
              (inl (written.1, may.1), written-later e run trace (r.1.written seat trace at))
              (λ i t apart f. written-later e run t (r.1.written i t f));
          made = (
            λ is. (seat, wrote ∷ trace, call, marked o traces seat trace at wrote (λ f all. all), here_is, written.1),
            made-by-all traces (set traces seat (wrote ∷ trace)) run (keeps-marks o traces seat trace at wrote (λ f all. all)) r.1.made,
          );
        },
      )

visit_writes_nothing : (i : ℕ) (t : Option (Call × Outcome)) → is_write (visit_by i t) ≡ false
visit_writes_nothing i None = refl
visit_writes_nothing i (Some t) = refl

-- a thread asks at what is published
module _ (o : Opening) (h : History) (traces : List Trace) (seat : ℕ) (trace : Trace) (at : get_elem? traces seat ≡ some trace) (call : Option Call) where
  abbrev asked : Mark
  asked = Asked h call

  pub one_asks : HaveRuns o h traces → HaveRuns o h (set traces seat (asked ∷ trace))
  one_asks have told are =
      let r = have told (told-before o traces seat trace at asked (λ f all. all.1) told are) in
      let run = r.0 in
      let t : Option (Call × Outcome) = told_of call (told seat (length trace)) in
      let v : Visit = record { at = h; told = t } in
      let e = visit_by seat t in
      let mine : AreTold o (told seat) (asked ∷ trace) = are seat (asked ∷ trace) (marked o traces seat trace at asked (λ f all. all.1)) in (
        e ∷ run,
        record {
          is = (visit_may o seat t (world run) h r.1.at mine.0, r.1.is);
          at = (visit_alike seat t (world run)).published ∙ r.1.at;
          visits = by-thread o traces seat trace at asked (λ f all. all.1) (λ i u. visits_of i (e ∷ run) ≡ told_visits (told i) u)
              (newest seat v run r.1.at ∙ ap (λ (xs : List Visit). v ∷ xs) (r.1.visits seat trace at))
              (λ i u apart f. others-newest seat v i apart run ∙ r.1.visits i u f);
          others = λ i le. let far = not-seat o traces seat trace at asked (λ f all. all.1) i le in others-newest seat v i far.1 run ∙ r.1.others i far.0;
          written = by-thread o traces seat trace at asked (λ f all. all.1) (λ i u. AllByRecursion (IsWrittenIn (e ∷ run)) u)
              (tt, written-later e run trace (r.1.written seat trace at))
              (λ i u apart f. written-later e run u (r.1.written i u f));
          made = (
            λ is. true-false (sym is ∙ visit_writes_nothing seat t),
            made-by-all traces (set traces seat (asked ∷ trace)) run (keeps-marks o traces seat trace at asked (λ f all. all.1)) r.1.made,
          );
        },
      )
