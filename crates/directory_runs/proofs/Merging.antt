-- What loops told and what a writer wrote are a run together: each visit is put behind the last write that it saw.
use Rattle.std.proofs.Common.{◌≡◌, ℕ, ◌+◌, ◌<◌, ◌≤◌, ◌≢◌, Bool, true, false, cond, List, [], ◌∷◌, ◌++◌, length, suc, zero, refl, sym, ap, subst, ◌∙◌, arith, Option, Some, None}
use Rattle.std.specs.Prelude.{◌==◌, nat_lt, Contains}
use Rattle.std.specs.List.{AllByRecursion}
use Rattle.std.proofs.lemmas.Bool.Decides.{nat_tests}
use Rattle.directory_judge.specs.History.{History}
use Rattle.directory_questions.specs.Answers.{IsAnswer}
use Rattle.directory_questions.specs.Calls.{Opening, Call}
use Rattle.directory_questions.specs.Outcomes.{Outcome}
use Rattle.directory_questions.specs.Verdicts.{history_with}
use Rattle.history_log.specs.Pasts.{IsPast}
use Rattle.history_log.proofs.Pasts.{IsPast-trans, nested_pasts}
use Rattle.directory_runs.specs.Runs.{Happening, Publish, Sweep, Reload, Entry, Look, Tell, Learn, Refusal, World, Run, IsRun, May, happened, world, beginning}
use Rattle.directory_runs.specs.Served.{Visit, IsTold, last_seen, AreVisits, visits_of, is_write, writes_of, AreWrites, IsLoopOf, IsMergeOf}
use Rattle.directory_runs.proofs.Kept.{grows}

-- ---- pasts

longer_than : (a b : History) → length b ≤ length (a ++ b)
longer_than [] b = omega arith
longer_than (x ∷ a) b = omega (arith, longer_than a b)

past_shorter : (g h : History) → IsPast g h → length g ≤ length h
past_shorter g h p = subst (λ (x : History). length g ≤ length x) p.1 (longer_than p.0 g)

nothing_more : (a b : History) → length (a ++ b) ≤ length b → a ++ b ≡ b
nothing_more [] b le = refl
nothing_more (x ∷ a) b le = absurd (omega (arith, longer_than a b))

-- a past that is no shorter is the whole
past_whole : (g h : History) → IsPast g h → length h ≤ length g → h ≡ g
past_whole g h p le = sym p.1 ∙ nothing_more p.0 g (subst (λ (x : History). length x ≤ length g) (sym p.1) le)

-- ---- worlds in which the same may be written

pub record Alike (w v : World) : Type 0 where
  pub published : w.published ≡ v.published
  pub notes : w.notes ≡ v.notes

alike_itself : (w : World) → Alike w w
alike_itself w = record { published = refl; notes = refl }

alike_step : (w v : World) (e : Happening) → Alike w v → Alike (happened w e) (happened v e)
alike_step w v (Publish c r change) a = record { published = ap (λ (h : History). history_with change h) a.published; notes = a.notes }
alike_step w v (Sweep m) a = record { published = ap (λ (h : History). (happened (record v { published = h }) (Sweep m)).published) a.published; notes = a.notes }
alike_step w v (Reload m rs) a = record { published = ap (λ (h : History). (happened (record v { published = h }) (Reload m rs)).published) a.published; notes = a.notes }
alike_step w v (Entry i c r) a = record { published = a.published; notes = a.notes }
alike_step w v (Look i) a = record { published = a.published; notes = a.notes }
alike_step w v Tell a = record { published = a.published; notes = λ k. a.published k ∷ a.notes k }
alike_step w v (Learn i n) a = record { published = a.published; notes = a.notes }
alike_step w v Refusal a = record { published = a.published; notes = a.notes }

may_alike : (o : Opening) (w v : World) (e : Happening) → Alike w v → May o v e → May o w e
may_alike o w v (Publish c r change) a may = (may.0, may.1, subst (λ (h : History). IsAnswer o h c r change) (sym a.published) may.2)
may_alike o w v (Sweep m) a may = tt
may_alike o w v (Reload m rs) a may = tt
may_alike o w v (Entry i c r) a may = (may.0, may.1, subst (λ (h : History). IsAnswer o h c r None) (sym a.published) may.2)
may_alike o w v (Look i) a may = tt
may_alike o w v Tell a may = tt
may_alike o w v (Learn i n) a may = subst (λ (ns : List History). Contains ns n) (sym a.notes) may
may_alike o w v Refusal a may = tt

one_more : (w : World) (e : Happening) → length (happened w e).published ≤ length w.published + 1
one_more w (Publish c r (Some x)) = omega arith
one_more w (Publish c r None) = omega arith
one_more w (Sweep m) = omega arith
one_more w (Reload m rs) = omega arith
one_more w (Entry i c r) = omega arith
one_more w (Look i) = omega arith
one_more w Tell = omega arith
one_more w (Learn i n) = omega arith
one_more w Refusal = omega arith

-- ---- one visit more

abbrev visit_at : History → Option (Call × Outcome) → Visit
visit_at h t = record { at = h; told = t }

abbrev pub visit_by : ℕ → Option (Call × Outcome) → Happening
visit_by i None = Look i
visit_by i (Some t) = Entry i t.0 t.1

pub visit_alike : (i : ℕ) (t : Option (Call × Outcome)) (w : World) → Alike (happened w (visit_by i t)) w
visit_alike i None w = record { published = refl; notes = refl }
visit_alike i (Some t) w = record { published = refl; notes = refl }

pub visit_may : (o : Opening) (i : ℕ) (t : Option (Call × Outcome)) (w : World) (h : History) → w.published ≡ h → IsTold o h t → May o w (visit_by i t)
visit_may o i None w h same told = tt
visit_may o i (Some t) w h same told = (told.0, told.1, subst (λ (x : History). IsAnswer o x t.0 t.1 None) (sym same) told.2)

-- it is put behind the last write that it saw
abbrev pub seated : ℕ → Visit → Run → Run
seated i v [] = visit_by i v.told ∷ []
seated i v (e ∷ es) = cond (nat_lt (length v.at) (length (world (e ∷ es)).published)) (e ∷ seated i v es) (visit_by i v.told ∷ e ∷ es)

-- it is past the last write that it saw
module _ (i : ℕ) (v : Visit) where
  seated-alike : (run : Run) → Alike (world (seated i v run)) (world run)
  seated-alike [] = visit_alike i v.told beginning
  seated-alike (e ∷ es) = elim (nat_lt (length v.at) (length (world (e ∷ es)).published)) as (λ b. Alike (world (cond b (e ∷ seated i v es) (visit_by i v.told ∷ e ∷ es))) (world (e ∷ es))) [
    | true ↦ alike_step (world (seated i v es)) (world es) e (seated-alike es)
    | false ↦ visit_alike i v.told (world (e ∷ es))
  ]

  seated-writes : (run : Run) → writes_of (seated i v run) ≡ writes_of run
  seated-writes [] = elim v.told as (λ t. writes_of (visit_by i t ∷ []) ≡ []) [ None ↦ refl | Some t ↦ refl ]
  seated-writes (e ∷ es) = elim (nat_lt (length v.at) (length (world (e ∷ es)).published)) as (λ b. writes_of (cond b (e ∷ seated i v es) (visit_by i v.told ∷ e ∷ es)) ≡ writes_of (e ∷ es)) [
    | true ↦ ap (λ (x : Run). cond (is_write e) (e ∷ x) x) (seated-writes es)
    | false ↦ elim v.told as (λ t. writes_of (visit_by i t ∷ e ∷ es) ≡ writes_of (e ∷ es)) [ None ↦ refl | Some t ↦ refl ]
  ]

  -- where a write is later, the visit was before it
  before : (o : Opening) (e : Happening) (es : Run) → May o (world es) e → IsPast v.at (world (e ∷ es)).published → length v.at < length (world (e ∷ es)).published → IsPast v.at (world es).published
  before o e es may past lt = nested_pasts v.at (world es).published (world (e ∷ es)).published past (grows o (world es) e may) (omega (arith, one_more (world es) e))

  seated-run : (o : Opening) (run : Run) → IsTold o v.at v.told → IsPast v.at (world run).published → IsRun o run → IsRun o (seated i v run)
  seated-run o [] told past is = (visit_may o i v.told beginning v.at (past_whole v.at [] past (omega arith)) told, tt)
  seated-run o (e ∷ es) told past is = elim (nat_lt (length v.at) (length (world (e ∷ es)).published)) as (λ b. nat_lt (length v.at) (length (world (e ∷ es)).published) ≡ b → IsRun o (cond b (e ∷ seated i v es) (visit_by i v.told ∷ e ∷ es))) [
    | true ↦ λ lt. (
      may_alike o (world (seated i v es)) (world es) e (seated-alike es) is.0,
      seated-run o es told (before o e es is.0 past (grind (arith, nat_tests))) is.1,
    )
    | false ↦ λ ge. (visit_may o i v.told (world (e ∷ es)) v.at (past_whole v.at (world (e ∷ es)).published past (grind (arith, nat_tests))) told, is)
  ] refl

  self : (i == i) ≡ true
  self = grind (arith, nat_tests)

  pub newest : (run : Run) → (world run).published ≡ v.at → visits_of i (visit_by i v.told ∷ run) ≡ v ∷ visits_of i run
  newest run same = elim v.told as (λ t. visits_of i (visit_by i t ∷ run) ≡ record { at = v.at; told = t } ∷ visits_of i run) [
    | None ↦ subst (λ b. cond b (record { at = (world run).published; told = None } ∷ visits_of i run) (visits_of i run) ≡ record { at = v.at; told = None } ∷ visits_of i run) (sym self) (ap (λ (x : History). visit_at x None ∷ visits_of i run) same)
    | Some t ↦ subst (λ b. cond b (record { at = (world run).published; told = Some (t.0, t.1) } ∷ visits_of i run) (visits_of i run) ≡ record { at = v.at; told = Some t } ∷ visits_of i run) (sym self) (ap (λ (x : History). visit_at x (Some t) ∷ visits_of i run) same)
  ]

  -- below a write that the visit did not see, this loop has no visit that is newer
  passed : (es : Run) (t : Option (Call × Outcome)) (rest new : List Visit) (b : Bool) → length v.at < length (world es).published
      → IsPast (last_seen (cond b (record { at = (world es).published; told = t } ∷ rest) rest)) v.at
      → (IsPast (last_seen rest) v.at → new ≡ v ∷ rest) → (x : Visit) → cond b (x ∷ new) new ≡ v ∷ cond b (record { at = (world es).published; told = t } ∷ rest) rest
  passed es t rest new true lt last step x = absurd (omega (arith, past_shorter (world es).published v.at last, lt))
  passed es t rest new false lt last step x = step last

  seated-newer : (o : Opening) (e : Happening) (es : Run) → length v.at < length (world (e ∷ es)).published → IsPast (last_seen (visits_of i (e ∷ es))) v.at
      → (IsPast (last_seen (visits_of i es)) v.at → visits_of i (seated i v es) ≡ v ∷ visits_of i es) → visits_of i (e ∷ seated i v es) ≡ v ∷ visits_of i (e ∷ es)
  seated-newer o (Publish c r change) es lt last step = step last
  seated-newer o (Sweep m) es lt last step = step last
  seated-newer o (Reload m rs) es lt last step = step last
  seated-newer o (Entry j c r) es lt last step = passed es (Some (c, r)) (visits_of i es) (visits_of i (seated i v es)) (i == j) lt last step (record { at = (world (seated i v es)).published; told = Some (c, r) })
  seated-newer o (Look j) es lt last step = passed es None (visits_of i es) (visits_of i (seated i v es)) (i == j) lt last step (record { at = (world (seated i v es)).published; told = None })
  seated-newer o Tell es lt last step = step last
  seated-newer o (Learn j n) es lt last step = step last
  seated-newer o Refusal es lt last step = step last

  seated-own : (o : Opening) (run : Run) → IsPast v.at (world run).published → IsPast (last_seen (visits_of i run)) v.at → IsRun o run → visits_of i (seated i v run) ≡ v ∷ visits_of i run
  seated-own o [] past last is = newest [] (past_whole v.at [] past (omega arith))
  seated-own o (e ∷ es) past last is = elim (nat_lt (length v.at) (length (world (e ∷ es)).published)) as (λ b. nat_lt (length v.at) (length (world (e ∷ es)).published) ≡ b → visits_of i (cond b (e ∷ seated i v es) (visit_by i v.told ∷ e ∷ es)) ≡ v ∷ visits_of i (e ∷ es)) [
    | true ↦ λ is_less.
        let lt : length v.at < length (world (e ∷ es)).published = grind (arith, nat_tests) in
        seated-newer o e es lt last (λ earlier. seated-own o es (before o e es is.0 past lt) earlier is.1)
    | false ↦ λ ge. newest (e ∷ es) (past_whole v.at (world (e ∷ es)).published past (grind (arith, nat_tests)))
  ] refl

  -- ---- of the other loops

  module _ (j : ℕ) (apart : j ≢ i) where
    other : (j == i) ≡ false
    other = grind (arith, nat_tests, apart)

    pub others-newest : (run : Run) → visits_of j (visit_by i v.told ∷ run) ≡ visits_of j run
    others-newest run = elim v.told as (λ t. visits_of j (visit_by i t ∷ run) ≡ visits_of j run) [
      | None ↦ subst (λ b. cond b (record { at = (world run).published; told = None } ∷ visits_of j run) (visits_of j run) ≡ visits_of j run) (sym other) refl
      | Some t ↦ subst (λ b. cond b (record { at = (world run).published; told = Some (t.0, t.1) } ∷ visits_of j run) (visits_of j run) ≡ visits_of j run) (sym other) refl
    ]

    visits-alike : (e : Happening) (es fs : Run) → (world fs).published ≡ (world es).published → visits_of j fs ≡ visits_of j es → visits_of j (e ∷ fs) ≡ visits_of j (e ∷ es)
    visits-alike (Publish c r change) es fs at same = same
    visits-alike (Sweep m) es fs at same = same
    visits-alike (Reload m rs) es fs at same = same
    visits-alike (Entry k c r) es fs at same = λ x. cond (j == k) (record { at = at x; told = Some (c, r) } ∷ same x) (same x)
    visits-alike (Look k) es fs at same = λ x. cond (j == k) (record { at = at x; told = None } ∷ same x) (same x)
    visits-alike Tell es fs at same = same
    visits-alike (Learn k n) es fs at same = same
    visits-alike Refusal es fs at same = same

    seated-others : (run : Run) → visits_of j (seated i v run) ≡ visits_of j run
    seated-others [] = others-newest []
    seated-others (e ∷ es) = elim (nat_lt (length v.at) (length (world (e ∷ es)).published)) as (λ b. visits_of j (cond b (e ∷ seated i v es) (visit_by i v.told ∷ e ∷ es)) ≡ visits_of j (e ∷ es)) [
      | true ↦ visits-alike e es (seated i v es) (seated-alike es).published (seated-others es)
      | false ↦ others-newest (e ∷ es)
    ]

-- ---- all visits of a loop

abbrev pub with_loop : ℕ → List Visit → Run → Run
with_loop i [] run = run
with_loop i (v ∷ vs) run = seated i v (with_loop i vs run)

module _ (i : ℕ) (run : Run) where
  loop-published : (vs : List Visit) → (world (with_loop i vs run)).published ≡ (world run).published
  loop-published [] = refl
  loop-published (v ∷ vs) = (seated-alike i v (with_loop i vs run)).published ∙ loop-published vs

  loop-writes : (vs : List Visit) → writes_of (with_loop i vs run) ≡ writes_of run
  loop-writes [] = refl
  loop-writes (v ∷ vs) = seated-writes i v (with_loop i vs run) ∙ loop-writes vs

  loop-others : (j : ℕ) → j ≢ i → (vs : List Visit) → visits_of j (with_loop i vs run) ≡ visits_of j run
  loop-others j apart [] = refl
  loop-others j apart (v ∷ vs) = seated-others i v j apart (with_loop i vs run) ∙ loop-others j apart vs

  module _ (o : Opening) (is : IsRun o run) (none : visits_of i run ≡ []) where
    loop-is : (vs : List Visit) → AreVisits o vs → IsPast (last_seen vs) (world run).published → IsRun o (with_loop i vs run) × (visits_of i (with_loop i vs run) ≡ vs)
    loop-is [] are past = (is, none)
    loop-is (v ∷ vs) are past =
        let rest = with_loop i vs run in
        let below = loop-is vs are.2 (IsPast-trans (last_seen vs) v.at (world run).published are.1 past) in
        let here : IsPast v.at (world rest).published = subst (λ (h : History). IsPast v.at h) (sym (loop-published vs)) past in
        let last : IsPast (last_seen (visits_of i rest)) v.at = subst (λ (xs : List Visit). IsPast (last_seen xs) v.at) (sym below.1) are.1 in (
          seated-run i v o rest are.0 here below.0,
          seated-own i v o rest here last below.0 ∙ ap (λ (xs : List Visit). v ∷ xs) below.1,
        )

-- ---- all loops

abbrev pub with_loops : ℕ → (ℕ → List Visit) → Run → Run
with_loops zero loops writes = writes
with_loops (suc n) loops writes = with_loop n (loops n) (with_loops n loops writes)

writes-alone : (es : Run) → AreWrites es → writes_of es ≡ es
writes-alone [] are = refl
writes-alone (e ∷ es) are = subst (λ b. cond b (e ∷ writes_of es) (writes_of es) ≡ e ∷ es) (sym are.0) (ap (λ (x : Run). e ∷ x) (writes-alone es are.1))

no_visit : (i : ℕ) (e : Happening) (es : Run) → is_write e ≡ true → visits_of i es ≡ [] → visits_of i (e ∷ es) ≡ []
no_visit i (Publish c r change) es is none = none
no_visit i (Sweep m) es is none = none
no_visit i (Reload m rs) es is none = none
no_visit i (Entry j c r) es is none = absurd cc
no_visit i (Look j) es is none = absurd cc
no_visit i Tell es is none = none
no_visit i (Learn j n) es is none = none
no_visit i Refusal es is none = none

no_visits : (i : ℕ) (es : Run) → AreWrites es → visits_of i es ≡ []
no_visits i [] are = refl
no_visits i (e ∷ es) are = no_visit i e es are.0 (no_visits i es are.1)

-- ---- what loops saw

-- no loop learns by a note what it does not see itself
abbrev is_plain : Happening → Bool
is_plain (Learn i n) = false
is_plain (Publish c r change) = true
is_plain (Sweep m) = true
is_plain (Reload m rs) = true
is_plain (Entry i c r) = true
is_plain (Look i) = true
is_plain Tell = true
is_plain Refusal = true

abbrev ArePlain : Run → Type 0
ArePlain es = AllByRecursion (λ e. is_plain e ≡ true) es

saw : (b : Bool) (h g : History) (t : Option (Call × Outcome)) (vs : List Visit) → g ≡ last_seen vs → cond b h g ≡ last_seen (cond b (record { at = h; told = t } ∷ vs) vs)
saw true h g t vs same = refl
saw false h g t vs same = same

saw_step : (i : ℕ) (e : Happening) (es : Run) → is_plain e ≡ true → (world es).seen i ≡ last_seen (visits_of i es) → (world (e ∷ es)).seen i ≡ last_seen (visits_of i (e ∷ es))
saw_step i (Publish c r change) es is same = same
saw_step i (Sweep m) es is same = same
saw_step i (Reload m rs) es is same = same
saw_step i (Entry j c r) es is same = saw (i == j) (world es).published ((world es).seen i) (Some (c, r)) (visits_of i es) same
saw_step i (Look j) es is same = saw (i == j) (world es).published ((world es).seen i) None (visits_of i es) same
saw_step i Tell es is same = same
saw_step i (Learn j n) es is same = absurd cc
saw_step i Refusal es is same = same

saw_all : (i : ℕ) (run : Run) → ArePlain run → (world run).seen i ≡ last_seen (visits_of i run)
saw_all i [] are = refl
saw_all i (e ∷ es) are = saw_step i e es are.0 (saw_all i es are.1)

visit-plain : (i : ℕ) (t : Option (Call × Outcome)) → is_plain (visit_by i t) ≡ true
visit-plain i None = refl
visit-plain i (Some t) = refl

seated-plain : (i : ℕ) (v : Visit) (run : Run) → ArePlain run → ArePlain (seated i v run)
seated-plain i v [] are = (visit-plain i v.told, tt)
seated-plain i v (e ∷ es) are = elim (nat_lt (length v.at) (length (world (e ∷ es)).published)) as (λ b. ArePlain (cond b (e ∷ seated i v es) (visit_by i v.told ∷ e ∷ es))) [
  | true ↦ (are.0, seated-plain i v es are.1)
  | false ↦ (visit-plain i v.told, are)
]

loop-plain : (i : ℕ) (vs : List Visit) (run : Run) → ArePlain run → ArePlain (with_loop i vs run)
loop-plain i [] run are = are
loop-plain i (v ∷ vs) run are = seated-plain i v (with_loop i vs run) (loop-plain i vs run are)

write-plain : (e : Happening) → is_write e ≡ true → is_plain e ≡ true
write-plain (Publish c r change) is = refl
write-plain (Sweep m) is = refl
write-plain (Reload m rs) is = refl
write-plain (Entry i c r) is = refl
write-plain (Look i) is = refl
write-plain Tell is = refl
write-plain (Learn i n) is = is
write-plain Refusal is = refl

writes-plain : (es : Run) → AreWrites es → ArePlain es
writes-plain [] are = tt
writes-plain (e ∷ es) are = (write-plain e are.0, writes-plain es are.1)

-- ---- the run

record Merged (o : Opening) (writes : Run) (n : ℕ) (loops : ℕ → List Visit) (run : Run) : Type 0 where
  is : IsRun o run
  published : (world run).published ≡ (world writes).published
  written : writes_of run ≡ writes
  told : (i : ℕ) → i < n → visits_of i run ≡ loops i
  none : (i : ℕ) → n ≤ i → visits_of i run ≡ []
  plain : ArePlain run

module _ (o : Opening) (writes : Run) (is : IsRun o writes) (are : AreWrites writes) (loops : ℕ → List Visit) where
  merged : (n : ℕ) → ((i : ℕ) → i < n → IsLoopOf o (world writes).published (loops i)) → Merged o writes n loops (with_loops n loops writes)
  merged zero each = record {
    is = is;
    published = refl;
    written = writes-alone writes are;
    told = λ i lt. absurd (omega (arith, lt));
    none = λ i le. no_visits i writes are;
    plain = writes-plain writes are;
  }
  merged (suc n) each =
      let below = merged n (λ i lt. each i (omega (arith, lt))) in
      let run = with_loops n loops writes in
      let own = each n (omega arith) in
      let last : IsPast (last_seen (loops n)) (world run).published = subst (λ (h : History). IsPast (last_seen (loops n)) h) (sym below.published) own.past in
      let here = loop-is n run o below.is (below.none n (omega arith)) (loops n) own.visits last in
      record {
        is = here.0;
        published = loop-published n run (loops n) ∙ below.published;
        written = loop-writes n run (loops n) ∙ below.written;
        told = told_by run below here.1;
        none = λ i le. loop-others n run i (λ same. omega (arith, le, same)) (loops n) ∙ below.none i (omega (arith, le));
        plain = loop-plain n (loops n) run below.plain;
      }
    where
      told_by : (run : Run) → Merged o writes n loops run → visits_of n (with_loop n (loops n) run) ≡ loops n → (i : ℕ) → i < suc n → visits_of i (with_loop n (loops n) run) ≡ loops i
      told_by run below here i lt = elim (i == n) as (λ b. (i == n) ≡ b → visits_of i (with_loop n (loops n) run) ≡ loops i) [
        | true ↦ λ yes. let same : i ≡ n = grind (arith, nat_tests) in subst (λ (k : ℕ). visits_of k (with_loop n (loops n) run) ≡ loops k) (sym same) here
        | false ↦ λ no. let less : i < n = grind (arith, nat_tests) in loop-others n run i (λ same. omega (arith, less, same)) (loops n) ∙ below.told i less
      ] refl

  pub there_is : (n : ℕ) → ((i : ℕ) → i < n → IsLoopOf o (world writes).published (loops i)) → (run : Run) × IsMergeOf o writes n loops run
  there_is n each =
      let m = merged n each in
      let run = with_loops n loops writes in
      (run, record { is = m.is; published = m.published; written = m.written; told = m.told; seen = λ i lt. saw_all i run m.plain ∙ ap last_seen (m.told i lt) })
