-- One loop more.
use Rattle.std.proofs.Common.{◌≡◌, ◌<◌, ◌≤◌, ℕ, ◌+◌, List, [], ◌∷◌, ◌++◌, Option, Some, None, length, get_or, take, min, sym, ap, ◌∙◌, subst, inl, inr, arith}
use Rattle.std.specs.Prelude.{is_some, IfSome, MatchOption}
use Rattle.std.proofs.lemmas.Bool.{cases_lt}
use Rattle.std.proofs.lemmas.List.{length-append, take_more}
use Rattle.agent_parts.specs.Jobs.{AreLoops, IsLoop}
use Rattle.agent_parts.specs.declared.threads.Job.{Job}

module _ {S T : Type 0} (own : S → ℕ) where
  pub loops_more : (js : List (Job S T)) (ps : List (ℕ × ℕ)) (j : Job S T) (p : ℕ × ℕ) → AreLoops own js ps → IsLoop own j p → AreLoops own (js ++ j ∷ []) (ps ++ p ∷ [])
  loops_more [] [] j p are is = (is, tt)
  loops_more [] (q ∷ ps) j p are is = absurd are
  loops_more (i ∷ js) [] j p are is = absurd are
  loops_more (i ∷ js) (q ∷ ps) j p are is = (are.0, loops_more js ps j p are.1 is)

  -- the same of the front of all addresses
  pub loop_more : (js more : List (Job S T)) (ps : List (ℕ × ℕ)) (n m : ℕ) (j : Job S T) → more ≡ js ++ j ∷ [] → m ≡ n + 1 → n < length ps → AreLoops own js (take n ps) → IsLoop own j (get_or ps n (0, 0)) → AreLoops own more (take m ps)
  loop_more js more ps n m j is next lt are one =
      subst (λ xs. AreLoops own xs (take m ps)) (sym is)
      (subst (λ k. AreLoops own (js ++ j ∷ []) (take k ps)) (sym next)
      (subst (λ qs. AreLoops own (js ++ j ∷ []) qs) (sym (take_more ps n (0, 0) lt)) (loops_more js (take n ps) j (get_or ps n (0, 0)) are one)))

  -- there is one beside each address of the first, as long as there were others, of which so many are left
  pub record Beside (places : List (ℕ × ℕ)) (all loops others : ℕ) (js : List (Job S T)) : Type 0 where
    pub count : others + length js ≡ all
    pub level : 0 < others → length js ≡ loops
    pub within : length js ≤ loops
    pub are : AreLoops own js (take (length js) places)

  -- one more address
  pub beside_next : {A : Type 0} (p : Option A) (o : Option (Job S T)) (places : List (ℕ × ℕ)) (all loops then others left : ℕ) (js more : List (Job S T)) → then ≡ loops + 1 → loops < length places
      → MatchOption p ((others ≡ 0) × (left ≡ 0)) (λ _. left + 1 ≡ others) → is_some o ≡ is_some p → IfSome o (λ j. IsLoop own j (get_or places loops (0, 0))) → MatchOption o (more ≡ js) (λ j. more ≡ js ++ j ∷ [])
      → Beside places all loops others js → Beside places all then left more
  beside_next None None places all loops then others left js more next lt none alike is same b = record {
    count = omega (arith, ap length same, b.count, none.0, none.1);
    level = λ some. omega (arith, some, none.1);
    within = omega (arith, ap length same, b.within, next);
    are = subst (λ xs. AreLoops own xs (take (length xs) places)) (sym same) b.are;
  }
  beside_next (Some x) (Some j) places all loops then others left js more next lt one alike is same b =
      let level : length js ≡ loops = b.level (omega (arith, one)) in
      let longer : length more ≡ length js + 1 = ap length same ∙ length-append js (j ∷ []) in record {
        count = omega (arith, longer, b.count, one);
        level = λ some. omega (arith, longer, level, next);
        within = omega (arith, longer, level, next);
        are = loop_more js more places (length js) (length more) j same longer (omega (arith, level, lt)) b.are (subst (λ n. IsLoop own j (get_or places n (0, 0))) (sym level) is);
      }
  beside_next None (Some j) places all loops then others left js more next lt none alike is same b = absurd cc
  beside_next (Some x) None places all loops then others left js more next lt one alike is same b = absurd cc

  -- where all addresses have a loop
  pub beside_all : (places : List (ℕ × ℕ)) (all others : ℕ) (js : List (Job S T)) → Beside places all (length places) others js → AreLoops own js (take (min all (length places)) places)
  beside_all places all others js b = subst (λ n. AreLoops own js (take n places)) (elim (cases_lt 0 others) [
    | inl some ↦ omega (arith, b.count, b.level some)
    | inr none ↦ omega (arith, b.count, b.within, none)
  ]) b.are
