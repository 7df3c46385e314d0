-- Places of one block, which lie in one run, or in two.
use Rattle.std.proofs.Common.{◌≡◌, ℕ, ◌+◌, ◌-◌, ◌*◌, ◌/◌, ◌<◌, ◌≤◌, List, refl, sym, ap, ◌∙◌, arith}
use Rattle.slot_list.specs.Blocks.{spot, nth, IsPassed}
use Rattle.slot_list.proofs.Spots.{at, spot_block, spot_along, spot_wraps}
use Rattle.slot_list.proofs.Passes.{passed_on, run_placed}

module _ (turns : List ℕ) (from to start : ℕ) (is : start ≡ spot turns from) (some : from < to) (block : to ≤ from / 256 * 256 + 256) where
  -- up to the block's end in memory
  along : (k : ℕ) → from + k < to → start + k < from / 256 * 256 + 256 → spot turns (from + k) ≡ start + k
  along k l h = spot_along turns from k (from / 256) refl (omega arith) (omega arith) ∙ ap (λ s. s + k) (sym is)

  pub in_one : start + (to - from) ≤ from / 256 * 256 + 256 → (old new : List ℕ) (x out : ℕ) → IsPassed (at old) (at new) start (start + (to - from)) x out → IsPassed (nth old turns) (nth new turns) from to x out
  in_one h old new x out p = run_placed turns old new from to start (start + (to - from)) x out (omega arith) (omega arith) (λ k l. along k l (omega arith)) p

  pub in_two : from / 256 * 256 + 256 < start + (to - from) → (old mid new : List ℕ) (x c out : ℕ) → IsPassed (at old) (at mid) start (from / 256 * 256 + 256) x c → IsPassed (at mid) (at new) (from / 256 * 256) (start + (to - from) - 256) c out
      → IsPassed (nth old turns) (nth new turns) from to x out
  in_two h old mid new x c out p q =
      let b : ℕ = from / 256 in
      let within = spot_block turns from in
      let low : b * 256 ≤ start = omega arith in
      let high : start < b * 256 + 256 = omega arith in
      let n : ℕ = b * 256 + 256 - start in
      let m : ℕ = from + n in
      let same : m / 256 ≡ b = omega arith in
      let turn : spot turns m ≡ b * 256 = spot_wraps turns from n b refl same (omega arith) in
      passed_on (nth old turns) (nth mid turns) (nth new turns) from m to x c out (omega arith) (omega arith)
      (run_placed turns old mid from m start (b * 256 + 256) x c (omega arith) (omega arith) (λ k l. along k (omega arith) (omega arith)) p)
      (run_placed turns mid new m to (b * 256) (start + (to - from) - 256) c out (omega arith) (omega arith) (λ k l. spot_along turns m k b same (omega arith) (omega arith) ∙ ap (λ s. s + k) turn) q)
