-- Numbers that move on by one place.
use Rattle.std.proofs.Common.{◌≡◌, ◌≢◌, ℕ, ◌+◌, ◌-◌, ◌*◌, ◌/◌, ◌%◌, ◌<◌, ◌≤◌, cond, List, length, set, refl, sym, ap, ◌∙◌, arith, inl, inr}
use Rattle.std.proofs.lemmas.List.{get_or-set_same, get_or-set_other}
use Rattle.std.proofs.lemmas.Bool.{cases_eq, cases_lt, eq-eqb, ne_eqb}
use Rattle.slot_list.specs.Blocks.{spot, nth, moved, IsPassed}
use Rattle.slot_list.proofs.Spots.{at, nth_is, spot_is, spot_injective, turned_other, turned_next, turned_front}

pub moved_here : (f : ℕ → ℕ) (a x j : ℕ) → j ≡ a → moved f a x j ≡ x
moved_here f a x j e = ap (λ b. cond b x (f (j - 1))) (eq-eqb j a e)

pub moved_past : (f : ℕ → ℕ) (a x j : ℕ) → j ≢ a → moved f a x j ≡ f (j - 1)
moved_past f a x j d = ap (λ b. cond b x (f (j - 1))) (ne_eqb j a d)

-- what fell out of some places comes in at the next
module _ (f g h : ℕ → ℕ) (a m z x c d : ℕ) (l : a ≤ m) (k : m ≤ z) (p : IsPassed f g a m x c) (q : IsPassed g h m z c d) where
  moved_on : (j : ℕ) → m ≤ j → moved g m c j ≡ moved f a x j
  moved_on j w = elim (cases_eq j m) [
    | inl e ↦ moved_here g m c j e ∙ p.fell ∙ ap (moved f a x) (sym e)
    | inr n ↦ moved_past g m c j n ∙ p.after (j - 1) (omega arith) ∙ sym (moved_past f a x j (λ e. n (omega arith)))
  ]

  pub passed_on : IsPassed f h a z x d
  passed_on = record {
    before = λ j w. q.before j (omega arith) ∙ p.before j w;
    after = λ j w. q.after j w ∙ p.after j (omega arith);
    between = λ j w y. elim (cases_lt j m) [ inl s ↦ q.before j s ∙ p.between j w s | inr s ↦ q.between j s y ∙ moved_on j s ];
    fell = q.fell ∙ moved_on z k;
  }

-- ---- places that lie in a run of memory

module _ (turns old new : List ℕ) (a z s e x out : ℕ) (l : a ≤ z) (size : s + z ≡ e + a) (spots : (k : ℕ) → a + k < z → spot turns (a + k) ≡ s + k) (p : IsPassed (at old) (at new) s e x out) where
  elsewhere : (j : ℕ) → ((k : ℕ) → a + k < z → j ≢ a + k) → nth new turns j ≡ nth old turns j
  elsewhere j d = nth_is new turns j ∙ elim (cases_lt (spot turns j) s) [
    | inl l ↦ p.before (spot turns j) l
    | inr g ↦ elim (cases_lt (spot turns j) e) [
      | inl l ↦
          let k : ℕ = spot turns j - s in
          let is : s + k ≡ spot turns j = omega arith in
          let less : a + k < z = omega arith in
          absurd (d k less (spot_injective turns j (a + k) (sym (spots k less ∙ is))))
      | inr h ↦ p.after (spot turns j) h
    ]
  ] ∙ sym (nth_is old turns j)

  moved_at : (k : ℕ) → a + k ≤ z → moved (at old) s x (s + k) ≡ moved (nth old turns) a x (a + k)
  moved_at k h = elim (cases_eq k 0) [
    | inl i ↦ moved_here (at old) s x (s + k) (omega arith) ∙ sym (moved_here (nth old turns) a x (a + k) (omega arith))
    | inr d ↦
        let es : s + k - 1 ≡ s + (k - 1) = omega arith in
        let ea : a + (k - 1) ≡ a + k - 1 = omega arith in
        moved_past (at old) s x (s + k) (omega arith) ∙ ap (at old) (es ∙ sym (spots (k - 1) (omega arith))) ∙ sym (nth_is old turns (a + (k - 1))) ∙ ap (nth old turns) ea ∙ sym (moved_past (nth old turns) a x (a + k) (omega arith))
  ]

  pub run_placed : IsPassed (nth old turns) (nth new turns) a z x out
  run_placed =
      let n : ℕ = z - a in
      let to : a + n ≡ z = omega arith in
      let end : s + n ≡ e = omega arith in
      record {
        before = λ j h. elsewhere j (λ k l. omega arith);
        after = λ j h. elsewhere j (λ k l. omega arith);
        between = λ j l h.
            let k : ℕ = j - a in
            let is : a + k ≡ j = omega arith in
            ap (nth new turns) (sym is) ∙ nth_is new turns (a + k) ∙ ap (at new) (spots k (omega arith)) ∙ p.between (s + k) (omega arith) (omega arith) ∙ moved_at k (omega arith) ∙ ap (moved (nth old turns) a x) is;
        fell = p.fell ∙ ap (moved (at old) s x) (sym end) ∙ moved_at n (omega arith) ∙ ap (moved (nth old turns) a x) to;
      }

-- ---- a block that is turned by one

module _ (ns ms ts us : List ℕ) (b z x out : ℕ) (to : z ≡ b * 256 + 256) (others : (k : ℕ) → k ≢ b → at us k ≡ at ts k) (turn : (at us b + 1) % 256 ≡ at ts b % 256)
    (same : (k : ℕ) → k ≢ spot us (b * 256) → at ms k ≡ at ns k) (came : at ms (spot us (b * 256)) ≡ x) (went : at ns (spot us (b * 256)) ≡ out) where
  kept : (j : ℕ) → j ≢ b * 256 → nth ms us j ≡ at ns (spot us j)
  kept j d = nth_is ms us j ∙ same (spot us j) (λ e. d (spot_injective us j (b * 256) e))

  elsewhere_kept : (j : ℕ) → j / 256 ≢ b → nth ms us j ≡ nth ns ts j
  elsewhere_kept j d = kept j (omega arith) ∙ ap (at ns) (turned_other ts us b others turn j d) ∙ sym (nth_is ns ts j)

  turned_passed : IsPassed (nth ns ts) (nth ms us) (b * 256) z x out
  turned_passed = record {
    before = λ j h. elsewhere_kept j (omega arith);
    after = λ j h. elsewhere_kept j (omega arith);
    between = λ j l h. let next : j ≢ b * 256 → spot us (j - 1 + 1) ≡ spot ts (j - 1) = λ d. turned_next ts us b others turn (j - 1) (omega arith) (omega arith) in grind (arith, nth_is, kept);
    fell = let front = turned_front ts us b others turn in grind (arith, nth_is);
  }

front_is : (us : List ℕ) (b t : ℕ) → at us b % 256 ≡ t → spot us (b * 256) ≡ b * 256 + t
front_is us b t e = spot_is us (b * 256) b (at us b) (omega arith) refl ∙ omega arith

-- one comes in at its front
pub pushed_block : (ns ts : List ℕ) (b z t x : ℕ) → b < length ts → length ns ≡ 256 * length ts → z ≡ b * 256 + 256 → t ≡ (at ts b + 255) % 256
    → IsPassed (nth ns ts) (nth (set ns (b * 256 + t) x) (set ts b t)) (b * 256) z x (at ns (b * 256 + t))
pushed_block ns ts b z t x l size to is =
    let us : List ℕ = set ts b t in
    let s : ℕ = b * 256 + t in
    let ub : at us b ≡ t = get_or-set_same ts b t 0 l in
    let front : spot us (b * 256) ≡ s = front_is us b t (omega arith) in
    turned_passed ns (set ns s x) ts us b z x (at ns s) to
    (λ k d. get_or-set_other ts b k t 0 d) (omega arith)
    (λ k d. get_or-set_other ns s k x 0 (λ e. d (e ∙ sym front)))
    (ap (at (set ns s x)) front ∙ get_or-set_same ns s x 0 (omega arith)) (ap (at ns) front)

-- one comes in as its last
pub pulled_block : (ms us : List ℕ) (b z t x : ℕ) → b < length us → length ms ≡ 256 * length us → z ≡ b * 256 + 256 → t ≡ at us b % 256
    → IsPassed (nth (set ms (b * 256 + t) x) (set us b ((t + 1) % 256))) (nth ms us) (b * 256) z (at ms (b * 256 + t)) x
pulled_block ms us b z t x l size to is =
    let ts : List ℕ = set us b ((t + 1) % 256) in
    let s : ℕ = b * 256 + t in
    let tb : at ts b ≡ (t + 1) % 256 = get_or-set_same us b ((t + 1) % 256) 0 l in
    let front : spot us (b * 256) ≡ s = front_is us b t (sym is) in
    turned_passed (set ms s x) ms ts us b z (at ms s) x to
    (λ k d. sym (get_or-set_other us b k ((t + 1) % 256) 0 d)) (omega arith)
    (λ k d. sym (get_or-set_other ms s k x 0 (λ e. d (e ∙ sym front))))
    (ap (at ms) front) (ap (at (set ms s x)) front ∙ get_or-set_same ms s x 0 (omega arith))
