-- Where the number of each place lies.
use Rattle.std.proofs.Common.{◌≡◌, ◌≢◌, ℕ, ◌+◌, ◌*◌, ◌/◌, ◌%◌, ◌<◌, ◌≤◌, List, get_or, refl, sym, ap, ◌∙◌, arith}
use Rattle.slot_list.specs.Blocks.{spot, nth}

abbrev pub at : List ℕ → ℕ → ℕ
at xs i = get_or xs i 0

pub nth_is : (numbers turns : List ℕ) (i : ℕ) → nth numbers turns i ≡ at numbers (spot turns i)
unfolding nth
nth_is numbers turns i = refl

-- at a block and a turn that are known
pub spot_is : (turns : List ℕ) (i b t : ℕ) → i / 256 ≡ b → at turns b ≡ t → spot turns i ≡ b * 256 + (t + i) % 256
unfolding spot
spot_is turns i b t e h = ap (λ c. c * 256 + (at turns c + i) % 256) e ∙ ap (λ u. b * 256 + (u + i) % 256) h

spot_here : (turns : List ℕ) (i : ℕ) → spot turns i ≡ i / 256 * 256 + (at turns (i / 256) + i) % 256
spot_here turns i = spot_is turns i (i / 256) (at turns (i / 256)) refl refl

pub block_of : (b r : ℕ) → (b * 256 + r % 256) / 256 ≡ b
block_of b r = omega arith

pub spot_block : (turns : List ℕ) (i : ℕ) → spot turns i / 256 ≡ i / 256
spot_block turns i = ap (λ s. s / 256) (spot_here turns i) ∙ block_of (i / 256) (at turns (i / 256) + i)

apart : (u i j : ℕ) → i / 256 ≡ j / 256 → (u + i) % 256 ≡ (u + j) % 256 → i ≡ j
apart u i j e h = omega arith

pub spot_injective : (turns : List ℕ) (i j : ℕ) → spot turns i ≡ spot turns j → i ≡ j
spot_injective turns i j e =
    let b : i / 256 ≡ j / 256 = sym (spot_block turns i) ∙ ap (λ s. s / 256) e ∙ spot_block turns j in
    let u : ℕ = at turns (j / 256) in
    let si = spot_is turns i (j / 256) u b refl in
    let sj = spot_is turns j (j / 256) u refl refl in
    apart u i j b (omega arith)

along : (u b i k : ℕ) → b * 256 + (u + i) % 256 + k < b * 256 + 256 → b * 256 + (u + (i + k)) % 256 ≡ b * 256 + (u + i) % 256 + k
along u b i k h = omega arith

-- later places of a block follow, up to the block's end
pub spot_along : (turns : List ℕ) (i k b : ℕ) → i / 256 ≡ b → (i + k) / 256 ≡ b → spot turns i + k < b * 256 + 256 → spot turns (i + k) ≡ spot turns i + k
spot_along turns i k b ei ek l =
    let u : ℕ = at turns b in
    let si = spot_is turns i b u ei refl in
    let sk = spot_is turns (i + k) b u ek refl in
    sk ∙ along u b i k (omega arith) ∙ ap (λ s. s + k) (sym si)

wraps : (u i k : ℕ) → (u + i) % 256 + k ≡ 256 → (u + (i + k)) % 256 ≡ 0
wraps u i k h = omega arith

-- and then begin at its front
pub spot_wraps : (turns : List ℕ) (i k b : ℕ) → i / 256 ≡ b → (i + k) / 256 ≡ b → spot turns i + k ≡ b * 256 + 256 → spot turns (i + k) ≡ b * 256
spot_wraps turns i k b ei ek l =
    let u : ℕ = at turns b in
    let si = spot_is turns i b u ei refl in
    let sk = spot_is turns (i + k) b u ek refl in
    let w = wraps u i k (omega arith) in
    omega arith

-- ---- a block is turned by one

next_turn : (u v b j : ℕ) → (v + 1) % 256 ≡ u % 256 → b * 256 + (v + (j + 1)) % 256 ≡ b * 256 + (u + j) % 256
next_turn u v b j h = omega arith

front_turn : (u v b : ℕ) → (v + 1) % 256 ≡ u % 256 → b * 256 + (v + b * 256) % 256 ≡ b * 256 + (u + (b * 256 + 255)) % 256
front_turn u v b h = omega arith

module _ (ts us : List ℕ) (b : ℕ) (others : (k : ℕ) → k ≢ b → at us k ≡ at ts k) (turn : (at us b + 1) % 256 ≡ at ts b % 256) where
  pub turned_other : (j : ℕ) → j / 256 ≢ b → spot us j ≡ spot ts j
  turned_other j d = spot_is us j (j / 256) (at ts (j / 256)) refl (others (j / 256) d) ∙ sym (spot_here ts j)

  pub turned_next : (j : ℕ) → b * 256 ≤ j → j + 1 < b * 256 + 256 → spot us (j + 1) ≡ spot ts j
  turned_next j l h = spot_is us (j + 1) b (at us b) (omega arith) refl ∙ next_turn (at ts b) (at us b) b j turn ∙ sym (spot_is ts j b (at ts b) (omega arith) refl)

  pub turned_front : spot us (b * 256) ≡ spot ts (b * 256 + 255)
  turned_front = spot_is us (b * 256) b (at us b) (omega arith) refl ∙ front_turn (at ts b) (at us b) b turn ∙ sym (spot_is ts (b * 256 + 255) b (at ts b) (omega arith) refl)
