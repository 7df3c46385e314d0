-- How lines wait for the thread that writes them.
use Rattle.std.specs.Prelude.{◌≡◌, ◌⊎◌, ◌+◌, ◌≤◌, ℕ, List, All, slice_get, unwrap_or}

-- the lines that wait, in the order in which they were handed over, and how many bytes of them each place has
pub record Waiting : Type 0 where
  pub lines : List ℕ
  pub shares : List ℕ

-- how many bytes of a place wait
abbrev pub share_of : Waiting → ℕ → ℕ
share_of w place = unwrap_or (slice_get w.shares place) 0

-- a place never has more bytes that wait
abbrev pub most_waiting : ℕ
most_waiting = 65536

-- so many bytes of a place may wait as well, or nothing of it waits
abbrev pub IsOpen : Waiting → ℕ → ℕ → Type 0
IsOpen w place count = (share_of w place ≡ 0) ⊎ (share_of w place + count ≤ most_waiting)

-- nothing waits of any place
abbrev pub HasNone : Waiting → Type 0
HasNone w = All (λ share. share ≡ 0) w.shares
