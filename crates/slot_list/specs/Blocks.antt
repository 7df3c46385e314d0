-- A list of numbers that is kept in blocks, each turned by some places.
use Rattle.std.specs.Prelude.{◌≡◌, ℕ, ◌+◌, ◌-◌, ◌*◌, ◌/◌, ◌%◌, ◌<◌, ◌≤◌, if◌then◌else◌, ◌==◌, List, length, map, slice_index, refl}
use Rattle.std.specs.List.{range_with_len}
use Rattle.std.specs.Coded.{Coded, code_by, coded×, coded_ℕ, coded_list}

-- the numbers, and how many there may be
pub record Numbers : Type 0 where
  pub items : List ℕ
  pub room : ℕ

abbrev pub numbers_code : Coded Numbers
numbers_code = code_by (List ℕ × ℕ) (coded× (coded_list coded_ℕ) coded_ℕ) (λ r. (r.items, r.room)) (λ t. record { items = t.0; room = t.1 }) (λ _. refl)

-- where the number of a place lies
unfoldable pub spot : List ℕ → ℕ → ℕ
spot turns i = i / 256 * 256 + (slice_index turns (i / 256) + i) % 256

-- the number of a place
unfoldable pub nth : List ℕ → List ℕ → ℕ → ℕ
nth numbers turns i = slice_index numbers (spot turns i)

-- the numbers of the first places
unfoldable pub first : List ℕ → List ℕ → ℕ → List ℕ
first numbers turns len = map (nth numbers turns) (range_with_len 0 len)

-- each block has a turn
pub record IsBlocks (numbers turns : List ℕ) : Type 0 where
  pub whole : length numbers ≡ 256 * length turns
  pub few : length numbers ≤ 65536

-- the places that hold a number, and the room, are within the memory
pub record IsSlotList (numbers turns : List ℕ) (len room : ℕ) : Type 0 where
  pub blocks : IsBlocks numbers turns
  pub within : len ≤ room
  pub reach : room ≤ length numbers

-- what is at a place once x came in at the place a, and moved what was there on by one
abbrev pub moved : (ℕ → ℕ) → ℕ → ℕ → ℕ → ℕ
moved f a x j = if j == a then x else f (j - 1)

-- x came in at a, the numbers before z moved on by one, and the one that came to z fell out
pub record IsPassed (f g : ℕ → ℕ) (a z x out : ℕ) : Type 0 where
  pub before : (j : ℕ) → j < a → g j ≡ f j
  pub after : (j : ℕ) → z ≤ j → g j ≡ f j
  pub between : (j : ℕ) → a ≤ j → j < z → g j ≡ moved f a x j
  pub fell : out ≡ moved f a x z

-- the same, of the places before z alone
pub record IsPut (f g : ℕ → ℕ) (a z x : ℕ) : Type 0 where
  pub before : (j : ℕ) → j < a → g j ≡ f j
  pub between : (j : ℕ) → a ≤ j → j < z → g j ≡ moved f a x j
