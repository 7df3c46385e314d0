-- Lists of nodes, each kept by links from one node to the next.
use Rattle.std.specs.Prelude.{◌≡◌, ℕ, zero, suc, ◌+◌, ◌^◌, ◌<◌, ◌≤◌, if◌then◌else◌, ◌==◌, nat_lt, List, [], ◌∷◌, length, slice_index}

-- what follows each node and then each chain's head, and the chain of each node
pub record Links : Type 0 where
  pub next : List ℕ
  pub home : List ℕ
  pub heads : ℕ

-- the nodes from a on, at most k
abbrev pub walk : ℕ → List ℕ → ℕ → ℕ → List ℕ
walk n next zero a = []
walk n next (suc k) a = if nat_lt a n then a ∷ walk n next k (slice_index next a) else []

-- the nodes of a chain
unfoldable pub chain : Links → ℕ → List ℕ
chain c h = walk (length c.home) c.next (length c.home) (slice_index c.next (length c.home + h))

-- a node that stands in a chain, and those after it
unfoldable pub rest : Links → ℕ → List ℕ
rest c a = if nat_lt (slice_index c.home a) c.heads then walk (length c.home) c.next (length c.home) a else []

abbrev pub count : ℕ → List ℕ → ℕ
count x [] = 0
count x (y ∷ ys) = (if y == x then 1 else 0) + count x ys

-- from a the links lead along the list, and then to a head
abbrev pub Reach : ℕ → List ℕ → ℕ → List ℕ → Type 0
Reach n next a [] = n ≤ a
Reach n next a (x ∷ xs) = (a ≡ x) × (x < n) × Reach n next (slice_index next x) xs

-- each of n numbers leads to one and is led to by one
pub record IsInverse (next prev : List ℕ) (n : ℕ) : Type 0 where
  pub nexts : length next ≡ n
  pub prevs : length prev ≡ n
  pub after : (a : ℕ) → a < n → slice_index next a < n
  pub before : (a : ℕ) → a < n → slice_index prev a < n
  pub there : (a : ℕ) → a < n → slice_index prev (slice_index next a) ≡ a
  pub back : (a : ℕ) → a < n → slice_index next (slice_index prev a) ≡ a

-- each node stands once in the chain that is its home, and in no other
pub record IsStanding (c : Links) : Type 0 where
  pub ends : (h : ℕ) → h < c.heads → Reach (length c.home) c.next (slice_index c.next (length c.home + h)) (chain c h)
  pub each : (h x : ℕ) → h < c.heads → x < length c.home → count x (chain c h) ≡ (if slice_index c.home x == h then 1 else 0)
  pub homes : (x : ℕ) → x < length c.home → slice_index c.home x ≤ c.heads

pub record IsChained (c : Links) (prev : List ℕ) : Type 0 where
  pub inverse : IsInverse c.next prev (length c.home + c.heads)
  pub small : length c.home + c.heads < 2 ^ 32
  pub standing : IsStanding c
