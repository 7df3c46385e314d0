-- Sets of keys, which stand in key order, each once.
use Rattle.std.specs.Prelude.{ℕ, List, [], ◌∷◌, filter}
use Rattle.std.specs.Ordering.{match_ordering}
use Rattle.std.specs.List.{list_any}
use Rattle.slp_text.specs.Words.{bytes_cmp, bytes_eq}

-- with one key more, unless it is there
abbrev pub with_key : List ℕ → List (List ℕ) → List (List ℕ)
with_key k [] = k ∷ []
with_key k (j ∷ js) = match_ordering (bytes_cmp k j) (k ∷ j ∷ js) (j ∷ js) (j ∷ with_key k js)

-- the set of some keys
abbrev pub set_of : List (List ℕ) → List (List ℕ)
set_of [] = []
set_of (k ∷ ks) = with_key k (set_of ks)

-- what stands in both sets
abbrev pub common_keys : List (List ℕ) → List (List ℕ) → List (List ℕ)
common_keys ks others = filter (λ k. list_any (λ o. bytes_eq o k) others) ks
