-- What is shown of types for which there may be too little room.
use Rattle.std.specs.Prelude.{◌≡◌, ℕ, ◌+◌, ◌<◌, ◌⊎◌, List, [], ◌∷◌, ◌++◌, length, Option, Some, None}

-- the bytes of texts
abbrev pub bytes_of : List (List ℕ) → ℕ
bytes_of [] = 0
bytes_of (t ∷ ts) = length t + bytes_of ts

-- they are more than so many bytes; where no number is given, they are not
abbrev pub IsMore : Option ℕ → List (List ℕ) → Type 0
IsMore None ts = ⊥
IsMore (Some room) ts = room < bytes_of ts

-- all of the types, or the first of them, which are more than there is room for
abbrev pub IsTypesFront : Option ℕ → List (List ℕ) → List (List ℕ) → Type 0
IsTypesFront room all front = (front ≡ all) ⊎ (IsMore room front × ((rest : List (List ℕ)) × (all ≡ front ++ rest)))
