-- What happens one thing after the other.
use Rattle.std.specs.Prelude.{◌≡◌, List, [], ◌∷◌}

-- what may happen where: the state before, what happens, and the state after
abbrev pub Mays : Type 0 → Type 0 → Type 1
Mays S D = S → D → S → Type 0

-- these happen, one after the other, and nothing else
abbrev pub Runs : {S D : Type 0} → Mays S D → S → List D → S → Type 0
Runs may before [] after = after ≡ before
Runs {S = S} may before (d ∷ ds) after = (between : S) × may before d between × Runs may between ds after

-- the same things happen to both of two
abbrev pub Goes : {S T D : Type 0} → Mays S D → Mays T D → S → T → S → T → Type 0
Goes {D = D} may does before from after to = (ds : List D) × Runs may before ds after × Runs does from ds to
