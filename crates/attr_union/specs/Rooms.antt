-- What is joined and written where there is room for so much alone.
use Rattle.std.specs.Prelude.{◌≡◌, ◌⊎◌, ℕ, ◌<◌, List, ◌++◌, length}
use Rattle.attr_values.specs.declared.value.Value.{Value}
use Rattle.attr_list.specs.Lists.{distinct_values}

-- values, each once: all of them, or the first, if those are more than so many
abbrev pub AreFirstDistinct : ℕ → List Value → List Value → Type 0
AreFirstDistinct most vs first = (first ≡ distinct_values vs) ⊎ ((more : List Value) × (distinct_values vs ≡ first ++ more) × (most < length first))

-- a text is appended; or something else, where both are more than there is room for with what was there
abbrev pub IsWrittenWithin : ℕ → List ℕ → List ℕ → List ℕ → Type 0
IsWrittenWithin room old text new = (new ≡ old ++ text) ⊎ ((other : List ℕ) × (new ≡ old ++ other) × (room < length new) × (room < length (old ++ text)))
