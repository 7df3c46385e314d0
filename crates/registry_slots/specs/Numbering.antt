-- Numbers of slots by which it is known which entries are alike.
use Rattle.std.specs.Prelude.{◌≡◌, ◌≢◌, ℕ, ◌≤◌, true, List, Option, Some, slice_index_or, slice_set}
use Rattle.registry_core.specs.declared.entry.Entry.{Entry}
use Rattle.registry_core.specs.Entries.{are_alike}
use Rattle.registry_slots.specs.Slots.{slot_at}

abbrev pub number_at : List ℕ → ℕ → ℕ
number_at numbers x = slice_index_or numbers x 0

-- none is greater
abbrev pub AreUpTo : ℕ → List ℕ → Type 0
AreUpTo last numbers = (x : ℕ) → number_at numbers x ≤ last

-- one gets a number that none had, or one that says nothing
abbrev pub GivesNew : List ℕ → List ℕ → ℕ → Type 0
GivesNew old new x = (n : ℕ) × (new ≡ slice_set old x n) × ((y : ℕ) → number_at old y ≡ n → n ≡ 0)

-- slots of the same number, that is not 0, have entries alike
abbrev pub AreNumbered : List (Option Entry) → List ℕ → Type 0
AreNumbered slots numbers = (x y : ℕ) (e f : Entry) → slot_at slots x ≡ Some e → slot_at slots y ≡ Some f
    → number_at numbers x ≡ number_at numbers y → number_at numbers x ≢ 0 → are_alike e f ≡ true
