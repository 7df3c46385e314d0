-- What comes after a character with which a text begins.
use Rattle.std.specs.Prelude.{ℕ, Bool, List, [], ◌∷◌, Option, Some, None, chars, if◌then◌else◌}
use denote.Ref.{Bor}

-- what comes after a first character that passes a test
abbrev pub rest_after : (ℕ → Bool) → List ℕ → Option (List ℕ)
rest_after test [] = None
rest_after test (c ∷ cs) = if test c then Some cs else None

-- the characters of a text that is lent, if there is one
abbrev pub rest_of : Option (Bor (List ℕ)) → Option (List ℕ)
rest_of None = None
rest_of (Some text) = Some (chars text.now)
