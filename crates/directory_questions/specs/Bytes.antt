-- Bytes.
use Rattle.std.specs.Prelude.{ℕ, ◌<◌, get_or, List}

-- each is a byte
abbrev pub AreBytes : List ℕ → Type 0
AreBytes bytes = (i : ℕ) → get_or bytes i 0 < 256
