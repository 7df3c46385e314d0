-- The lines of a text.
use Rattle.std.specs.Prelude.{ℕ, List, [], ◌∷◌, ◌++◌, ◌==◌, if◌then◌else◌}
use Rattle.slp_text.specs.Ascii.{line_feed}
use Rattle.slp_text.specs.Words.{Lacks}

-- a line, without its LF
abbrev pub Line : Type 0
Line = List ℕ

-- a byte, put before the first line
abbrev pub before_first_line : ℕ → List Line → List Line
before_first_line x [] = (x ∷ []) ∷ []
before_first_line x (l ∷ ls) = (x ∷ l) ∷ ls

-- the lines of a text: each is ended by LF, the last one also by the end
abbrev pub lines_of : List ℕ → List Line
lines_of [] = []
lines_of (x ∷ xs) = if x == line_feed then [] ∷ lines_of xs else before_first_line x (lines_of xs)

-- a line and its LF
abbrev pub line_bytes : Line → List ℕ
line_bytes l = l ++ line_feed ∷ []

abbrev pub HasNoLf : List ℕ → Type 0
HasNoLf l = Lacks line_feed l
