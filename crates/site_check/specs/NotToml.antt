-- What is said of a text that is to be TOML.
use Rattle.std.specs.Prelude.{ℕ, ◌≤◌, List, length, nat_lt, Option, if◌then◌else◌}
use Rattle.std.specs.Io.KnownBytes.{Appends}
use Rattle.std.specs.Option.{option_map_or}
use Rattle.toml.specs.Data.{Members}
use Rattle.toml.specs.Parse.{parse_document}
use Rattle.site_check.specs.Lines.{File, Line, NotToml, TooLong, line_of_place, longest_text, problem_line}

-- where reading a text stops, as the index of a byte, and what the reader of TOML says of it
pub record Stop : Type 0 where
  pub place : ℕ
  pub message : List ℕ

abbrev pub not_toml_line : List ℕ → List ℕ → Stop → List ℕ
not_toml_line file text stop = problem_line (Line file (line_of_place text stop.place)) (NotToml stop.message)

-- that it is too long, or is no TOML, where reading it stops so, else what is said of its table
abbrev pub text_lines : (Members → List ℕ) → List ℕ → List ℕ → Stop → List ℕ
text_lines of_table file text stop =
    if nat_lt longest_text (length text) then problem_line (File file) TooLong
    else option_map_or of_table (parse_document text) (not_toml_line file text stop)

-- known bytes grow by these lines, for some place in the text where reading stops
abbrev pub AppendsStopped : Option (List ℕ) → Option (List ℕ) → List ℕ → (Stop → List ℕ) → Type 0
AppendsStopped old new text lines = (stop : Stop) × (stop.place ≤ length text) × Appends old new (lines stop)
