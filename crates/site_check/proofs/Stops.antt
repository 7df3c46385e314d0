-- What is said of a text that is to be TOML, where reading it stops at some place.
use Rattle.std.proofs.Common.{◌≡◌, ◌<◌, ◌≤◌, ℕ, List, [], length, Option, Some, None, Result, Ok, Err, OnOk, arith}
use Rattle.std.specs.Io.KnownBytes.{Appends}
use Rattle.std.proofs.lemmas.Bool.{le-ltb, lt-ltb}
use Rattle.toml.specs.Data.{Members}
use Rattle.toml.specs.Errors.{IsMemory, IsWithin, span_start}
use Rattle.toml.specs.Parse.{parse_document}
use Rattle.toml.specs.declared.de.error.Error.{Error}
use Rattle.site_check.specs.Lines.{File, TooLong, longest_text, problem_line}
use Rattle.site_check.specs.NotToml.{AppendsStopped, Stop, not_toml_line, text_lines}

module _ (of_table : Members → List ℕ) (file text : List ℕ) (old new : Option (List ℕ)) where
  abbrev nowhere : Stop
  nowhere = record { place = 0; message = [] }

  pub too_long : longest_text < length text → Appends old new (problem_line (File file) TooLong) → AppendsStopped old new text (text_lines of_table file text)
  too_long long told = (nowhere, omega arith, rw (lt-ltb longest_text (length text) long) told)

  pub of_members : {E : Type 0} (r : Result (Unit {0}) E) (t : Members) → length text ≤ longest_text → parse_document text ≡ Some t → OnOk r (Appends old new (of_table t)) → OnOk r (AppendsStopped old new text (text_lines of_table file text))
  of_members (Ok x) t short is told = (nowhere, omega arith, rw (le-ltb longest_text (length text) short, is) told)
  of_members (Err e) t short is told = tt

  pub not_toml : {E : Type 0} (r : Result (Unit {0}) E) (e : Error) → length text ≤ longest_text → (¬ IsMemory e → parse_document text ≡ None) → IsWithin text e
      → OnOk r ((stop : Stop) × (stop.place ≡ span_start e) × Appends old new (not_toml_line file text stop)) → OnOk r (¬ IsMemory e) → OnOk r (AppendsStopped old new text (text_lines of_table file text))
  not_toml (Ok x) e short none within told text_fault = (told.0, omega (arith, told.1, within.0, within.1), rw (le-ltb longest_text (length text) short, none text_fault) told.2)
  not_toml (Err x) e short none within told text_fault = tt
