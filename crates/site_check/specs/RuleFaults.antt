-- What is wrong with a table as a rule file.
use Rattle.std.specs.Prelude.{ℕ, ◌+◌, Bool, true, false, List, [], ◌++◌, codes, find, length, nat_lt, take, Option, Some, None, is_some, if◌then◌else◌, option_and_then}
use Rattle.std.specs.List.{enumerate_from, flat_map}
use Rattle.std.specs.Option.{option_map, option_map_or}
use Rattle.toml.specs.Data.{Data, as_table, Members, get_member}
use Rattle.slp_text.specs.Words.{bytes_eq}
use Rattle.rule_files.specs.RuleFiles.{hide_key, is_plain_file_key, name_key, rule_key, version_in, version_key}
use Rattle.toml_tables.specs.Tables.{array_values, is_some_list, keys_of, text_at}
use Rattle.rule_files.specs.declared.version.Version.{Version}
use Rattle.rule_files.specs.declared.version.Version.TheVariants.{One, Two, Three}
use Rattle.site_check.specs.Elements.{elements_at}
use Rattle.site_check.specs.Lines.{At, EarlyHides, File, Missing, Place, Problem, SameName, TooManyRules, TooManyTogether, UnknownKey, Value, problem_line}
use Rattle.site_check.specs.declared.problem.Numbered.{Numbered}
use Rattle.site_check.specs.declared.problem.Numbered.TheVariants.{Rule, Hide}
use Rattle.site_check.specs.NotToml.{Stop, text_lines}
use Rattle.site_check.specs.RuleKeys.{hide_keys, rule_keys, value_lines}

-- ---- names

-- the name that a value gives a rule or a hide table, if it is a text
abbrev pub name_given : Data → Option (List ℕ)
name_given d = option_and_then (text_at name_key) (as_table d)

abbrev pub has_name : List ℕ → Data → Bool
has_name name d = option_map_or (bytes_eq name) (name_given d) false

-- the number of the first value that gives a name, where they are numbered from n
abbrev pub number_named : List ℕ → ℕ → List Data → Option ℕ
number_named name n ds = option_map (λ numbered. numbered.0) (find (λ numbered. has_name name numbered.1) (enumerate_from n ds))

-- the first of these rules that has a name, else the first of the hide tables after them
abbrev pub named : List ℕ → List Data → List Data → Option Numbered
named name rules hides = option_map_or (λ n. Some (Rule n)) (number_named name 1 rules) (option_map Hide (number_named name (length rules + 1) hides))

-- that an earlier one has the name, too
abbrev pub name_line : Place → Option (List ℕ) → List Data → List Data → List ℕ
name_line place None rules hides = []
name_line place (Some name) rules hides = option_map_or (λ other. problem_line place (SameName other)) (named name rules hides) []

-- ---- rules and hide tables

-- a value as a rule, with its index among these
abbrev pub rule_lines : List ℕ → Option Version → List Data → ℕ × Data → List ℕ
rule_lines file version rules indexed =
    let name = name_given indexed.1 in
    let place = At file (Rule (indexed.0 + 1)) name in
    value_lines (rule_keys version) place indexed.1 ++ name_line place name (take indexed.0 rules) []

-- a value as a hide table, with its index among these, which come after the rules
abbrev pub hide_lines : List ℕ → List Data → List Data → ℕ × Data → List ℕ
hide_lines file rules hides indexed =
    let name = name_given indexed.1 in
    let place = At file (Hide (length rules + indexed.0 + 1)) name in
    value_lines hide_keys place indexed.1 ++ name_line place name rules (take indexed.0 hides)

-- ---- the file

abbrev pub version_line : List ℕ → Members → List ℕ
version_line file table =
    if is_some (version_in table) then []
    else problem_line (File file) (option_map_or (λ d. Value version_key (codes "neither 1, 2 nor 3")) (get_member version_key table) (Missing version_key))

-- the version is known, and has no hide tables
abbrev pub is_before_hides : Option Version → Bool
is_before_hides None = false
is_before_hides (Some One) = true
is_before_hides (Some Two) = true
is_before_hides (Some Three) = false

-- what is wrong with a key of a file, if anything is
abbrev pub file_key_fault : Option Version → List ℕ → Option Problem
file_key_fault version key =
    if is_plain_file_key key then None
    else (if bytes_eq key hide_key then (if is_before_hides version then Some EarlyHides else None) else Some (UnknownKey key))

abbrev pub file_key_line : List ℕ → Option Version → List ℕ → List ℕ
file_key_line file version key = option_map_or (problem_line (File file)) (file_key_fault version key) []

-- what stands at a key is no array
abbrev pub array_line : List ℕ → Members → List ℕ → List ℕ
array_line file table key =
    option_map_or (λ d. option_map_or (λ ds. []) (array_values d) (problem_line (File file) (Value key (codes "not an array of tables")))) (get_member key table) []

abbrev pub too_many : List Data → Problem
too_many hides = if is_some_list hides then TooManyTogether else TooManyRules

-- each rule, then each hide table; of more than 1,024 together nothing but that
abbrev pub all_lines : List ℕ → Option Version → List Data → List Data → List ℕ
all_lines file version rules hides =
    if nat_lt 1024 (length rules + length hides) then problem_line (File file) (too_many hides)
    else flat_map (rule_lines file version rules) (enumerate_from 0 rules) ++ flat_map (hide_lines file rules hides) (enumerate_from 0 hides)

-- the version, the keys of the file, its two arrays, and what stands in them
abbrev pub rule_table_lines : List ℕ → Members → List ℕ
rule_table_lines file table =
    version_line file table
    ++ flat_map (file_key_line file (version_in table)) (keys_of table)
    ++ array_line file table rule_key
    ++ array_line file table hide_key
    ++ all_lines file (version_in table) (elements_at rule_key table) (elements_at hide_key table)

-- what is wrong with a text as a rule file; where it is no TOML, reading it stops so
abbrev pub rule_file_lines : List ℕ → List ℕ → Stop → List ℕ
rule_file_lines file = text_lines (rule_table_lines file) file
