-- What is said of a file: where something is wrong, and what.
use Rattle.std.specs.Prelude.{ℕ, Bool, ◌+◌, ◌==◌, List, [], ◌∷◌, ◌++◌, codes, count_by, take, Option, Some, None}
use Rattle.std.specs.Fmt.{decimal}
use Rattle.std.specs.Option.{option_copied}
use Rattle.shown_text.specs.Shown.{shown}
use Rattle.slp_text.specs.Ascii.{line_feed}
use Rattle.site_check.specs.declared.problem.Numbered.{Numbered}
use Rattle.site_check.specs.declared.problem.Numbered.TheVariants.{Rule, Hide}
use Rattle.site_check.specs.declared.problem.Place.{Place as PlaceLent}
use Rattle.site_check.specs.declared.problem.Place.TheVariants as lent_place
use Rattle.site_check.specs.declared.problem.Problem.{Problem as ProblemLent}
use Rattle.site_check.specs.declared.problem.Problem.TheVariants as lent_problem
use Rattle.site_check.specs.declared.problem.Warning.{Warning as WarningLent}
use Rattle.site_check.specs.declared.problem.Warning.TheVariants as lent_warning

-- the bytes of the longest configuration, rule file or template
abbrev pub longest_text : ℕ
longest_text = 1048576

-- ---- where

-- a file, one of its lines, or a rule or a hide table of it, which may have a name
pub data Place : Type 0 where
  File : List ℕ → Place
  Line : List ℕ → ℕ → Place
  At : List ℕ → Numbered → Option (List ℕ) → Place

-- the same, wherever its texts lie
abbrev pub place_in : PlaceLent → Place
place_in (lent_place.File file) = File file.now
place_in (lent_place.Line file n) = Line file.now n
place_in (lent_place.Numbered file numbered name) = At file.now numbered (option_copied name)

-- a rule or a hide table by its number
abbrev pub numbered_text : Numbered → List ℕ
numbered_text (Rule n) = codes "rule " ++ decimal n
numbered_text (Hide n) = codes "hide table " ++ decimal n

abbrev pub place_text : Place → List ℕ
place_text (File file) = shown file
place_text (Line file n) = shown file ++ codes ":" ++ decimal n
place_text (At file numbered None) = shown file ++ codes ": " ++ numbered_text numbered
place_text (At file numbered (Some name)) = shown file ++ codes ": " ++ numbered_text numbered ++ codes " (" ++ shown name ++ codes ")"

abbrev pub is_line_feed : ℕ → Bool
is_line_feed b = b == line_feed

-- the line in which a byte of a text stands, from 1: one more than the line feeds before it
abbrev pub line_of_place : List ℕ → ℕ → ℕ
line_of_place text place = count_by is_line_feed (take place text) + 1

-- ---- what is wrong

pub data Problem : Type 0 where
  TooLong : Problem
  NotToml : List ℕ → Problem
  UnknownKey : List ℕ → Problem
  EarlyKey : List ℕ → Problem
  EarlyHides : Problem
  Missing : List ℕ → Problem
  -- a key, and what its value is not
  Value : List ℕ → List ℕ → Problem
  -- an element by its number, of a key, and what it is not
  Element : ℕ → List ℕ → List ℕ → Problem
  -- an element that is there before: its number, the key, and the number of that one
  Again : ℕ → List ℕ → ℕ → Problem
  TooManyRules : Problem
  TooManyTogether : Problem
  NotTable : Problem
  SameName : Numbered → Problem
  Template : List ℕ → Problem
  SameType : Problem

abbrev pub problem_in : ProblemLent → Problem
problem_in lent_problem.TooLong = TooLong
problem_in (lent_problem.NotToml message) = NotToml message.now
problem_in (lent_problem.UnknownKey key) = UnknownKey key.now
problem_in (lent_problem.EarlyKey key) = EarlyKey key.now
problem_in lent_problem.EarlyHides = EarlyHides
problem_in (lent_problem.Missing key) = Missing key.now
problem_in (lent_problem.Value key refusal) = Value key.now refusal.now
problem_in (lent_problem.Element number key refusal) = Element number key.now refusal.now
problem_in (lent_problem.Again number key other) = Again number key.now other
problem_in lent_problem.TooManyRules = TooManyRules
problem_in lent_problem.TooManyTogether = TooManyTogether
problem_in lent_problem.NotTable = NotTable
problem_in (lent_problem.SameName other) = SameName other
problem_in (lent_problem.Template refusal) = Template refusal.now
problem_in lent_problem.SameType = SameType

abbrev pub problem_text : Problem → List ℕ
problem_text TooLong = codes "longer than 1048576 bytes"
problem_text (NotToml message) = codes "not TOML: " ++ shown message
problem_text (UnknownKey key) = codes "unknown key " ++ shown key
problem_text (EarlyKey key) = key ++ codes " needs version 2"
problem_text EarlyHides = codes "hide tables need version 3"
problem_text (Missing key) = key ++ codes " is missing"
problem_text (Value key refusal) = key ++ codes " is " ++ refusal
problem_text (Element number key refusal) = codes "element " ++ decimal number ++ codes " of " ++ key ++ codes " is " ++ refusal
problem_text (Again number key other) = codes "element " ++ decimal number ++ codes " of " ++ key ++ codes " is element " ++ decimal other ++ codes " again"
problem_text TooManyRules = codes "more than 1024 rules"
problem_text TooManyTogether = codes "more than 1024 rules and hide tables"
problem_text NotTable = codes "not a table"
problem_text (SameName other) = numbered_text other ++ codes " has this name, too"
problem_text (Template refusal) = refusal
problem_text SameType = codes "an earlier template is of its type, too"

-- what is written of what is wrong
abbrev pub problem_line : Place → Problem → List ℕ
problem_line place problem = place_text place ++ codes ": " ++ problem_text problem ++ line_feed ∷ []

-- ---- what is surely not meant

pub data Warning : Type 0 where
  NoRuleFile : Warning
  NoRules : Warning
  -- the number and the name of the rule that hides it
  Hidden : ℕ → List ℕ → Warning
  NoScope : List ℕ → Warning
  NoType : List ℕ → Warning
  -- a type that does not begin with service:
  NoService : List ℕ → Warning
  NoSight : Warning
  -- an element of from, by its number, with bits that do not count
  MoreBits : ℕ → Warning
  -- a type that rules about every type alone let be registered
  AnyType : List ℕ → Warning
  -- a tag whose definition refuses its own default values
  RefusedDefault : List ℕ → Warning
  -- an element of listen, by its number, that is every address; or one that is not of one machine
  AnyAddress : ℕ → Warning
  NoMachine : ℕ → Warning
  -- how many descriptors there may be, and how many can be needed
  FewDescriptors : ℕ → ℕ → Warning

abbrev pub warning_in : WarningLent → Warning
warning_in lent_warning.NoRuleFile = NoRuleFile
warning_in lent_warning.NoRules = NoRules
warning_in (lent_warning.Hidden number name) = Hidden number name.now
warning_in (lent_warning.NoScope scope) = NoScope scope.now
warning_in (lent_warning.NoType kind) = NoType kind.now
warning_in (lent_warning.NoService kind) = NoService kind.now
warning_in lent_warning.NoSight = NoSight
warning_in (lent_warning.MoreBits number) = MoreBits number
warning_in (lent_warning.AnyType kind) = AnyType kind.now
warning_in (lent_warning.RefusedDefault tag) = RefusedDefault tag.now
warning_in (lent_warning.AnyAddress number) = AnyAddress number
warning_in (lent_warning.NoMachine number) = NoMachine number
warning_in (lent_warning.FewDescriptors most need) = FewDescriptors most need

abbrev pub warning_text : Warning → List ℕ
warning_text NoRuleFile = codes "no rule file is named, so all is denied"
warning_text NoRules = codes "there are no rules, so all is denied"
warning_text (Hidden number name) = codes "it never decides, since rule " ++ decimal number ++ codes " (" ++ shown name ++ codes ") fits whatever it fits"
warning_text (NoScope scope) = codes "the site has no scope " ++ shown scope
warning_text (NoType kind) = codes "no rule lets anyone register " ++ shown kind
warning_text (NoService kind) = codes "it is about URLs that begin with " ++ shown kind ++ codes ": and about no type that begins with service:"
warning_text NoSight = codes "no rule lets anyone see anything"
warning_text (MoreBits number) = codes "element " ++ decimal number ++ codes " of from has bits behind its prefix, which do not count"
warning_text (AnyType kind) = codes "only rules of type * let anyone register " ++ shown kind
warning_text (RefusedDefault tag) = codes "its own definition refuses the default of " ++ shown tag
warning_text (AnyAddress number) = codes "element " ++ decimal number ++ codes " of listen is 0.0.0.0, which is told to clients as the address of the directory"
warning_text (NoMachine number) = codes "element " ++ decimal number ++ codes " of listen is no address of one machine"
warning_text (FewDescriptors most need) = codes "a process may have " ++ decimal most ++ codes " descriptors here, and slpda can need " ++ decimal need

-- what is written of what is surely not meant
abbrev pub warning_line : Place → Warning → List ℕ
warning_line place warning = place_text place ++ codes ": warning: " ++ warning_text warning ++ line_feed ∷ []
