-- What the text of a template means (RFC 2609, section 4).
use Rattle.std.specs.Prelude.{◌≡◌, ℕ, true, false, List, [], ◌∷◌, ◌++◌, Option, Some}
use Rattle.std.specs.List.{AllByRecursion}
use Rattle.std.specs.Str.Lines.{lines}
use Rattle.slp_text.specs.Words.{bytes_eq, is_blank}
use Rattle.template_files.specs.Reading.{definition_in, description_word, syntax_word, type_in, value_after, version_word}
use Rattle.srv_template.specs.Templates.{Template}
use Rattle.srv_template.specs.declared.definition.Definition.{Definition}

-- each is white space alone, and none is
abbrev pub AreBlank : List (List ℕ) → Type 0
AreBlank ls = AllByRecursion (λ l. is_blank l ≡ true) ls

abbrev pub AreFilled : List (List ℕ) → Type 0
AreFilled ls = AllByRecursion (λ l. is_blank l ≡ false) ls

-- a blank line comes, or the end
abbrev pub BeginsBlank : List (List ℕ) → Type 0
BeginsBlank [] = Unit {0}
BeginsBlank (l ∷ ls) = is_blank l ≡ true

-- a part of one line, of which f gives x: blank lines, that line, and the rest
pub record IsPart {A : Type 0} (f : List ℕ → Option A) (x : A) (ls rest : List (List ℕ)) : Type 0 where
  pub blanks : List (List ℕ)
  pub line : List ℕ
  pub all : ls ≡ blanks ++ line ∷ rest
  pub are_blank : AreBlank blanks
  pub is_filled : is_blank line ≡ false
  pub gives : f line ≡ Some x

-- a part that goes on to a blank line or the end
pub record IsLongPart {A : Type 0} (f : List ℕ → Option A) (x : A) (ls rest : List (List ℕ)) : Type 0 where
  pub more : List (List ℕ)
  pub begins : IsPart f x ls (more ++ rest)
  pub are_filled : AreFilled more
  pub ends : BeginsBlank rest

-- definitions, each a block of lines after blank ones, which goes on to a blank line or the end
abbrev pub SpellsDefinitions : List (List ℕ) → List Definition → Type 0
SpellsDefinitions ls [] = AreBlank ls
SpellsDefinitions ls (d ∷ ds) =
    (blanks block rest : List (List ℕ)) × (ls ≡ blanks ++ block ++ rest) × AreBlank blanks × AreFilled block × BeginsBlank rest
    × (definition_in block ≡ Some d) × SpellsDefinitions rest ds

-- no two are of one tag
abbrev pub AreOfOwnTags : List Definition → Type 0
AreOfOwnTags [] = Unit {0}
AreOfOwnTags (d ∷ ds) = AllByRecursion (λ e. bytes_eq d.tag e.tag ≡ false) ds × AreOfOwnTags ds

-- The text means the template: the lines of its type and version, its description and its syntax of URLs in this order, and definitions of the rest.
pub record Means (text : List ℕ) (t : Template) : Type 0 where
  pub after_type : List (List ℕ)
  pub type : IsPart type_in t.name (lines text) after_type
  pub version : List ℕ
  pub after_version : List (List ℕ)
  pub is_version : IsPart (value_after version_word) version after_type after_version
  pub description : List ℕ
  pub after_description : List (List ℕ)
  pub is_description : IsLongPart (value_after description_word) description after_version after_description
  pub syntax : List ℕ
  pub after_syntax : List (List ℕ)
  pub is_syntax : IsLongPart (value_after syntax_word) syntax after_description after_syntax
  pub definitions : SpellsDefinitions after_syntax t.definitions
  pub distinct : AreOfOwnTags t.definitions
