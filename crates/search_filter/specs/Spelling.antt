-- What a filter's text spells (RFC 2608, section 8.1; RFC 2254), apart from how it is read.
use Rattle.std.specs.Prelude.{◌≡◌, ◌≢◌, ℕ, ◌≤◌, Bool, true, false, ◌==◌, ◌||◌, List, [], ◌∷◌, ◌++◌, chars, Ok}
use Rattle.std.specs.List.{list_all, list_any}
use Rattle.slp_text.specs.Ascii.{equals_sign, exclamation_mark, greater_than_sign, left_parenthesis, less_than_sign, right_parenthesis, tilde}
use Rattle.slp_text.specs.Keys.{is_white}
use Rattle.search_filter.specs.Filters.{Filter, Filters, all, any, negated, item, none, more, depth}
use Rattle.search_filter.specs.Operands.{condition_in, tag_in}
use Rattle.search_filter.specs.Reading.{ampersand, deepest, vertical_bar}
use Rattle.search_filter.specs.declared.item.Item.{Item}
use Rattle.search_filter.specs.declared.reading.Operator.{Operator}
use Rattle.search_filter.specs.declared.reading.Operator.TheVariants as operator

abbrev pub operator_text : Operator → List ℕ
operator_text operator.Equal = equals_sign ∷ []
operator_text operator.Alike = tilde ∷ equals_sign ∷ []
operator_text operator.AtLeast = greater_than_sign ∷ equals_sign ∷ []
operator_text operator.AtMost = less_than_sign ∷ equals_sign ∷ []

abbrev pub is_parenthesis : ℕ → Bool
is_parenthesis c = c == left_parenthesis || c == right_parenthesis

-- begins as another filter than an item does
abbrev pub begins_connected : List ℕ → Bool
begins_connected [] = false
begins_connected (c ∷ cs) = c == ampersand || c == vertical_bar || c == exclamation_mark

-- a tag, an operator and an operand
pub record SpellsItem (cs : List ℕ) (i : Item) : Type 0 where
  pub tag : List ℕ
  pub operator : Operator
  pub operand : List ℕ
  pub whole : cs ≡ tag ++ operator_text operator ++ operand
  pub named : tag_in tag ≡ Ok i.tag
  pub asked : condition_in operator operand ≡ Ok i.condition
  pub closed : list_any is_parenthesis cs ≡ false
  pub alone : begins_connected cs ≡ false

-- nothing but white space
abbrev pub AreBlank : List ℕ → Type 0
AreBlank cs = list_all is_white cs ≡ true

-- characters with white space before and after
pub record IsPadded (P : List ℕ → Type 0) (cs : List ℕ) : Type 0 where
  pub before : List ℕ
  pub inner : List ℕ
  pub after : List ℕ
  pub whole : cs ≡ before ++ inner ++ after
  pub blank_before : AreBlank before
  pub blank_after : AreBlank after
  pub is : P inner

-- characters between parentheses
pub record IsEnclosed (P : List ℕ → Type 0) (cs : List ℕ) : Type 0 where
  pub inner : List ℕ
  pub whole : cs ≡ left_parenthesis ∷ inner ++ right_parenthesis ∷ []
  pub is : P inner

-- characters after a first one
pub record IsAfter (first : ℕ) (P : List ℕ → Type 0) (cs : List ℕ) : Type 0 where
  pub inner : List ℕ
  pub whole : cs ≡ first ∷ inner
  pub is : P inner

-- one part after another
pub record AreTwo (P Q : List ℕ → Type 0) (cs : List ℕ) : Type 0 where
  pub front : List ℕ
  pub back : List ℕ
  pub whole : cs ≡ front ++ back
  pub first : P front
  pub second : Q back

-- `(&..)`, `(|..)` and `(!..)` with filters in them, `&` and `|` with one at least, and white space round each; or an item in parentheses
abbrev mutual
  pub Spells : Filter → List ℕ → Type 0
  Spells (all fs) cs = IsEnclosed (IsAfter ampersand (SpellsEach fs)) cs × (fs ≢ none)
  Spells (any fs) cs = IsEnclosed (IsAfter vertical_bar (SpellsEach fs)) cs × (fs ≢ none)
  Spells (negated f) cs = IsEnclosed (IsAfter exclamation_mark (IsPadded (Spells f))) cs
  Spells (item i) cs = IsEnclosed (λ inner. SpellsItem inner i) cs

  pub SpellsEach : Filters → List ℕ → Type 0
  SpellsEach none cs = AreBlank cs
  SpellsEach (more f fs) cs = AreTwo (IsPadded (Spells f)) (SpellsEach fs) cs

-- the text spells this filter, of as many levels as there may be
pub record SpellsFilter (text : List ℕ) (f : Filter) : Type 0 where
  pub spelled : IsPadded (Spells f) (chars text)
  pub shallow : depth f ≤ deepest
