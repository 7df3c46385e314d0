-- How attributes are written, and which attributes there are.
use Rattle.std.specs.Prelude.{◌≡◌, ◌≢◌, ℕ, List, [], ◌∷◌, ◌++◌, map, chars, encode_utf8_all, IsUtf8}
use Rattle.std.specs.FinMap as fin
use Rattle.std.specs.List.{AllByRecursion}
use Rattle.slp_text.specs.Ascii.{equals_sign, left_parenthesis, right_parenthesis}
use Rattle.slp_text.specs.Escapes.{escaped_text}
use Rattle.slp_text.specs.Keys.{key_of}
use Rattle.slp_text.specs.Lists.{comma_list}
use Rattle.slp_text.specs.declared.escapes.Place.TheVariants as place
use Rattle.attr_values.specs.Kinds.{IsValue}
use Rattle.attr_values.specs.Values.{value_text}
use Rattle.attr_list.specs.Lists.{Attributes, distinct_values}
use Rattle.attr_list.specs.declared.held.Held.{Held}
use Rattle.attr_list.specs.declared.held.Held.TheVariants.{Keyword, Values}

-- a tag as it is written in a list
abbrev pub tag_text : List ℕ → List ℕ
tag_text tag = encode_utf8_all (escaped_text place.Tag (chars tag))

-- what stands before the values of a tag
abbrev pub opening_text : List ℕ → List ℕ
opening_text tag = left_parenthesis ∷ tag_text tag ++ equals_sign ∷ []

-- one attribute: `tag`, or `(tag=value,value)`
abbrev pub attribute_text : List ℕ → Held → List ℕ
attribute_text tag Keyword = tag_text tag
attribute_text tag (Values vs) =
    left_parenthesis ∷ tag_text tag ++ equals_sign ∷ comma_list (map value_text vs) ++ right_parenthesis ∷ []

-- all of them in key order, with a comma between each two
abbrev pub attributes_text : Attributes → List ℕ
attributes_text a = comma_list (map (λ p. attribute_text p.0 p.1) (fin.entries a))

-- one value at least, none the same as another
abbrev pub IsHeld : Held → Type 0
IsHeld Keyword = Unit {0}
IsHeld (Values vs) = (vs ≢ []) × AllByRecursion IsValue vs × (distinct_values vs ≡ vs)

-- a tag is a text that is not empty and its own key
pub record IsAttribute (tag : List ℕ) (held : Held) : Type 0 where
  pub utf8 : IsUtf8 tag
  pub is_some : tag ≢ []
  pub is_own_key : key_of tag ≡ tag
  pub holds : IsHeld held

abbrev pub AreAttributes : Attributes → Type 0
AreAttributes a = AllByRecursion (λ p. IsAttribute p.0 p.1) (fin.entries a)
