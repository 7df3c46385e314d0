-- The elements of an attribute list: a tag alone, or a tag with values (RFC 2608, section 5).
use Rattle.std.specs.Prelude.{◌≡◌, ◌≢◌, ◌⊎◌, ℕ, true, List, [], ◌∷◌, ◌++◌, Ok}
use Rattle.std.specs.List.{list_all}
use Rattle.slp_text.specs.Ascii.{equals_sign, left_parenthesis, right_parenthesis}
use Rattle.slp_text.specs.Escapes.{unescaped_text_at}
use Rattle.slp_text.specs.Keys.{is_white, folded_text}
use Rattle.slp_text.specs.Lists.{comma_list}
use Rattle.slp_text.specs.declared.escapes.Place.TheVariants as place
use Rattle.attr_values.specs.Values.{value_of}
use Rattle.attr_values.specs.declared.value.Value.{Value}

-- a tag by its key, and the values that this element gives it: none where the tag stands alone
pub record Element : Type 0 where
  pub tag : List ℕ
  pub values : List Value

-- the characters spell this tag: its key, which is not empty
pub record IsTag (cs tag : List ℕ) : Type 0 where
  pub read : List ℕ
  pub unescaped : unescaped_text_at place.Tag cs ≡ Ok read
  pub is_key : tag ≡ folded_text read
  pub is_some : tag ≢ []

-- each of these spells its value
abbrev pub AreValues : List (List ℕ) → List Value → Type 0
AreValues [] [] = Unit {0}
AreValues (cs ∷ css) (v ∷ vs) = (value_of cs ≡ Ok v) × AreValues css vs
AreValues [] (v ∷ vs) = ⊥
AreValues (cs ∷ css) [] = ⊥

-- the characters spell this element: `tag`, or `(tag=value,value)` with one value at least and white space round it
pub data SpellsElement (cs : List ℕ) (e : Element) : Type 0 where
  Alone : IsTag cs e.tag → e.values ≡ [] → SpellsElement cs e
  Valued : (before tag after : List ℕ) (texts : List (List ℕ))
      → list_all is_white before ≡ true → list_all is_white after ≡ true
      → cs ≡ before ++ left_parenthesis ∷ tag ++ equals_sign ∷ comma_list texts ++ right_parenthesis ∷ after
      → IsTag tag e.tag → texts ≢ [] → AreValues texts e.values → SpellsElement cs e

-- each of these spells its element
abbrev pub AreElements : List (List ℕ) → List Element → Type 0
AreElements [] [] = Unit {0}
AreElements (cs ∷ css) (e ∷ es) = SpellsElement cs e × AreElements css es
AreElements [] (e ∷ es) = ⊥
AreElements (cs ∷ css) [] = ⊥

-- the characters spell these elements: nothing but white space, or elements with a comma between each two
abbrev pub SpellsElements : List ℕ → List Element → Type 0
SpellsElements cs es = ((list_all is_white cs ≡ true) × (es ≡ [])) ⊎ ((parts : List (List ℕ)) × (parts ≢ []) × (cs ≡ comma_list parts) × AreElements parts es)
