-- What the text of an attribute list means: a finite map from tags (RFC 2608, section 5).
use Rattle.std.specs.Prelude.{◌≡◌, ℕ, Bool, false, not, ◌&&◌, ◌||◌, List, [], ◌∷◌, map, filter, flat_map, chars, if◌then◌else◌}
use Rattle.std.specs.FinMap as fin
use Rattle.std.specs.FinMap.{FinMap}
use Rattle.std.specs.Ordering.{int_eq}
use Rattle.slp_text.specs.Keys.{key_of}
use Rattle.slp_text.specs.Words.{bytes_cmp, bytes_eq}
use Rattle.attr_values.specs.declared.value.Value.{Value}
use Rattle.attr_values.specs.declared.value.Value.TheVariants as value
use Rattle.attr_list.specs.Elements.{Element, SpellsElements}
use Rattle.attr_list.specs.declared.held.Held.{Held}
use Rattle.attr_list.specs.declared.held.Held.TheVariants.{Keyword, Values}

-- a finite map from keys of tags
abbrev pub Attributes : Type 0
Attributes = FinMap bytes_cmp Held

-- of one kind, and texts of one key
abbrev pub is_same : Value → Value → Bool
is_same (value.Bool a) (value.Bool b) = (a && b) || not (a || b)
is_same (value.Int a) (value.Int b) = int_eq a b
is_same (value.Opaque a) (value.Opaque b) = bytes_eq a b
is_same (value.Text a) (value.Text b) = bytes_eq (key_of a) (key_of b)
is_same _ _ = false

-- without those that are the same as an earlier one
abbrev pub distinct_values : List Value → List Value
distinct_values [] = []
distinct_values (v ∷ vs) = v ∷ filter (λ w. not (is_same v w)) (distinct_values vs)

-- a tag without values is a keyword
abbrev pub held_of : List Value → Held
held_of [] = Keyword
held_of (v ∷ vs) = Values (v ∷ vs)

-- the values that are held; a keyword holds none
abbrev pub values_in : Held → List Value
values_in Keyword = []
values_in (Values vs) = vs

-- all values that elements give a tag, in their order
abbrev pub values_named : List ℕ → List Element → List Value
values_named tag es = flat_map (λ e. if bytes_eq e.tag tag then e.values else []) es

-- each tag that is named holds all its values, each once
abbrev pub attributes_of : List Element → Attributes
attributes_of es = fin.from_entries (map (λ e. (e.tag, held_of (distinct_values (values_named e.tag es)))) es)

-- the text means these attributes
abbrev pub Means : List ℕ → Attributes → Type 0
Means text a = (es : List Element) × SpellsElements (chars text) es × (a ≡ attributes_of es)
