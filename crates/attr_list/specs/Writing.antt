-- How attributes are appended to a text, one after the other.
use Rattle.std.specs.Prelude.{ℕ, Bool, List, ◌∷◌, map, if◌then◌else◌}
use Rattle.slp_text.specs.Ascii.{comma}
use Rattle.slp_text.specs.Lists.{comma_list}
use Rattle.attr_list.specs.Texts.{attribute_text}
use Rattle.attr_list.specs.declared.attrs.Attribute.{Attribute}

-- an item of a list as it is written, after a comma where others have begun
abbrev pub written_item : Bool → List ℕ → List ℕ
written_item begun text = if begun then comma ∷ text else text

-- an attribute as it is written, and attributes with a comma between each two
abbrev pub text_of : Attribute → List ℕ
text_of a = attribute_text a.tag a.held

abbrev pub texts_of : List Attribute → List ℕ
texts_of list = comma_list (map text_of list)
