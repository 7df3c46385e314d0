-- What is selected before it is joined is what is selected after.
use Rattle.std.proofs.Common.{◌≡◌, ℕ, Bool, true, false, cond, List, [], ◌∷◌, ◌++◌, map, Some, None, refl, sym, ap, ap₂, ◌∙◌}
use Rattle.std.specs.Prelude.{◌||◌, filter, flat_map}
use Rattle.std.specs.FinMap as fin
use Rattle.std.specs.List.{list_any}
use Rattle.std.proofs.lemmas.List.Elements.{filter-append}
use Rattle.std.proofs.lemmas.Map.Lookups.{exact_bytes}
use Rattle.slp_text.proofs.KeySets.{bytes_same}
use Rattle.slp_tags.specs.Tags.{Part, selects}
use Rattle.slp_text.specs.Words.{bytes_eq}
use Rattle.attr_list.specs.Elements.{Element}
use Rattle.attr_list.specs.Lists.{Attributes, attributes_of, distinct_values, held_of, values_named}
use Rattle.attr_list.specs.Maps.{elements_in, joined_attributes, selected_attributes}
use Rattle.attr_list.specs.Stored.{element_stored, pairs_in, selected_elements, selected_of_all}
use Rattle.attr_list.specs.declared.attrs.Attribute.{Attribute}
use Rattle.attr_list.proofs.Combined.{elements-stored, same_attributes}
use Rattle.attr_list.proofs.Gathered.{get-attributes_of}

not_both : (b : Bool) → b ≡ true → b ≡ false → ⊥
not_both b t f = let k : true ≡ false = sym t ∙ f in cc

module _ (tags : List Part) (q : List ℕ) where
  -- what is selected where the tag is not, or the other way round, is of another tag
  other_tag : (e : Element) → (selects tags q ≡ selects tags e.tag → ⊥) → bytes_eq e.tag q ≡ false
  other_tag e differs =
      elim (bytes_eq e.tag q) as (λ b. bytes_eq e.tag q ≡ b → b ≡ false) [
        | true ↦ λ t. absurd (differs (ap (selects tags) (sym (bytes_same e.tag q t))))
        | false ↦ λ _. refl
      ] refl

  named-kept : selects tags q ≡ true → (es : List Element) → list_any (λ e. bytes_eq e.tag q) (selected_elements tags es) ≡ list_any (λ e. bytes_eq e.tag q) es
  named-kept at [] = refl
  named-kept at (e ∷ es) =
      let rest = named-kept at es in
      elim (selects tags e.tag) as (λ b. selects tags e.tag ≡ b → list_any (λ x. bytes_eq x.tag q) (cond b (e ∷ selected_elements tags es) (selected_elements tags es)) ≡ list_any (λ x. bytes_eq x.tag q) (e ∷ es)) [
        | true ↦ λ _. ap (λ b. bytes_eq e.tag q || b) rest
        | false ↦ λ is. rest ∙ sym (ap (λ b. b || list_any (λ x. bytes_eq x.tag q) es) (other_tag e (λ same. not_both (selects tags q) at (same ∙ is))))
      ] refl

  values-kept : selects tags q ≡ true → (es : List Element) → values_named q (selected_elements tags es) ≡ values_named q es
  values-kept at [] = refl
  values-kept at (e ∷ es) =
      let rest = values-kept at es in
      elim (selects tags e.tag) as (λ b. selects tags e.tag ≡ b → values_named q (cond b (e ∷ selected_elements tags es) (selected_elements tags es)) ≡ values_named q (e ∷ es)) [
        | true ↦ λ _. ap (λ vs. cond (bytes_eq e.tag q) e.values [] ++ vs) rest
        | false ↦ λ is. rest ∙ sym (ap (λ b. cond b e.values [] ++ values_named q es) (other_tag e (λ same. not_both (selects tags q) at (same ∙ is))))
      ] refl

  named-dropped : selects tags q ≡ false → (es : List Element) → list_any (λ e. bytes_eq e.tag q) (selected_elements tags es) ≡ false
  named-dropped at [] = refl
  named-dropped at (e ∷ es) =
      let rest = named-dropped at es in
      elim (selects tags e.tag) as (λ b. selects tags e.tag ≡ b → list_any (λ x. bytes_eq x.tag q) (cond b (e ∷ selected_elements tags es) (selected_elements tags es)) ≡ false) [
        | true ↦ λ is. ap (λ b. b || list_any (λ x. bytes_eq x.tag q) (selected_elements tags es)) (other_tag e (λ same. not_both (selects tags e.tag) is (sym same ∙ at))) ∙ rest
        | false ↦ λ _. rest
      ] refl

  get-selected : (es : List Element) (b : Bool) → selects tags q ≡ b → fin.get (attributes_of (selected_elements tags es)) q ≡ cond b (fin.get (attributes_of es) q) None
  get-selected es true at =
      get-attributes_of (selected_elements tags es) q
      ∙ ap₂ (λ b vs. cond b (Some (held_of (distinct_values vs))) None) (named-kept at es) (values-kept at es)
      ∙ sym (get-attributes_of es q)
  get-selected es false at =
      get-attributes_of (selected_elements tags es) q
      ∙ ap (λ b. cond b (Some (held_of (distinct_values (values_named q (selected_elements tags es))))) None) (named-dropped at es)

selected-first : (tags : List Part) (es : List Element) → attributes_of (selected_elements tags es) ≡ selected_attributes (attributes_of es) tags
selected-first tags es =
    same_attributes _ _ (λ q. get-selected tags q es (selects tags q) refl ∙ sym (fin.get-retain_keys (attributes_of es) (selects tags) q (λ x tie. ap (selects tags) (sym (exact_bytes q x tie)))))

-- ---- of many

selected-all : (tags : List Part) (all : List Attributes) → selected_elements tags (flat_map elements_in all) ≡ selected_of_all tags all
selected-all tags [] = refl
selected-all tags (a ∷ all) = filter-append (λ e. selects tags e.tag) (elements_in a) (flat_map elements_in all) ∙ ap (λ xs. selected_elements tags (elements_in a) ++ xs) (selected-all tags all)

pub joined-selected : (tags : List Part) (all : List Attributes) → attributes_of (selected_of_all tags all) ≡ selected_attributes (joined_attributes all) tags
unfolding joined_attributes
joined-selected tags all = ap attributes_of (sym (selected-all tags all)) ∙ selected-first tags (flat_map elements_in all)

-- ---- of stored attributes

selected-stored : (tags : List Part) (list : List Attribute) → map element_stored (filter (λ a. selects tags a.tag) list) ≡ selected_elements tags (map element_stored list)
selected-stored tags [] = refl
selected-stored tags (a ∷ list) =
    elim (selects tags a.tag) as (λ b. map element_stored (cond b (a ∷ filter (λ x. selects tags x.tag) list) (filter (λ x. selects tags x.tag) list)) ≡ cond b (element_stored a ∷ selected_elements tags (map element_stored list)) (selected_elements tags (map element_stored list))) [
      | true ↦ ap (λ xs. element_stored a ∷ xs) (selected-stored tags list)
      | false ↦ selected-stored tags list
    ]

pub stored-selected : (tags : List Part) (m : Attributes) (list : List Attribute) → fin.entries m ≡ pairs_in list → map element_stored (filter (λ a. selects tags a.tag) list) ≡ selected_elements tags (elements_in m)
stored-selected tags m list was = selected-stored tags list ∙ ap (selected_elements tags) (elements-stored m list was)
