-- Attributes whose tags a test accepts.
use Rattle.std.proofs.Common.{◌≡◌, ℕ, Bool, true, false, cond, List, [], ◌∷◌, ◌++◌, Option, None, refl, sym, ap, ap₂, ◌∙◌, map}
use Rattle.std.specs.Prelude.{◌&&◌, filter, flat_map}
use Rattle.std.specs.FinMap as fin
use Rattle.std.specs.FinMap.Entries.{find-where_key, is_sorted-where_key, where_key}
use Rattle.std.proofs.lemmas.Map.Lookups.{exact_bytes}
use Rattle.slp_tags.specs.Tags.{Part, selects}
use Rattle.slp_text.specs.Words.{bytes_cmp}
use Rattle.attr_list.specs.Lists.{Attributes, attributes_of}
use Rattle.attr_list.specs.Maps.{elements_in, joined_attributes, kept_attributes, selected_attributes}
use Rattle.attr_list.specs.Stored.{selected_of_all}
use Rattle.attr_list.specs.declared.held.Held.{Held}
use Rattle.attr_list.proofs.Combined.{same_attributes}
use Rattle.attr_list.proofs.PrintedAttributes.{element_of}
use Rattle.attr_list.proofs.SelectedElements.{joined-selected}

-- ---- what is at a tag

pub get-kept : (a : Attributes) (p : List ℕ → Bool) (tag : List ℕ) → fin.get (kept_attributes a p) tag ≡ cond (p tag) (fin.get a tag) None
get-kept a p tag = fin.get-retain_keys a p tag (λ x tie. ap p (sym (exact_bytes tag x tie)))

-- ---- kept twice, and kept by a test that accepts all

both_tests : {A : Type 0} (a b : Bool) (o : Option A) → cond b (cond a o None) None ≡ cond (a && b) o None
both_tests true b o = refl
both_tests false true o = refl
both_tests false false o = refl

pub kept-twice : (a : Attributes) (p q : List ℕ → Bool) → kept_attributes (kept_attributes a p) q ≡ kept_attributes a (λ tag. p tag && q tag)
kept-twice a p q = same_attributes _ _ (λ tag.
    get-kept (kept_attributes a p) q tag ∙ ap (λ o. cond (q tag) o None) (get-kept a p tag) ∙ both_tests (p tag) (q tag) (fin.get a tag)
    ∙ sym (get-kept a (λ t. p t && q t) tag))

pub kept-all : (a : Attributes) → kept_attributes a (λ tag. true) ≡ a
kept-all a = same_attributes _ _ (λ tag. get-kept a (λ t. true) tag)

-- ---- as elements of a list

elements-where : (p : List ℕ → Bool) (ps : List (List ℕ × Held)) → map element_of (where_key bytes_cmp p ps) ≡ filter (λ e. p e.tag) (map element_of ps)
elements-where p [] = refl
elements-where p (x ∷ ps) =
    elim (p x.0) as (λ b. map element_of (cond b (x ∷ where_key bytes_cmp p ps) (where_key bytes_cmp p ps)) ≡ cond b (element_of x ∷ filter (λ e. p e.tag) (map element_of ps)) (filter (λ e. p e.tag) (map element_of ps))) [
      | true ↦ ap (λ es. element_of x ∷ es) (elements-where p ps)
      | false ↦ elements-where p ps
    ]

entries-kept : (a : Attributes) (p : List ℕ → Bool) → fin.entries (kept_attributes a p) ≡ where_key bytes_cmp p (fin.entries a)
entries-kept a p =
    let es = where_key bytes_cmp p (fin.entries a) in
    let sorted = is_sorted-where_key bytes_cmp p (fin.entries a) (fin.entries_sorted a) in
    let same : fin.from_sorted es ≡ kept_attributes a p = same_attributes _ _ (λ q.
    fin.get-from_sorted bytes_cmp es q sorted ∙ find-where_key bytes_cmp p q (λ x tie. ap p (sym (exact_bytes q x tie))) (fin.entries a)
    ∙ ap (λ o. cond (p q) o None) (sym (fin.get-entries a q)) ∙ sym (get-kept a p q)) in
    ap fin.entries (sym same) ∙ fin.entries-from_sorted bytes_cmp es sorted

pub elements-kept : (a : Attributes) (p : List ℕ → Bool) → elements_in (kept_attributes a p) ≡ filter (λ e. p e.tag) (elements_in a)
elements-kept a p = ap (map element_of) (entries-kept a p) ∙ elements-where p (fin.entries a)

-- ---- of many attributes

elements-of_all : (tags : List Part) (all : List Attributes) → flat_map (λ a. elements_in (kept_attributes a (selects tags))) all ≡ selected_of_all tags all
elements-of_all tags [] = refl
elements-of_all tags (a ∷ all) = ap₂ (λ es fs. es ++ fs) (elements-kept a (selects tags)) (elements-of_all tags all)

-- what is kept of each and then joined is what is selected of all that are joined
pub joined-kept : (all : List Attributes) (tags : List Part) → attributes_of (flat_map (λ a. elements_in (kept_attributes a (selects tags))) all) ≡ selected_attributes (joined_attributes all) tags
joined-kept all tags = ap attributes_of (elements-of_all tags all) ∙ joined-selected tags all
