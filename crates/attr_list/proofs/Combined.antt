-- Attributes that are joined, or updated.
use Rattle.std.proofs.Common.{◌≡◌, ℕ, Bool, true, false, cond, T, List, [], ◌∷◌, ◌++◌, map, Option, Some, None, refl, sym, ap, ap₂, subst, ◌∙◌}
use Rattle.std.specs.Prelude.{◌&&◌, not}
use Rattle.std.specs.FinMap as fin
use Rattle.std.specs.FinMap.Entries.{below_all}
use Rattle.std.specs.List.{AllByRecursion}
use Rattle.std.specs.Option.{option_or}
use Rattle.std.specs.Ordering.{is_eq, is_lt}
use Rattle.std.specs.declared.cmp.Ordering.{Ordering}
use Rattle.std.specs.declared.cmp.Ordering.TheVariants.{Less, Equal, Greater}
use Rattle.std.proofs.lemmas.Map.Lookups.{exact_bytes}
use Rattle.slp_tags.specs.Tags.{Part, selects}
use Rattle.slp_text.specs.Words.{bytes_cmp}
use Rattle.attr_values.specs.Kinds.{IsValue}
use Rattle.attr_list.specs.Lists.{Attributes, attributes_of, values_in}
use Rattle.attr_list.specs.Maps.{attributes_without, elements_in, union_of, updated_attributes, with_entries}
use Rattle.attr_list.specs.Pieces.{element_in, IsElement}
use Rattle.attr_list.specs.Stored.{element_stored, pairs_in}
use Rattle.attr_list.specs.Texts.{IsAttribute, IsHeld}
use Rattle.attr_list.specs.declared.attrs.Attribute.{Attribute}
use Rattle.attr_list.specs.declared.elements.Element as declared
use Rattle.attr_list.specs.declared.held.Held.{Held}
use Rattle.attr_list.specs.declared.held.Held.TheVariants.{Keyword, Values}
use Rattle.attr_list.proofs.PrintedAttributes.{element_of}
use Rattle.attr_list.proofs.SortedByKey.{ordered}

-- stored attributes are elements
stored-elements : (list : List Attribute) → map element_stored list ≡ map element_of (pairs_in list)
stored-elements [] = refl
stored-elements (a ∷ list) = ap (λ es. element_stored a ∷ es) (stored-elements list)

pub elements-stored : (m : Attributes) (list : List Attribute) → fin.entries m ≡ pairs_in list → map element_stored list ≡ elements_in m
elements-stored m list e = stored-elements list ∙ ap (map element_of) (sym e)

-- ---- entries put one after the other

less-other : (o : Ordering) → T (is_lt o) → is_eq o ≡ false
less-other Less h = refl
less-other Equal h = absurd h
less-other Greater h = refl

pub both_parts : (a b : Bool) → T (a && b) → T a × T b
both_parts true b h = (tt, h)
both_parts false b h = absurd h

pub below-missed : (q : List ℕ) (ps : List (List ℕ × Held)) → T (below_all bytes_cmp q ps) → fin.find bytes_cmp q ps ≡ None
below-missed q [] h = refl
below-missed q (p ∷ ps) h =
    let parts = both_parts (is_lt (bytes_cmp q p.0)) (below_all bytes_cmp q ps) h in
    ap (λ b. cond b (Some p.1) (fin.find bytes_cmp q ps)) (less-other (bytes_cmp q p.0) parts.0) ∙ below-missed q ps parts.1

pub equal : (o : Ordering) → is_eq o ≡ true → o ≡ Equal
equal Less h = absurd cc
equal Equal h = refl
equal Greater h = absurd cc

get-with_entries : (ps : List (List ℕ × Held)) (a : Attributes) (q : List ℕ) → T (fin.is_sorted bytes_cmp ps) → fin.get (with_entries a ps) q ≡ option_or (fin.find bytes_cmp q ps) (fin.get a q)
get-with_entries [] a q s = refl
get-with_entries (p ∷ ps) a q s =
    let parts = both_parts (below_all bytes_cmp p.0 ps) (fin.is_sorted bytes_cmp ps) s in
    get-with_entries ps (fin.insert a p.0 p.1) q parts.1 ∙ ap (option_or (fin.find bytes_cmp q ps)) (fin.get-insert ordered a p.0 p.1 q)
    ∙ elim (is_eq (bytes_cmp q p.0)) as (λ b. is_eq (bytes_cmp q p.0) ≡ b → option_or (fin.find bytes_cmp q ps) (cond b (Some p.1) (fin.get a q)) ≡ option_or (cond b (Some p.1) (fin.find bytes_cmp q ps)) (fin.get a q)) [
      | true ↦ λ t.
          let same : q ≡ p.0 = exact_bytes q p.0 (equal (bytes_cmp q p.0) t) in
          let none = below-missed q ps (subst (λ x. T (below_all bytes_cmp x ps)) (sym same) parts.0) in
          ap (λ o. option_or o (Some p.1)) none
      | false ↦ λ f. refl
    ] refl

-- ---- what is at a tag

pub get-updated_attributes : (a more : Attributes) (q : List ℕ) → fin.get (updated_attributes a more) q ≡ option_or (fin.get more q) (fin.get a q)
get-updated_attributes a more q = get-with_entries (fin.entries more) a q (fin.entries_sorted more) ∙ ap (λ o. option_or o (fin.get a q)) (sym (fin.get-entries more q))

unless : {A : Type 0} (b : Bool) (o : Option A) → cond (not b) o None ≡ cond b None o
unless true o = refl
unless false o = refl

pub get-attributes_without : (a : Attributes) (tags : List Part) (q : List ℕ) → fin.get (attributes_without a tags) q ≡ cond (selects tags q) None (fin.get a q)
get-attributes_without a tags q = fin.get-retain_keys a (λ tag. not (selects tags tag)) q (λ x tie. ap (λ tag. not (selects tags tag)) (sym (exact_bytes q x tie))) ∙ unless (selects tags q) (fin.get a q)

pub same_attributes : (a b : Attributes) → ((q : List ℕ) → fin.get a q ≡ fin.get b q) → a ≡ b
same_attributes a b = fin.same_map ordered exact_bytes a b

-- ---- joined

pub union-is : (m more : Attributes) (list added : List Attribute) → fin.entries m ≡ pairs_in list → fin.entries more ≡ pairs_in added
    → attributes_of (map element_stored list ++ map element_stored added) ≡ union_of m more
union-is m more list added was come = ap₂ (λ es fs. attributes_of (es ++ fs)) (elements-stored m list was) (elements-stored more added come)

-- ---- what stands among the elements

held-values : (held : Held) → IsHeld held → AllByRecursion IsValue (values_in held)
held-values Keyword h = tt
held-values (Values vs) h = h.1

pub stored-each : (list : List Attribute) → AllByRecursion (λ a. IsAttribute a.tag a.held) list → AllByRecursion IsElement (map element_stored list)
stored-each [] h = tt
stored-each (a ∷ list) h = (record { tag = record { utf8 = h.0.utf8; is_some = h.0.is_some; is_own_key = h.0.is_own_key }; values = held-values a.held h.0.holds }, stored-each list h.1)

pub each-read : (es : List declared.Element) → AllByRecursion IsElement (map element_in es) → AllByRecursion (λ e. IsElement (element_in e)) es
each-read [] h = tt
each-read (e ∷ es) h = (h.0, each-read es h.1)
