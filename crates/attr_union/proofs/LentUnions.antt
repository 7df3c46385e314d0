-- Gathered values, settled in key order, are attributes.
use Rattle.std.proofs.Common.{◌≡◌, ℕ, T, List, [], ◌∷◌, map, length, Some, sym, ap, subst, ◌∙◌}
use Rattle.std.specs.Prelude.{slice_get, IfSome}
use Rattle.std.specs.BTreeMap as tree
use Rattle.std.specs.BTreeMap.{BTreeMap}
use Rattle.std.specs.FinMap as fin
use Rattle.std.specs.List.{AllByRecursion, list_any}
use Rattle.std.specs.Option.{option_map}
use Rattle.std.specs.declared.vec.Vec.{Vec}
use Rattle.std.proofs.lemmas.List.{length-map}
use Rattle.std.proofs.lemmas.Map.Lookups.{exact_bytes}
use Rattle.std.proofs.lemmas.Option.{slice_get-map}
use Rattle.slp_text.specs.Words.{bytes_cmp, bytes_eq}
use Rattle.attr_values.specs.declared.value.Value.{Value}
use Rattle.attr_list.specs.Elements.{Element}
use Rattle.attr_list.specs.Gathering.{gathered_values}
use Rattle.attr_list.specs.Lists.{Attributes, attributes_of, values_named}
use Rattle.attr_list.specs.Pieces.{IsElement}
use Rattle.attr_list.specs.Texts.{IsAttribute}
use Rattle.attr_list.specs.declared.held.Held.{Held}
use Rattle.attr_list.proofs.Gathered.{AreKinds, attributes_of-kinds, get-attributes_of}
use Rattle.attr_list.proofs.JoinedElements.{given_values, settled}
use Rattle.attr_list.proofs.SortedByKey.{ordered}
use Rattle.attr_union.specs.Gathering.{pairs_of, values_at}
use Rattle.attr_union.specs.Unions.{joined_pair, union_of, IsUnion}
use Rattle.attr_union.specs.declared.gathering.Joined.{Joined}
use Rattle.attr_union.proofs.GatheredMaps.{find_entries, sorted_entries}

kinds : (es : List Element) → AllByRecursion IsElement es → AreKinds es
kinds [] h = tt
kinds (e ∷ es) h = ((h.0.tag.utf8, h.0.tag.is_some, h.0.tag.is_own_key, h.0.values), kinds es h.1)

-- the map has all values of each tag, and the list each tag with them
module _ {A : Type 0} (es : List Element) (named : BTreeMap (List ℕ) (Vec Value A)) (list : List Joined) (is : AllByRecursion IsElement es) (has : (tag : List ℕ) → values_at named tag ≡ gathered_values es tag) (order : tree.IsOrdered bytes_cmp named) (settles : map joined_pair list ≡ pairs_of named) where
  sorted : T (fin.is_sorted bytes_cmp (map joined_pair list))
  sorted = subst (λ ps. T (fin.is_sorted bytes_cmp ps)) (sym settles) (sorted_entries named.entries order)

  pub joined-is : union_of list ≡ attributes_of es
  joined-is = fin.same_map ordered exact_bytes _ _ (λ q.
      fin.get-from_sorted bytes_cmp (map joined_pair list) q sorted ∙ ap (fin.find bytes_cmp q) settles ∙ find_entries q named.entries ∙ ap (option_map settled) (has q)
      ∙ given_values (list_any (λ e. bytes_eq e.tag q) es) (values_named q es) ∙ sym (get-attributes_of es q))

  pub joined-union : IsUnion list
  joined-union =
      let entries : fin.entries (attributes_of es) ≡ map joined_pair list = ap fin.entries (sym joined-is) ∙ fin.entries-from_sorted bytes_cmp (map joined_pair list) sorted in
      record {
        sorted = sorted;
        each = subst (AllByRecursion (λ p. IsAttribute p.0 p.1)) entries (attributes_of-kinds es (kinds es is));
      }

-- ---- what stands in a union

entries-union : (list : List Joined) (m : Attributes) → IsUnion list → union_of list ≡ m → fin.entries m ≡ map joined_pair list
entries-union list m h e = ap fin.entries (sym e) ∙ fin.entries-from_sorted bytes_cmp (map joined_pair list) h.sorted

pub len-union : (list : List Joined) (m : Attributes) → IsUnion list → union_of list ≡ m → length list ≡ fin.len m
len-union list m h e = sym (fin.len-entries m ∙ ap length (entries-union list m h e) ∙ length-map list joined_pair)

-- what holds of the attribute at a place
pub at-union : (list : List Joined) (m : Attributes) (place : ℕ) (j : Joined) (P : List ℕ × Held → Type 0) → IsUnion list → union_of list ≡ m → slice_get list place ≡ Some j → P (joined_pair j) → IfSome (slice_get (fin.entries m) place) P
at-union list m place j P h e there holds =
    subst (λ o. IfSome o P) (sym (ap (λ es. slice_get es place) (entries-union list m h e) ∙ slice_get-map joined_pair list place ∙ ap (option_map joined_pair) there)) holds
