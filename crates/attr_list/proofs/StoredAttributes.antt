-- What is stored in key order, as a finite map.
use Rattle.std.proofs.Common.{◌≡◌, ℕ, ◌+◌, ◌<◌, Bool, true, false, cond, T, List, [], ◌∷◌, ◌++◌, map, take, drop, length, get_or, append_assoc, append-nil, Some, None, refl, sym, ap, subst, ◌∙◌}
use Rattle.std.specs.Prelude.{◌&&◌, slice_get, IfSome, if◌then◌else◌}
use Rattle.std.proofs.lemmas.List.{length-map, take_more}
use Rattle.std.proofs.lemmas.List.Elements.{filter-append}
use Rattle.std.proofs.lemmas.Option.{slice_get-map}
use Rattle.std.specs.Option.{option_map}
use Rattle.std.specs.FinMap as fin
use Rattle.std.specs.FinMap.Entries.{below_all, find-where_key, is_sorted-where_key, where_key}
use Rattle.std.proofs.lemmas.Map.Lookups.{exact_bytes}
use Rattle.slp_text.specs.Lists.{comma_list}
use Rattle.attr_list.specs.Writing.{text_of, texts_of}
use Rattle.attr_list.proofs.Combined.{both_parts}
use Rattle.attr_list.proofs.Gathered.{all_filtered}
use Rattle.attr_list.proofs.ListedTexts.{item_at}
use Rattle.attr_list.proofs.SortedByKey.{ordered}
use Rattle.std.specs.List.{AllByRecursion}
use Rattle.std.specs.declared.cmp.Ordering.TheVariants.{Equal}
use Rattle.slp_text.specs.Words.{bytes_cmp}
use Rattle.attr_list.specs.Lists.{Attributes}
use Rattle.attr_list.specs.Stored.{attributes_stored, kept_stored, pair_in, pairs_in, AreStored}
use Rattle.attr_list.specs.Texts.{attribute_text, attributes_text, AreAttributes, IsAttribute}
use Rattle.attr_list.specs.declared.attrs.Attribute.{Attribute}
use Rattle.attr_list.specs.declared.held.Held.{Held}

pub entries-stored : (list : List Attribute) → AreStored list → fin.entries (attributes_stored list) ≡ pairs_in list
entries-stored list h = fin.entries-from_sorted bytes_cmp (pairs_in list) h.sorted

pub get-stored : (list : List Attribute) (q : List ℕ) → AreStored list → fin.get (attributes_stored list) q ≡ fin.find bytes_cmp q (pairs_in list)
get-stored list q h = fin.get-from_sorted bytes_cmp (pairs_in list) q h.sorted

-- the attribute at a place
pub at-stored : (list : List Attribute) (m : Attributes) (place : ℕ) → AreStored list → attributes_stored list ≡ m → slice_get (fin.entries m) place ≡ option_map pair_in (slice_get list place)
at-stored list m place h e = ap (λ m. slice_get (fin.entries m) place) (sym e) ∙ ap (λ l. slice_get l place) (entries-stored list h) ∙ slice_get-map pair_in list place

pub len-stored : (list : List Attribute) (m : Attributes) → AreStored list → attributes_stored list ≡ m → length list ≡ fin.len m
len-stored list m h e = sym (ap fin.len (sym e) ∙ fin.len-entries (attributes_stored list) ∙ ap length (entries-stored list h) ∙ length-map list pair_in)

-- ---- what there is

each-pairs : (list : List Attribute) → AllByRecursion (λ a. IsAttribute a.tag a.held) list → AllByRecursion (λ p. IsAttribute p.0 p.1) (pairs_in list)
each-pairs [] h = h
each-pairs (a ∷ list) h = (h.0, each-pairs list h.1)

pub are_attributes : (list : List Attribute) → AreStored list → AreAttributes (attributes_stored list)
are_attributes list h = subst (AllByRecursion (λ p. IsAttribute p.0 p.1)) (sym (entries-stored list h)) (each-pairs list h.each)

-- ---- what is written, and what is kept

text_of-pairs : (list : List Attribute) → map (λ p. attribute_text p.0 p.1) (pairs_in list) ≡ map text_of list
text_of-pairs [] = refl
text_of-pairs (a ∷ list) = ap (λ ts. text_of a ∷ ts) (text_of-pairs list)

pub texts-stored : (m : Attributes) (list : List Attribute) → fin.entries m ≡ pairs_in list → attributes_text m ≡ texts_of list
texts-stored m list e = ap (λ es. comma_list (map (λ p. attribute_text p.0 p.1) es)) e ∙ ap comma_list (text_of-pairs list)

-- what holds of the attribute at a place
pub entry-stored : (m : Attributes) (list : List Attribute) (place : ℕ) (a : Attribute) (P : List ℕ × Held → Type 0) → fin.entries m ≡ pairs_in list → slice_get list place ≡ Some a → P (pair_in a) → IfSome (slice_get (fin.entries m) place) P
entry-stored m list place a P e there h = subst (λ o. IfSome o P) (sym (ap (λ es. slice_get es place) e ∙ slice_get-map pair_in list place ∙ ap (option_map pair_in) there)) h

pub place-stored : (m : Attributes) (list : List Attribute) (place : ℕ) → fin.entries m ≡ pairs_in list → place < fin.len m → place < length list
place-stored m list place e h = subst (λ n. place < n) (fin.len-entries m ∙ ap length e ∙ length-map list pair_in) h

module _ (p : List ℕ → Bool) where
  pairs-kept : (list : List Attribute) → pairs_in (kept_stored p list) ≡ where_key bytes_cmp p (pairs_in list)
  pairs-kept [] = refl
  pairs-kept (a ∷ list) =
      elim (p a.tag) as (λ b. pairs_in (cond b (a ∷ kept_stored p list) (kept_stored p list)) ≡ cond b (pair_in a ∷ where_key bytes_cmp p (pairs_in list)) (where_key bytes_cmp p (pairs_in list))) [
        | true ↦ ap (λ ps. pair_in a ∷ ps) (pairs-kept list)
        | false ↦ pairs-kept list
      ]

  kept-are-stored : (list : List Attribute) → AreStored list → AreStored (kept_stored p list)
  kept-are-stored list h = record {
    sorted = subst (λ ps. T (fin.is_sorted bytes_cmp ps)) (sym (pairs-kept list)) (is_sorted-where_key bytes_cmp p (pairs_in list) h.sorted);
    each = all_filtered (λ a. IsAttribute a.tag a.held) (λ a. p a.tag) list h.each;
  }

  alike : (q x : List ℕ) → bytes_cmp q x ≡ Equal → p x ≡ p q
  alike q x e = ap p (sym (exact_bytes q x e))

  pub kept-attributes : (m : Attributes) (list : List Attribute) → AreStored list → fin.entries m ≡ pairs_in list → attributes_stored (kept_stored p list) ≡ fin.retain_keys m p
  kept-attributes m list h e = fin.same_map ordered exact_bytes _ _ (λ q.
      get-stored _ q (kept-are-stored list h) ∙ ap (fin.find bytes_cmp q) (pairs-kept list) ∙ find-where_key bytes_cmp p q (alike q) (pairs_in list)
      ∙ ap (λ es. cond (p q) (fin.find bytes_cmp q es) None) (sym e) ∙ ap (λ o. cond (p q) o None) (sym (fin.get-entries m q))
      ∙ sym (fin.get-retain_keys m p q (alike q)))

-- ---- without one of them

both : (a b : Bool) → T a → T b → T (a && b)
both true b x y = y
both false b x y = x

below-less : (k : List ℕ) (list : List Attribute) (a : Attribute) (rest : List Attribute) → T (below_all bytes_cmp k (pairs_in (list ++ a ∷ rest))) → T (below_all bytes_cmp k (pairs_in (list ++ rest)))
below-less k [] a rest h = (both_parts _ _ h).1
below-less k (b ∷ list) a rest h = let parts = both_parts _ _ h in both _ _ parts.0 (below-less k list a rest parts.1)

sorted-less : (list : List Attribute) (a : Attribute) (rest : List Attribute) → T (fin.is_sorted bytes_cmp (pairs_in (list ++ a ∷ rest))) → T (fin.is_sorted bytes_cmp (pairs_in (list ++ rest)))
sorted-less [] a rest h = (both_parts _ _ h).1
sorted-less (b ∷ list) a rest h = let parts = both_parts _ _ h in both _ _ (below-less b.tag list a rest parts.0) (sorted-less list a rest parts.1)

each-less : (list : List Attribute) (a : Attribute) (rest : List Attribute) → AllByRecursion (λ a. IsAttribute a.tag a.held) (list ++ a ∷ rest) → AllByRecursion (λ a. IsAttribute a.tag a.held) (list ++ rest)
each-less [] a rest h = h.1
each-less (b ∷ list) a rest h = (h.0, each-less list a rest h.1)

-- those that are stored still are, without one of them
pub stored-less : (list : List Attribute) (a : Attribute) (rest : List Attribute) → AreStored (list ++ a ∷ rest) → AreStored (list ++ rest)
stored-less list a rest h = record {
  sorted = sorted-less list a rest h.sorted;
  each = each-less list a rest h.each;
}

-- ---- what is picked, one after the other

-- one more, where the test accepts its tag
abbrev pub picked_next : List Attribute → Attribute → Bool → List Attribute
picked_next picked a accepted = if accepted then picked ++ a ∷ [] else picked

one-kept : (picked : List Attribute) (a : Attribute) (b : Bool) → picked ++ cond b (a ∷ []) [] ≡ picked_next picked a b
one-kept picked a true = refl
one-kept picked a false = append-nil picked

module _ (list : List Attribute) (i : ℕ) (a : Attribute) (within : i < length list) (is : a ≡ get_or list i a) (picked : List Attribute) where
  pub kept-next : (p : List ℕ → Bool) (b : Bool) → b ≡ p a.tag → picked ≡ kept_stored p (take i list) → picked_next picked a b ≡ kept_stored p (take (i + 1) list)
  kept-next p b answer now =
      sym (one-kept picked a b) ∙ ap (λ t. picked ++ cond t (a ∷ []) []) answer ∙ ap (λ kept. kept ++ kept_stored p (a ∷ [])) now
      ∙ sym (filter-append (λ x. p x.tag) (take i list) (a ∷ [])) ∙ ap (λ x. kept_stored p (take i list ++ x ∷ [])) is ∙ ap (kept_stored p) (sym (take_more list i a within))

  here : drop i list ≡ a ∷ drop (i + 1) list
  here = item_at list i a within ∙ ap (λ x. x ∷ drop (i + 1) list) (sym is)

  pub stored-next : (b : Bool) → AreStored (picked ++ drop i list) → AreStored (picked_next picked a b ++ drop (i + 1) list)
  stored-next true h = subst AreStored (ap (λ l. picked ++ l) here ∙ sym (append_assoc picked (a ∷ []) (drop (i + 1) list))) h
  stored-next false h = stored-less picked a (drop (i + 1) list) (subst (λ l. AreStored (picked ++ l)) here h)
