-- Elements of which neighbours of one tag are joined: where they are in the order of their tags, they are attributes.
use Rattle.std.proofs.Common.{◌≡◌, ℕ, suc, Bool, true, false, cond, T, List, [], ◌∷◌, ◌++◌, map, length, Some, None, refl, sym, ap, ap₂, subst, ◌∙◌, append-nil, append_assoc, arith, Bor}
use native.Mathlib.Numerals.{unary_clauses}
use Rattle.std.specs.Prelude.{◌&&◌, ◌||◌, not, filter, flat_map, fold, if◌then◌else◌, vec_items}
use Rattle.std.specs.Cmp.{IsStrictWeakOrder}
use Rattle.std.specs.Fn.{Called, ComparesAs}
use Rattle.std.specs.FinMap as fin
use Rattle.std.specs.FinMap.Entries.{below_all}
use Rattle.std.specs.List.{AllByRecursion, list_any}
use Rattle.std.specs.List.Sorted.{ties, IsPermutation, IsSortedBy, IsStableBy, IsStrictlySortedBy}
use Rattle.std.specs.Option.{option_map}
use Rattle.std.specs.Ordering.{is_eq, is_lt, ordering_reverse}
use Rattle.std.specs.declared.cmp.Ordering.{Ordering}
use Rattle.std.specs.declared.cmp.Ordering.TheVariants.{Less, Equal, Greater}
use denote.Param.Members.{Mut}
use Rattle.std.proofs.lemmas.Fn.{always_returns_same}
use Rattle.std.proofs.lemmas.Grind.{flat_map-append}
use Rattle.std.proofs.lemmas.List.Elements.{recursion_from_All}
use Rattle.std.proofs.lemmas.List.Folds.{list_any-append}
use Rattle.std.proofs.lemmas.List.Sorted.{length_permutation, list_any-IsPermutation, ranks_by, sorted_far}
use Rattle.std.proofs.lemmas.Map.Lookups.{exact_bytes}
use Rattle.slp_text.specs.Words.{bytes_cmp, bytes_eq}
use Rattle.slp_text.proofs.KeySets.{bytes_same}
use Rattle.attr_values.specs.declared.value.Value.{Value}
use Rattle.attr_list.specs.Elements.{Element}
use Rattle.attr_list.specs.Gathering.{gathered_values, joined_with, pair_of}
use Rattle.attr_list.specs.Lists.{attributes_of, distinct_values, held_of, values_named}
use Rattle.attr_list.specs.Pieces.{element_in, IsElement}
use Rattle.attr_list.specs.Stored.{attributes_stored, pairs_in, AreStored}
use Rattle.attr_list.specs.Texts.{IsAttribute}
use Rattle.attr_list.specs.declared.attrs.Attribute.{Attribute}
use Rattle.attr_list.specs.declared.elements.Element as declared
use Rattle.attr_list.specs.declared.held.Held.{Held}
use Rattle.attr_list.specs.declared.held.Held.TheVariants.{Values}
use Rattle.attr_list.proofs.Gathered.{filter_alike, tags_tied, AreKinds, attributes_of-kinds, get-attributes_of}
use Rattle.attr_list.proofs.SortedByKey.{ordered}

abbrev pub tags : List Element → List (List ℕ)
tags = map (λ e. e.tag)

-- ---- what is gathered of a tag

module _ (tag : List ℕ) where
  abbrev is_named : Element → Bool
  is_named e = bytes_eq e.tag tag

  abbrev given : Element → List Value
  given e = if bytes_eq e.tag tag then e.values else []

  once : (b : Bool) → (b || false) ≡ (b || (b || false))
  once true = refl
  once false = refl

  in_turn : (b : Bool) (vs ws : List Value) → cond b (vs ++ ws) [] ++ [] ≡ cond b vs [] ++ (cond b ws [] ++ [])
  in_turn true vs ws = append_assoc vs ws []
  in_turn false vs ws = refl

  named-joined : (es : List Element) (e : Element) → list_any is_named (joined_with es e) ≡ list_any is_named (es ++ e ∷ [])
  named-joined [] e = refl
  named-joined (l ∷ []) e =
      elim (bytes_eq l.tag e.tag) as (λ b. bytes_eq l.tag e.tag ≡ b → list_any is_named (cond b (record { tag = l.tag; values = l.values ++ e.values } ∷ []) (l ∷ e ∷ [])) ≡ list_any is_named (l ∷ e ∷ [])) [
        | true ↦ λ t. once (is_named l) ∙ ap (λ q. is_named l || (bytes_eq q tag || false)) (bytes_same l.tag e.tag t)
        | false ↦ λ f. refl
      ] refl
  named-joined (l ∷ m ∷ es) e = ap (λ b. is_named l || b) (named-joined (m ∷ es) e)

  values-joined : (es : List Element) (e : Element) → values_named tag (joined_with es e) ≡ values_named tag (es ++ e ∷ [])
  values-joined [] e = refl
  values-joined (l ∷ []) e =
      elim (bytes_eq l.tag e.tag) as (λ b. bytes_eq l.tag e.tag ≡ b → values_named tag (cond b (record { tag = l.tag; values = l.values ++ e.values } ∷ []) (l ∷ e ∷ [])) ≡ values_named tag (l ∷ e ∷ [])) [
        | true ↦ λ t. in_turn (is_named l) l.values e.values ∙ ap (λ q. given l ++ (cond (bytes_eq q tag) e.values [] ++ [])) (bytes_same l.tag e.tag t)
        | false ↦ λ f. refl
      ] refl
  values-joined (l ∷ m ∷ es) e = ap (λ vs. given l ++ vs) (values-joined (m ∷ es) e)

  named-folded : (done es : List Element) → list_any is_named (fold joined_with done es) ≡ list_any is_named (done ++ es)
  named-folded done [] = ap (list_any is_named) (sym (append-nil done))
  named-folded done (e ∷ es) =
      named-folded (joined_with done e) es ∙ list_any-append is_named (joined_with done e) es ∙ ap (λ b. b || list_any is_named es) (named-joined done e)
      ∙ sym (list_any-append is_named (done ++ e ∷ []) es) ∙ ap (list_any is_named) (append_assoc done (e ∷ []) es)

  values-folded : (done es : List Element) → values_named tag (fold joined_with done es) ≡ values_named tag (done ++ es)
  values-folded done [] = ap (values_named tag) (sym (append-nil done))
  values-folded done (e ∷ es) =
      values-folded (joined_with done e) es ∙ flat_map-append given (joined_with done e) es ∙ ap (λ vs. vs ++ values_named tag es) (values-joined done e)
      ∙ sym (flat_map-append given (done ++ e ∷ []) es) ∙ ap (values_named tag) (append_assoc done (e ∷ []) es)

  -- to join neighbours changes nothing of it
  pub gathered-folded : (es : List Element) → gathered_values (fold joined_with [] es) tag ≡ gathered_values es tag
  gathered-folded es = ap₂ (λ b vs. cond b (Some vs) None) (named-folded [] es) (values-folded [] es)

-- ---- the order of tags

all-joined : (P : List ℕ → Type 0) (es : List Element) (e : Element) → AllByRecursion P (tags es) → P e.tag → AllByRecursion P (tags (joined_with es e))
all-joined P [] e each is = (is, tt)
all-joined P (l ∷ []) e each is =
    elim (bytes_eq l.tag e.tag) as (λ b. AllByRecursion P (tags (cond b (record { tag = l.tag; values = l.values ++ e.values } ∷ []) (l ∷ e ∷ [])))) [
      | true ↦ (each.0, tt)
      | false ↦ (each.0, (is, tt))
    ]
all-joined P (l ∷ m ∷ es) e each is = (each.0, all-joined P (m ∷ es) e each.1 is)

-- a tag does not come before another
abbrev IsNotBefore : List ℕ → List ℕ → Type 0
IsNotBefore t u = is_lt (bytes_cmp t u) ≡ false

-- what does not come before another is behind it, or ties with it
behind : (o : Ordering) → is_lt (ordering_reverse o) ≡ false → is_eq o ≡ false → o ≡ Less
behind Less n d = refl
behind Equal n d = cc
behind Greater n d = cc

tied : (t u : List ℕ) → is_eq (bytes_cmp t u) ≡ bytes_eq u t
tied t u = tags_tied u t

turned : (o : Ordering) → is_eq (ordering_reverse o) ≡ is_eq o
turned Less = refl
turned Equal = refl
turned Greater = refl

bytes_turned : (t u : List ℕ) → bytes_eq t u ≡ is_eq (bytes_cmp t u)
bytes_turned t u = sym (tied u t) ∙ ap is_eq (ordered.antisymm u t) ∙ turned (bytes_cmp t u)

not_less : (o : Ordering) → is_lt o ≡ false → o ≡ Less → ⊥
not_less o n e = cc

-- a tag comes before all that the next does not come before
trans-behind : (t u v : List ℕ) → bytes_cmp t u ≡ Less → IsNotBefore v u → bytes_cmp t v ≡ Less
trans-behind t u v less n =
    elim (bytes_cmp u v) as (λ o. bytes_cmp u v ≡ o → bytes_cmp t v ≡ Less) [
      | Less ↦ λ e. ordered.trans t u v less e
      | Equal ↦ λ e. ordered.antisymm t v ∙ ap ordering_reverse (sym (ordered.congr u v t e) ∙ (ordered.antisymm u t ∙ ap ordering_reverse less))
      | Greater ↦ λ e. absurd (not_less (bytes_cmp v u) n (ordered.antisymm v u ∙ ap ordering_reverse e))
    ] refl

rises-joined : (es : List Element) (e : Element) → IsStrictlySortedBy bytes_cmp (tags es) → AllByRecursion (IsNotBefore e.tag) (tags es) → IsStrictlySortedBy bytes_cmp (tags (joined_with es e))
unfolding IsStrictlySortedBy
rises-joined [] e rises each = (tt, tt)
rises-joined (l ∷ []) e rises each =
    elim (bytes_eq l.tag e.tag) as (λ b. bytes_eq l.tag e.tag ≡ b → IsStrictlySortedBy bytes_cmp (tags (cond b (record { tag = l.tag; values = l.values ++ e.values } ∷ []) (l ∷ e ∷ [])))) [
      | true ↦ λ t. (tt, tt)
      | false ↦ λ f. ((behind (bytes_cmp l.tag e.tag) (ap is_lt (sym (ordered.antisymm e.tag l.tag)) ∙ each.0) (sym (bytes_turned l.tag e.tag) ∙ f), tt), (tt, tt))
    ] refl
rises-joined (l ∷ m ∷ es) e rises each =
    (all-joined (λ t. bytes_cmp l.tag t ≡ Less) (m ∷ es) e rises.0 (trans-behind l.tag m.tag e.tag rises.0.0 each.1.0), rises-joined (m ∷ es) e rises.1 each.1)

-- no tag comes before an earlier one
abbrev IsRising : List (List ℕ) → Type 0
IsRising [] = Unit {0}
IsRising (t ∷ ts) = AllByRecursion (λ u. IsNotBefore u t) ts × IsRising ts

-- none of these comes before one of those
abbrev AreBehind : List (List ℕ) → List (List ℕ) → Type 0
AreBehind ts us = AllByRecursion (λ u. AllByRecursion (IsNotBefore u) ts) us

behind-joined : (done : List Element) (e : Element) (us : List (List ℕ)) → AreBehind (tags done) us → AllByRecursion (λ u. IsNotBefore u e.tag) us → AreBehind (tags (joined_with done e)) us
behind-joined done e [] all each = tt
behind-joined done e (u ∷ us) all each = (all-joined (IsNotBefore u) done e all.0 each.0, behind-joined done e us all.1 each.1)

rises-folded : (done es : List Element) → IsStrictlySortedBy bytes_cmp (tags done) → AreBehind (tags done) (tags es) → IsRising (tags es) → IsStrictlySortedBy bytes_cmp (tags (fold joined_with done es))
rises-folded done [] rises all rising = rises
rises-folded done (e ∷ es) rises all rising =
    rises-folded (joined_with done e) es (rises-joined done e rises all.0) (behind-joined done e (tags es) all.1 rising.0) rising.1

none-behind : (us : List (List ℕ)) → AreBehind [] us
none-behind [] = tt
none-behind (u ∷ us) = (tt, none-behind us)

none-rises : IsStrictlySortedBy bytes_cmp []
unfolding IsStrictlySortedBy
none-rises = tt

-- elements in the order of their tags
abbrev by_tag : declared.Element → declared.Element → Bool
by_tag a b = is_lt (bytes_cmp a.tag b.tag)

tags_behind : (t : List ℕ) (es : List declared.Element) → AllByRecursion (λ e. IsNotBefore e.tag t) es → AllByRecursion (λ u. IsNotBefore u t) (tags (map element_in es))
tags_behind t [] each = tt
tags_behind t (e ∷ es) each = (each.0, tags_behind t es each.1)

rising : (es : List declared.Element) → IsSortedBy by_tag es → IsRising (tags (map element_in es))
rising [] sorted = tt
rising (e ∷ es) sorted =
    let far = sorted_far by_tag (ranks_by ordered (λ e. e.tag)) (e ∷ es) sorted in (
      tags_behind e.tag es (recursion_from_All (λ x. IsNotBefore x.tag e.tag) es (λ k d lt. far 0 (suc k) d (omega arith) (omega (arith, lt)))),
      rising es (λ k d low lt. simp unary_clauses (simp unary_clauses at (sorted (suc k) d (omega arith) (omega (arith, lt))))),
    )

-- joined in that order each tag stands once, and they rise
pub joined-rises : (es : List declared.Element) → IsSortedBy by_tag es → IsStrictlySortedBy bytes_cmp (tags (fold joined_with [] (map element_in es)))
joined-rises es sorted = rises-folded [] (map element_in es) none-rises (none-behind (tags (map element_in es))) (rising es sorted)

-- what a sort by tags ensures
abbrev ComparesTags : {F : Type 0} → Mut F (Bor declared.Element × (Bor declared.Element × Unit {0})) Ordering → F → Type 0
ComparesTags {F} g f = (a : Bor declared.Element × (Bor declared.Element × Unit {0})) (r : Ordering) (f' : F) → Called g f a r f' → (r ≡ bytes_cmp a.0.now.tag a.1.0.now.tag) × (f' ≡ f)

module _ {F : Type 0} {g : Mut F (Bor declared.Element × (Bor declared.Element × Unit {0})) Ordering} {f : F} where
  answers : ComparesTags g f → ComparesAs g by_tag f
  answers h = always_returns_same g (λ a r. is_lt r ≡ is_lt (bytes_cmp a.0.now.tag a.1.0.now.tag)) f (λ a r f' k. (ap is_lt (h a r f' k).0, (h a r f' k).1))

  pub sorted-by-tag : (es : List declared.Element) → ((lt : declared.Element → declared.Element → Bool) → IsStrictWeakOrder lt → ComparesAs g lt f → IsSortedBy lt es) → ComparesTags g f → IsSortedBy by_tag es
  sorted-by-tag es up h = up by_tag (ranks_by ordered (λ e. e.tag)) (answers h)

  pub stable-by-tag : (es fs : List declared.Element) → ((lt : declared.Element → declared.Element → Bool) → IsStrictWeakOrder lt → ComparesAs g lt f → IsStableBy lt es fs) → ComparesTags g f → IsStableBy by_tag es fs
  stable-by-tag es fs keeps h = keeps by_tag (ranks_by ordered (λ e. e.tag)) (answers h)

-- ---- to sort by tags leaves the elements of each in their order

named-in : (tag : List ℕ) (es : List declared.Element) → list_any (is_named tag) (map element_in es) ≡ list_any (λ e. bytes_eq e.tag tag) es
named-in tag [] = refl
named-in tag (e ∷ es) = ap (λ b. bytes_eq e.tag tag || b) (named-in tag es)

values-in : (tag : List ℕ) (es : List declared.Element) → values_named tag (map element_in es) ≡ flat_map (λ e. vec_items e.values) (filter (λ e. bytes_eq e.tag tag) es)
values-in tag [] = refl
values-in tag (e ∷ es) =
    ap (λ vs. given tag (element_in e) ++ vs) (values-in tag es)
    ∙ elim (bytes_eq e.tag tag) as (λ b. cond b (vec_items e.values) [] ++ flat_map (λ e. vec_items e.values) (filter (λ e. bytes_eq e.tag tag) es) ≡ flat_map (λ e. vec_items e.values) (cond b (e ∷ filter (λ e. bytes_eq e.tag tag) es) (filter (λ e. bytes_eq e.tag tag) es))) [ true ↦ refl | false ↦ refl ]

ties_tags : (o : Ordering) → (not (is_lt o) && not (is_lt (ordering_reverse o))) ≡ is_eq o
ties_tags Less = refl
ties_tags Equal = refl
ties_tags Greater = refl

tied_by_tag : (x e : declared.Element) → ties by_tag x e ≡ bytes_eq e.tag x.tag
tied_by_tag x e =
    ap (λ o. not (is_lt (bytes_cmp x.tag e.tag)) && not (is_lt o)) (ordered.antisymm e.tag x.tag) ∙ ties_tags (bytes_cmp x.tag e.tag) ∙ tied x.tag e.tag

module _ (tag : List ℕ) where
  same_values : (es fs : List declared.Element) → length fs ≡ length es → IsStableBy by_tag es fs → values_named tag (map element_in fs) ≡ values_named tag (map element_in es)
  same_values [] [] long stable = refl
  same_values [] (f ∷ fs) long stable = absurd (omega (arith, long))
  same_values (e ∷ es) fs long stable =
      let x : declared.Element = record { tag = tag; values = e.values } in
      let alike = filter_alike (ties by_tag x) (λ f. bytes_eq f.tag tag) (tied_by_tag x) in
      values-in tag fs ∙ ap (flat_map (λ e. vec_items e.values)) (sym (alike fs) ∙ stable x ∙ alike (e ∷ es)) ∙ sym (values-in tag (e ∷ es))

  pub gathered-sorted : (es fs : List declared.Element) → IsPermutation es fs → IsStableBy by_tag es fs → gathered_values (map element_in fs) tag ≡ gathered_values (map element_in es) tag
  gathered-sorted es fs moved stable =
      let names = named-in tag fs ∙ sym (list_any-IsPermutation (λ e. bytes_eq e.tag tag) es fs moved) ∙ sym (named-in tag es) in
      ap₂ (λ b vs. cond b (Some vs) None) names (same_values es fs (length_permutation es fs moved) stable)

-- ---- the attributes of elements whose tags rise

-- what values that were gathered are held as
abbrev pub settled : List Value → Held
settled vs = held_of (distinct_values vs)

pub both : (a b : Bool) → T a → T b → T (a && b)
both true b p q = q
both false b p q = absurd p

before : (t : List ℕ) (es : List Element) → AllByRecursion (λ u. bytes_cmp t u ≡ Less) (tags es) → T (below_all bytes_cmp t (map pair_of es))
before t [] each = tt
before t (e ∷ es) each = both (is_lt (bytes_cmp t e.tag)) _ (subst (λ o. T (is_lt o)) (sym each.0) tt) (before t es each.1)

sorted_pairs : (es : List Element) → IsStrictlySortedBy bytes_cmp (tags es) → T (fin.is_sorted bytes_cmp (map pair_of es))
unfolding IsStrictlySortedBy
sorted_pairs [] rises = tt
sorted_pairs (e ∷ es) rises = both (below_all bytes_cmp e.tag (map pair_of es)) _ (before e.tag es rises.0) (sorted_pairs es rises.1)

-- a tag that comes before all is none of them
values_before : (t : List ℕ) (es : List Element) → AllByRecursion (λ u. bytes_cmp t u ≡ Less) (tags es) → values_named t es ≡ []
values_before t [] each = refl
values_before t (e ∷ es) each =
    ap (λ b. cond b e.values [] ++ values_named t es) (sym (tied t e.tag) ∙ ap is_eq each.0) ∙ values_before t es each.1

find_pair : (q : List ℕ) (es : List Element) → IsStrictlySortedBy bytes_cmp (tags es) → fin.find bytes_cmp q (map pair_of es) ≡ option_map settled (gathered_values es q)
unfolding IsStrictlySortedBy
find_pair q [] rises = refl
find_pair q (e ∷ es) rises =
    ap (λ b. cond b (Some (settled e.values)) (fin.find bytes_cmp q (map pair_of es))) (tied q e.tag)
    ∙ elim (bytes_eq e.tag q) as (λ b. bytes_eq e.tag q ≡ b → cond b (Some (settled e.values)) (fin.find bytes_cmp q (map pair_of es)) ≡ option_map settled (cond (b || list_any (is_named q) es) (Some (cond b e.values [] ++ values_named q es)) None)) [
      | true ↦ λ t. ap (λ vs. Some (settled vs)) (sym (ap (λ vs. e.values ++ vs) (ap (λ u. values_named u es) (sym (bytes_same e.tag q t)) ∙ values_before e.tag es rises.0) ∙ append-nil e.values))
      | false ↦ λ f. find_pair q es rises.1
    ] refl

pub given_values : (named : Bool) (vs : List Value) → option_map settled (cond named (Some vs) None) ≡ cond named (Some (settled vs)) None
given_values true vs = refl
given_values false vs = refl

kinds : (es : List declared.Element) → AllByRecursion (λ e. IsElement (element_in e)) es → AreKinds (map element_in es)
kinds [] each = tt
kinds (e ∷ es) each = ((each.0.tag.utf8, each.0.tag.is_some, each.0.tag.is_own_key, each.0.values), kinds es each.1)

each-stored : (list : List Attribute) → AllByRecursion (λ p. IsAttribute p.0 p.1) (pairs_in list) → AllByRecursion (λ a. IsAttribute a.tag a.held) list
each-stored [] each = each
each-stored (a ∷ list) each = (each.0, each-stored list each.1)

pub tags-in : (es : List declared.Element) → map (λ e. e.tag) es ≡ tags (map element_in es)
tags-in [] = refl
tags-in (e ∷ es) = ap (λ ts. e.tag ∷ ts) (tags-in es)

-- what was gathered has all values of each tag, and the list what each tag holds
module _ (es gathered : List declared.Element) (list : List Attribute) (is : AllByRecursion (λ e. IsElement (element_in e)) es) (has : (tag : List ℕ) → gathered_values (map element_in gathered) tag ≡ gathered_values (map element_in es) tag) (rises : IsStrictlySortedBy bytes_cmp (map (λ e. e.tag) gathered)) (settles : pairs_in list ≡ map pair_of (map element_in gathered)) where
  in_order : IsStrictlySortedBy bytes_cmp (tags (map element_in gathered))
  in_order = subst (IsStrictlySortedBy bytes_cmp) (tags-in gathered) rises

  sorted : T (fin.is_sorted bytes_cmp (pairs_in list))
  sorted = subst (λ ps. T (fin.is_sorted bytes_cmp ps)) (sym settles) (sorted_pairs (map element_in gathered) in_order)

  pub joined-is : attributes_stored list ≡ attributes_of (map element_in es)
  joined-is = fin.same_map ordered exact_bytes _ _ (λ q.
      fin.get-from_sorted bytes_cmp (pairs_in list) q sorted ∙ ap (fin.find bytes_cmp q) settles ∙ find_pair q (map element_in gathered) in_order ∙ ap (option_map settled) (has q)
      ∙ given_values (list_any (is_named q) (map element_in es)) (values_named q (map element_in es)) ∙ sym (get-attributes_of (map element_in es) q))

  pub joined-stored : AreStored list
  joined-stored =
      let entries : fin.entries (attributes_of (map element_in es)) ≡ pairs_in list = ap fin.entries (sym joined-is) ∙ fin.entries-from_sorted bytes_cmp (pairs_in list) sorted in
      record {
        sorted = sorted;
        each = each-stored list (subst (AllByRecursion (λ p. IsAttribute p.0 p.1)) entries (attributes_of-kinds (map element_in es) (kinds es is)));
      }

-- no elements are no attributes
pub none-joined : attributes_stored [] ≡ attributes_of []
none-joined = fin.same_map ordered exact_bytes _ _ (λ q. fin.get-from_sorted bytes_cmp [] q tt ∙ sym (get-attributes_of [] q))

-- values of which there are some are held
pub held_some : (vs kept : List Value) → (vs ≡ [] → ⊥) → kept ≡ distinct_values vs → Values kept ≡ held_of (distinct_values vs)
held_some [] kept some e = absurd (some refl)
held_some (v ∷ vs) kept some e = ap Values e

-- ---- one element more

-- behind others the last is looked at
pub joined-behind : (es : List Element) (l e : Element) → joined_with (es ++ l ∷ []) e ≡ es ++ joined_with (l ∷ []) e
joined-behind [] l e = refl
joined-behind (x ∷ []) l e = refl
joined-behind (x ∷ y ∷ es) l e = ap (λ xs. x ∷ xs) (joined-behind (y ∷ es) l e)
