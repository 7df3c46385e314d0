-- Two lists of attributes in key order as one.
use Rattle.std.proofs.Common.{◌≡◌, ℕ, Bool, true, false, cond, T, List, [], ◌∷◌, length, Option, Some, None, refl, sym, ap, ap₂, subst, ◌∙◌, arith}
use Rattle.std.specs.FinMap as fin
use Rattle.std.specs.FinMap.Entries.{below_all}
use Rattle.std.specs.List.{AllByRecursion}
use Rattle.std.specs.Option.{option_or}
use Rattle.std.specs.Ordering.{is_eq, is_lt, match_ordering, ordering_reverse}
use Rattle.std.specs.declared.cmp.Ordering.TheVariants.{Less, Equal, Greater}
use Rattle.std.proofs.lemmas.Map.Lookups.{exact_bytes}
use Rattle.slp_text.specs.Words.{bytes_cmp}
use Rattle.attr_list.specs.Lists.{Attributes}
use Rattle.attr_list.specs.Maps.{updated_attributes}
use Rattle.attr_list.specs.Merging.{merged}
use Rattle.attr_list.specs.Stored.{attributes_stored, pairs_in, AreStored}
use Rattle.attr_list.specs.Texts.{IsAttribute}
use Rattle.attr_list.specs.declared.attrs.Attribute.{Attribute}
use Rattle.attr_list.specs.declared.held.Held.{Held}
use Rattle.attr_list.proofs.Combined.{below-missed, both_parts, equal, get-updated_attributes, same_attributes}
use Rattle.attr_list.proofs.JoinedElements.{both}
use Rattle.attr_list.proofs.SortedByKey.{less, ordered}
use Rattle.attr_list.proofs.StoredAttributes.{get-stored}

-- ---- where one list has ended

merged-none : (list : List Attribute) → merged list [] ≡ list
merged-none [] = refl
merged-none (a ∷ list) = refl

pub merged-alone : (list rest added : List Attribute) (a : Attribute) → list ≡ a ∷ rest → length added ≡ 0 → merged list added ≡ a ∷ merged rest added
merged-alone list rest [] a e none = merged-none list ∙ e ∙ ap (λ l. a ∷ l) (sym (merged-none rest))
merged-alone list rest (b ∷ added) a e none = absurd (omega arith)

-- ---- in key order

-- what holds of each of both lists holds of each of the merged one
each-merged : (P : Attribute → Type 0) (list added : List Attribute) → AllByRecursion P list → AllByRecursion P added → AllByRecursion P (merged list added)
each-merged P [] added h k = k
each-merged P (a ∷ list) [] h k = h
each-merged P (a ∷ list) (b ∷ added) h k =
    elim (bytes_cmp a.tag b.tag) as (λ o. AllByRecursion P (match_ordering o (a ∷ merged list (b ∷ added)) (b ∷ merged list added) (b ∷ merged (a ∷ list) added))) [
      | Less ↦ (h.0, each-merged P list (b ∷ added) h.1 k)
      | Equal ↦ (k.0, each-merged P list added h.1 k.1)
      | Greater ↦ (k.0, each-merged P (a ∷ list) added h k.1)
    ]

-- each comes after a tag
abbrev AreAfter : List ℕ → List Attribute → Type 0
AreAfter tag list = AllByRecursion (λ a. bytes_cmp tag a.tag ≡ Less) list

after-below : (tag : List ℕ) (list : List Attribute) → T (below_all bytes_cmp tag (pairs_in list)) → AreAfter tag list
after-below tag [] h = tt
after-below tag (a ∷ list) h =
    let parts = both_parts (is_lt (bytes_cmp tag a.tag)) (below_all bytes_cmp tag (pairs_in list)) h in
    (less (bytes_cmp tag a.tag) parts.0, after-below tag list parts.1)

below-after : (tag : List ℕ) (list : List Attribute) → AreAfter tag list → T (below_all bytes_cmp tag (pairs_in list))
below-after tag [] h = tt
below-after tag (a ∷ list) h =
    both (is_lt (bytes_cmp tag a.tag)) (below_all bytes_cmp tag (pairs_in list)) (subst (λ o. T (is_lt o)) (sym h.0) tt) (below-after tag list h.1)

-- what comes after a tag comes after a lesser one
after-lesser : (tag other : List ℕ) (list : List Attribute) → bytes_cmp tag other ≡ Less → AreAfter other list → AreAfter tag list
after-lesser tag other [] e h = tt
after-lesser tag other (a ∷ list) e h = (ordered.trans tag other a.tag e h.0, after-lesser tag other list e h.1)

led : (a : Attribute) (list : List Attribute) → AreAfter a.tag list → T (fin.is_sorted bytes_cmp (pairs_in list)) → T (fin.is_sorted bytes_cmp (pairs_in (a ∷ list)))
led a list h s = both (below_all bytes_cmp a.tag (pairs_in list)) (fin.is_sorted bytes_cmp (pairs_in list)) (below-after a.tag list h) s

sorted-merged : (list added : List Attribute) → T (fin.is_sorted bytes_cmp (pairs_in list)) → T (fin.is_sorted bytes_cmp (pairs_in added)) → T (fin.is_sorted bytes_cmp (pairs_in (merged list added)))
sorted-merged [] added s t = t
sorted-merged (a ∷ list) [] s t = s
sorted-merged (a ∷ list) (b ∷ added) s t =
    let stands = both_parts (below_all bytes_cmp a.tag (pairs_in list)) (fin.is_sorted bytes_cmp (pairs_in list)) s in
    let comes = both_parts (below_all bytes_cmp b.tag (pairs_in added)) (fin.is_sorted bytes_cmp (pairs_in added)) t in
    let left = after-below a.tag list stands.0 in
    let more = after-below b.tag added comes.0 in
    elim (bytes_cmp a.tag b.tag) as (λ o. bytes_cmp a.tag b.tag ≡ o → T (fin.is_sorted bytes_cmp (pairs_in (match_ordering o (a ∷ merged list (b ∷ added)) (b ∷ merged list added) (b ∷ merged (a ∷ list) added))))) [
      | Less ↦ λ e.
          led a (merged list (b ∷ added)) (each-merged (λ x. bytes_cmp a.tag x.tag ≡ Less) list (b ∷ added) left (e, after-lesser a.tag b.tag added e more)) (sorted-merged list (b ∷ added) stands.1 t)
      | Equal ↦ λ e.
          led b (merged list added) (each-merged (λ x. bytes_cmp b.tag x.tag ≡ Less) list added (subst (λ tag. AreAfter tag list) (exact_bytes a.tag b.tag e) left) more) (sorted-merged list added stands.1 comes.1)
      | Greater ↦ λ e.
          let under : bytes_cmp b.tag a.tag ≡ Less = ordered.antisymm b.tag a.tag ∙ ap ordering_reverse e in
          led b (merged (a ∷ list) added) (each-merged (λ x. bytes_cmp b.tag x.tag ≡ Less) (a ∷ list) added (under, after-lesser b.tag a.tag list under left) more) (sorted-merged (a ∷ list) added s comes.1)
    ] refl

pub merged-stored : (list added : List Attribute) → AreStored list → AreStored added → AreStored (merged list added)
merged-stored list added h k = record {
  sorted = sorted-merged list added h.sorted k.sorted;
  each = each-merged (λ a. IsAttribute a.tag a.held) list added h.each k.each;
}

-- ---- what is found

or_none : (o : Option Held) → o ≡ option_or o None
or_none None = refl
or_none (Some held) = refl

first_stands : (is : Bool) (held : Held) (o p : Option Held) → (is ≡ true → o ≡ None) → cond is (Some held) (option_or o p) ≡ option_or o (cond is (Some held) p)
first_stands true held o p none = ap (λ x. option_or x (Some held)) (sym (none refl))
first_stands false held o p none = refl

first_comes : (is : Bool) (held : Held) (o p : Option Held) → cond is (Some held) (option_or o p) ≡ option_or (cond is (Some held) o) p
first_comes true held o p = refl
first_comes false held o p = refl

first_is_both : (is : Bool) (held was : Held) (o p : Option Held) → cond is (Some held) (option_or o p) ≡ option_or (cond is (Some held) o) (cond is (Some was) p)
first_is_both true held was o p = refl
first_is_both false held was o p = refl

-- what comes has it, or else what stands
find-merged : (q : List ℕ) (list added : List Attribute) → T (fin.is_sorted bytes_cmp (pairs_in added))
    → fin.find bytes_cmp q (pairs_in (merged list added)) ≡ option_or (fin.find bytes_cmp q (pairs_in added)) (fin.find bytes_cmp q (pairs_in list))
find-merged q [] added t = or_none (fin.find bytes_cmp q (pairs_in added))
find-merged q (a ∷ list) [] t = refl
find-merged q (a ∷ list) (b ∷ added) t =
    let parts = both_parts (below_all bytes_cmp b.tag (pairs_in added)) (fin.is_sorted bytes_cmp (pairs_in added)) t in
    let stands = fin.find bytes_cmp q (pairs_in list) in
    let comes = fin.find bytes_cmp q (pairs_in added) in
    elim (bytes_cmp a.tag b.tag) as (λ o. bytes_cmp a.tag b.tag ≡ o → fin.find bytes_cmp q (pairs_in (match_ordering o (a ∷ merged list (b ∷ added)) (b ∷ merged list added) (b ∷ merged (a ∷ list) added))) ≡ option_or (fin.find bytes_cmp q (pairs_in (b ∷ added))) (fin.find bytes_cmp q (pairs_in (a ∷ list)))) [
      | Less ↦ λ e.
          let after = below-after a.tag (b ∷ added) (e, after-lesser a.tag b.tag added e (after-below b.tag added parts.0)) in
          ap (cond (is_eq (bytes_cmp q a.tag)) (Some a.held)) (find-merged q list (b ∷ added) t)
          ∙ first_stands (is_eq (bytes_cmp q a.tag)) a.held (fin.find bytes_cmp q (pairs_in (b ∷ added))) stands (λ is.
          let same = exact_bytes q a.tag (equal (bytes_cmp q a.tag) is) in
          below-missed q (pairs_in (b ∷ added)) (subst (λ tag. T (below_all bytes_cmp tag (pairs_in (b ∷ added)))) (sym same) after))
      | Equal ↦ λ e.
          ap (cond (is_eq (bytes_cmp q b.tag)) (Some b.held)) (find-merged q list added parts.1)
          ∙ first_is_both (is_eq (bytes_cmp q b.tag)) b.held a.held comes stands
          ∙ ap (λ tag. option_or (fin.find bytes_cmp q (pairs_in (b ∷ added))) (cond (is_eq (bytes_cmp q tag)) (Some a.held) stands)) (sym (exact_bytes a.tag b.tag e))
      | Greater ↦ λ e.
          ap (cond (is_eq (bytes_cmp q b.tag)) (Some b.held)) (find-merged q (a ∷ list) added parts.1)
          ∙ first_comes (is_eq (bytes_cmp q b.tag)) b.held comes (fin.find bytes_cmp q (pairs_in (a ∷ list)))
    ] refl

pub merged-attributes : (m more : Attributes) (list added : List Attribute) → AreStored list → AreStored added → fin.entries m ≡ pairs_in list → fin.entries more ≡ pairs_in added
    → attributes_stored (merged list added) ≡ updated_attributes m more
merged-attributes m more list added h k was come = same_attributes (attributes_stored (merged list added)) (updated_attributes m more) (λ q.
    get-stored (merged list added) q (merged-stored list added h k) ∙ find-merged q list added k.sorted
    ∙ ap₂ option_or (sym (fin.get-entries more q ∙ ap (fin.find bytes_cmp q) come)) (sym (fin.get-entries m q ∙ ap (fin.find bytes_cmp q) was))
    ∙ sym (get-updated_attributes m more q))
