-- A tag is found among words and patterns where some part matches it.
use Rattle.std.proofs.Common.{◌≡◌, ℕ, Bool, true, false, ◌||◌, ◌==◌, List, [], ◌∷◌, Some, map, refl, sym, ap, ap₂, subst, ◌∙◌, eqb-true}
use Rattle.std.specs.List.{list_any}
use Rattle.std.specs.BTreeSet.{insert_key}
use Rattle.std.specs.Ordering.{is_eq, match_ordering}
use Rattle.std.specs.declared.cmp.Ordering.{Ordering}
use Rattle.std.specs.declared.cmp.Ordering.TheVariants.{Less, Equal, Greater}
use Rattle.std.proofs.lemmas.Cmp.{tied_itself, nat_list_cmp_total}
use Rattle.std.proofs.lemmas.Map.Lookups.{exact_bytes}
use Rattle.slp_tags.specs.Tags.{is_match}
use Rattle.slp_text.specs.Words.{bytes_cmp}
use Rattle.slp_tags.proofs.Matches.{both_ways, second_of}
use Rattle.slp_tags.proofs.Searches.{first-of, same-and}

or-false : (b : Bool) → (b || false) ≡ b
or-false true = refl
or-false false = refl

or-turned : (a b c : Bool) → (a || (b || c)) ≡ ((b || c) || a)
or-turned true true c = refl
or-turned true false true = refl
or-turned true false false = refl
or-turned false true c = refl
or-turned false false true = refl
or-turned false false false = refl

or-again : (a b : Bool) → (a || b) ≡ ((a || b) || a)
or-again true b = refl
or-again false true = refl
or-again false false = refl

or-grouped : (a b c : Bool) → (a || (b || c)) ≡ ((a || b) || c)
or-grouped true b c = refl
or-grouped false b c = refl

pub or-swapped : (a b c : Bool) → ((a || b) || c) ≡ ((a || c) || b)
or-swapped true b c = refl
or-swapped false true true = refl
or-swapped false true false = refl
or-swapped false false true = refl
or-swapped false false false = refl

-- a word more among words
module _ {K : Type 0} (f : K → List ℕ) (word : K) (tag : List ℕ) where
  abbrev is_it : K → Bool
  is_it k = is_eq (bytes_cmp tag (f k))

  abbrev order : K → K → Ordering
  order a b = bytes_cmp (f a) (f b)

  pub word-added : (words : List K) → list_any is_it (insert_key order words word) ≡ (list_any is_it words || is_it word)
  word-added [] = or-false (is_it word)
  word-added (k ∷ ks) =
      elim (bytes_cmp (f word) (f k)) as (λ o. bytes_cmp (f word) (f k) ≡ o → list_any is_it (match_ordering o (word ∷ k ∷ ks) (k ∷ ks) (k ∷ insert_key order ks word)) ≡ (list_any is_it (k ∷ ks) || is_it word)) [
        | Less ↦ λ e. or-turned (is_it word) (is_it k) (list_any is_it ks)
        | Equal ↦ λ e. or-again (is_it k) (list_any is_it ks) ∙ ap (λ w. list_any is_it (k ∷ ks) || is_eq (bytes_cmp tag w)) (sym (exact_bytes (f word) (f k) e))
        | Greater ↦ λ e. ap (λ b. is_it k || b) (word-added ks) ∙ or-grouped (is_it k) (list_any is_it ks) (is_it word)
      ] refl

-- ---- a part without a star

same-word : (word tag : List ℕ) → is_match (map Some word) tag ≡ true → word ≡ tag
same-word [] [] h = refl
same-word [] (t ∷ ts) h = cc h
same-word (w ∷ ws) [] h = cc h
same-word (w ∷ ws) (t ∷ ts) h = ap₂ (λ a b. a ∷ b) (eqb-true w t (first-of (w == t) (is_match (map Some ws) ts) h)) (same-word ws ts (second_of (w == t) (is_match (map Some ws) ts) h))

own-match : (word : List ℕ) → is_match (map Some word) word ≡ true
own-match [] = refl
own-match (w ∷ ws) = same-and w (is_match (map Some ws) ws) ∙ own-match ws

equal : (o : Ordering) → is_eq o ≡ true → o ≡ Equal
equal Less h = absurd cc
equal Equal h = refl
equal Greater h = absurd cc

pub word-matches : (word tag : List ℕ) → is_eq (bytes_cmp tag word) ≡ is_match (map Some word) tag
word-matches word tag =
    both_ways (is_eq (bytes_cmp tag word)) (is_match (map Some word) tag)
    (λ h. subst (λ t. is_match (map Some word) t ≡ true) (sym (exact_bytes tag word (equal (bytes_cmp tag word) h))) (own-match word))
    (λ h. subst (λ t. is_eq (bytes_cmp t word) ≡ true) (same-word word tag h) (ap is_eq (tied_itself nat_list_cmp_total word)))
