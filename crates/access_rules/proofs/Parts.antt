-- What is left of a part when an end is cut off.
use Rattle.std.proofs.Common.{◌≡◌, Bool, true, false, List, [], ◌∷◌, ◌++◌, refl, sym, ap, ◌∙◌}
use Rattle.std.specs.Prelude.{◌||◌}
use Rattle.std.specs.List.{list_any}
use Rattle.std.proofs.lemmas.List.{append_assoc, append-nil}
use Rattle.access_rules.specs.Deciding.{IsPart}

module _ {A : Type 0} (is : A → Bool) where
  -- neither of two lists has one
  any_of_two : (xs ys : List A) → list_any is xs ≡ false → list_any is ys ≡ false → list_any is (xs ++ ys) ≡ false
  any_of_two [] ys none also = also
  any_of_two (x ∷ xs) ys none also = elim (is x) as (λ b. (b || list_any is xs) ≡ false → (b || list_any is (xs ++ ys)) ≡ false) [
    | true ↦ λ e. e
    | false ↦ λ e. any_of_two xs ys e also
  ] none

  alone : (x : A) → is x ≡ false → list_any is (x ∷ []) ≡ false
  alone x other = ap (λ b. b || false) other

  pub whole_part : (all : List A) → IsPart is all all
  whole_part all = record { before = []; after = []; whole = sym (append-nil all); none_before = refl; none_after = refl }

  pub without_first : (part all rest : List A) (x : A) → part ≡ x ∷ rest → is x ≡ false → IsPart is part all → IsPart is rest all
  without_first part all rest x cut other p = record {
    before = p.before ++ (x ∷ []);
    after = p.after;
    whole = p.whole ∙ (ap (λ xs. p.before ++ (xs ++ p.after)) cut ∙ sym (append_assoc p.before (x ∷ []) (rest ++ p.after)));
    none_before = any_of_two p.before (x ∷ []) p.none_before (alone x other);
    none_after = p.none_after;
  }

  pub without_last : (part all rest : List A) (x : A) → part ≡ rest ++ (x ∷ []) → is x ≡ false → IsPart is part all → IsPart is rest all
  without_last part all rest x cut other p = record {
    before = p.before;
    after = x ∷ p.after;
    whole = p.whole ∙ ap (λ xs. p.before ++ xs) (ap (λ xs. xs ++ p.after) cut ∙ append_assoc rest (x ∷ []) p.after);
    none_before = p.none_before;
    none_after = any_of_two (x ∷ []) p.after (alone x other) p.none_after;
  }
