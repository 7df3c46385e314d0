-- What stands first among entries, and which are passed.
use Rattle.std.proofs.Common.{◌≡◌, ℕ, Bool, true, false, cond, List, [], ◌∷◌, Option, Some, None, refl, sym, ap, subst, ◌∙◌, arith}
use Rattle.std.specs.Prelude.{◌&&◌, ◌||◌, Contains, IfSome, filter}
use Rattle.std.specs.List.{All, list_any}
use Rattle.std.specs.Ordering.{match_ordering}
use Rattle.std.specs.declared.cmp.Ordering.TheVariants.{Less, Equal, Greater}
use Rattle.std.proofs.lemmas.List.Elements.{All-nil, All-cons, All-head, All-tail}
use Rattle.std.proofs.lemmas.Option.{none-some, same_Some}
use Rattle.slp_text.specs.Words.{bytes_cmp, bytes_eq, texts_eq}
use Rattle.registry_core.specs.declared.entry.Entry.{Entry}
use Rattle.registry_core.specs.Entries.{is_of_url, is_registered}
use Rattle.directory_judge.specs.Judgements.{earlier_entry, first_from, first_of}

pub false_true : false ≡ true → ⊥
false_true h = cc

earlier-has : (P : Entry → Type 0) (o : Option Entry) (x : Entry) → IfSome o P → P x → P (earlier_entry o x)
earlier-has P None x h k = k
earlier-has P (Some f) x h k = elim (bytes_cmp x.language f.language) as (λ c. P (match_ordering c x f f)) [ Less ↦ k | Equal ↦ h | Greater ↦ h ]

pub first-has : (P : Entry → Type 0) (o : Option Entry) (xs : List Entry) (f : Entry) → IfSome o P → All P xs → first_from o xs ≡ Some f → P f
first-has P None [] f held all is = absurd (none-some f is)
first-has P (Some x) [] f held all is = subst P (same_Some x f is) held
first-has P o (x ∷ xs) f held all is = first-has P (Some (earlier_entry o x)) xs f (earlier-has P o x held (All-head P x xs all)) (All-tail P x xs all) is

first-some : (f : Entry) (xs : List Entry) → first_from (Some f) xs ≡ None → ⊥
first-some f [] h = none-some f (sym h)
first-some f (x ∷ xs) h = first-some (earlier_entry (Some f) x) xs h

pub first-none : (xs : List Entry) → first_of xs ≡ None → xs ≡ []
first-none [] none = refl
first-none (x ∷ xs) none = absurd (first-some x xs none)

module _ (p : Entry → Bool) where
  pub filter-none : (xs : List Entry) → filter p xs ≡ [] → All (λ x. p x ≡ false) xs
  filter-none [] = λ h. All-nil (λ x. p x ≡ false)
  filter-none (x ∷ xs) =
      elim (p x) as (λ b. p x ≡ b → cond b (x ∷ filter p xs) (filter p xs) ≡ [] → All (λ x. p x ≡ false) (x ∷ xs)) [
        | true ↦ λ t h. cc
        | false ↦ λ f h. All-cons (λ x. p x ≡ false) x xs f (filter-none xs h)
      ] refl

  pub none-filter : (xs : List Entry) → All (λ x. p x ≡ false) xs → filter p xs ≡ []
  none-filter [] all = refl
  none-filter (x ∷ xs) all = ap (λ b. cond b (x ∷ filter p xs) (filter p xs)) (All-head (λ x. p x ≡ false) x xs all) ∙ none-filter xs (All-tail (λ x. p x ≡ false) x xs all)

-- where none is of the URL, none is registered with it
pub unlisted : (url : List ℕ) (scopes : List (List ℕ)) (xs : List Entry) → list_any (is_of_url url) xs ≡ false → filter (is_registered url scopes) xs ≡ []
unlisted url scopes [] = λ none. refl
unlisted url scopes (x ∷ xs) =
    elim (bytes_eq x.url url) as (λ b. (b || list_any (is_of_url url) xs) ≡ false → cond (b && texts_eq x.scopes scopes) (x ∷ filter (is_registered url scopes) xs) (filter (is_registered url scopes) xs) ≡ []) [
      | true ↦ λ none. absurd (false_true (sym none))
      | false ↦ λ none. unlisted url scopes xs none
    ]

pub nothing-in : (e : Entry) (xs : List Entry) → xs ≡ [] → Contains xs e → ⊥
nothing-in e xs none has = let k = (subst (λ ys. Contains ys e) none has).1 in omega (arith, k)
