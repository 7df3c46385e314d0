-- What a type covers, by its root.
use Rattle.std.proofs.Common.{◌≡◌, ℕ, ◌+◌, true, false, cond, ◌&&◌, ◌⊎◌, List, [], ◌∷◌, ◌++◌, take, drop, refl, sym, ap, ap₂, subst, ◌∙◌, inl, inr, one-add}
use Rattle.std.specs.Prelude.{not, nat_eq}
use Rattle.std.specs.List.{starts_with, position_or_len}
use Rattle.std.proofs.lemmas.Bool.{eqb-true, eq-eqb, and_from, or_left, or_right}
use Rattle.service_url.specs.Types.{is_colon, is_service, is_abstract, covers, root_of, service_word}
use Rattle.service_url.proofs.Roots.{begins, root_made}
use Rattle.slp_text.specs.Ascii.{colon}
use Rattle.slp_text.specs.Words.{bytes_eq}

equal_itself : (xs : List ℕ) → bytes_eq xs xs ≡ true
equal_itself [] = refl
equal_itself (x ∷ xs) = and_from (nat_eq x x) (bytes_eq xs xs) (eq-eqb x x refl) (equal_itself xs)

-- a type covers itself
pub covers_itself : (k : List ℕ) → covers k k ≡ true
covers_itself k = or_left (bytes_eq k k) (is_abstract k && starts_with nat_eq k (k ++ colon ∷ [])) (equal_itself k)

-- up to its first colon a text is whole, or its front, behind which the colon stands
front_whole : (xs : List ℕ) → (take (position_or_len is_colon xs) xs ≡ xs) ⊎ (starts_with nat_eq xs (take (position_or_len is_colon xs) xs ++ colon ∷ []) ≡ true)
front_whole [] = inl refl
front_whole (x ∷ xs) = elim (is_colon x) as (λ b. is_colon x ≡ b → (take (cond (not b) (1 + position_or_len is_colon xs) 0) (x ∷ xs) ≡ x ∷ xs) ⊎ (starts_with nat_eq (x ∷ xs) (take (cond (not b) (1 + position_or_len is_colon xs) 0) (x ∷ xs) ++ colon ∷ []) ≡ true)) [
  | true ↦ λ e. inr (and_from (nat_eq colon x) true (ap (nat_eq colon) (eqb-true x colon e)) refl)
  | false ↦ λ e. subst (λ n. (take n (x ∷ xs) ≡ x ∷ xs) ⊎ (starts_with nat_eq (x ∷ xs) (take n (x ∷ xs) ++ colon ∷ []) ≡ true)) (sym (one-add (position_or_len is_colon xs)))
      (elim (front_whole xs) [
        | inl w ↦ inl (ap (λ ys. x ∷ ys) w)
        | inr s ↦ inr (and_from (nat_eq x x) (starts_with nat_eq xs (take (position_or_len is_colon xs) xs ++ colon ∷ [])) (eq-eqb x x refl) s)
      ])
] refl

-- an abstract type covers each type of which it is the root
pub root_covers : (k t : List ℕ) → is_abstract k ≡ true → root_of t ≡ k → covers k t ≡ true
root_covers k t a r =
    let x : List ℕ = drop 8 t in
    let front : List ℕ = take (position_or_len is_colon x) x in
    elim (is_service t) as (λ b. is_service t ≡ b → covers k t ≡ true) [
      | true ↦ λ s.
          let spelled : t ≡ service_word ++ x = begins t service_word s in
          let root : k ≡ service_word ++ front = sym r ∙ ap root_of spelled ∙ root_made x in
          elim (front_whole x) [
            | inl w ↦ subst (λ u. covers k u ≡ true) (root ∙ ap (λ ys. service_word ++ ys) w ∙ sym spelled) (covers_itself k)
            | inr h ↦
                let begun : starts_with nat_eq t (k ++ colon ∷ []) ≡ true = ap₂ (λ u v. starts_with nat_eq u (v ++ colon ∷ [])) spelled root ∙ h in
                or_right (bytes_eq k t) (is_abstract k && starts_with nat_eq t (k ++ colon ∷ [])) (and_from (is_abstract k) (starts_with nat_eq t (k ++ colon ∷ [])) a begun)
          ]
      | false ↦ λ s. subst (λ u. covers k u ≡ true) (sym r ∙ ap (λ b. cond b (take (8 + position_or_len is_colon x) t) t) s) (covers_itself k)
    ] refl
