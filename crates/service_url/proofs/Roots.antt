-- A type, and the one that it is made from.
use Rattle.std.proofs.Common.{◌≡◌, ℕ, zero, suc, ◌+◌, ◌-◌, ◌<◌, ◌≤◌, Bool, true, false, cond, ◌&&◌, ◌||◌, List, [], ◌∷◌, ◌++◌, length, take, drop, refl, sym, ap, ap₂, subst, ◌∙◌, arith, inl, inr}
use Rattle.std.specs.Prelude.{not, nat_eq, nat_lt, slice_index}
use Rattle.std.specs.List.{list_all, starts_with, before_first, after_first, position_or_len}
use Rattle.std.proofs.lemmas.Bool.{and_parts, or_cases, eqb-true}
use Rattle.std.proofs.Common.{append_assoc}
use Rattle.std.proofs.Math.Seq.{take-append_seam, take-append-add}
use Rattle.std.proofs.lemmas.List.{take_all, length-drop, length-take}
use Rattle.std.proofs.lemmas.List.Sums.{prefix_len-le-length}
use Rattle.service_url.specs.Types.{is_name, is_name_byte, is_colon, is_service, is_abstract, is_type, are_names, covers, root_of, service_word}
use Rattle.slp_text.specs.Ascii.{colon}
use Rattle.slp_text.specs.Words.{bytes_eq, is_plain}
use Rattle.slp_text.proofs.KeySets.{bytes_same}

-- a colon is in no name
not_colon : (b : ℕ) → is_name_byte b ≡ true → is_colon b ≡ false
not_colon b h = elim (is_colon b) as (λ c. is_colon b ≡ c → c ≡ false) [
  | true ↦ λ e. let same : b ≡ colon = eqb-true b colon e in let k : is_name_byte colon ≡ true = subst (λ x. is_name_byte x ≡ true) same h in cc
  | false ↦ λ e. refl
] refl

pub name_whole : (n : List ℕ) → list_all is_name_byte n ≡ true → position_or_len is_colon n ≡ length n
name_whole [] h = refl
name_whole (b ∷ bs) h =
    let p = and_parts (is_name_byte b) (list_all is_name_byte bs) h in
    ap (λ c. cond (not c) (1 + position_or_len is_colon bs) 0) (not_colon b p.0) ∙ ap (λ m. 1 + m) (name_whole bs p.1) ∙ omega arith

pub name_first : (n r : List ℕ) → list_all is_name_byte n ≡ true → position_or_len is_colon (n ++ colon ∷ r) ≡ length n
name_first [] r h = refl
name_first (b ∷ bs) r h =
    let p = and_parts (is_name_byte b) (list_all is_name_byte bs) h in
    ap (λ c. cond (not c) (1 + position_or_len is_colon (bs ++ colon ∷ r)) 0) (not_colon b p.0) ∙ ap (λ m. 1 + m) (name_first bs r p.1) ∙ omega arith

take_front : (xs ys : List ℕ) → take (length xs) (xs ++ ys) ≡ xs
take_front xs ys = take-append_seam xs ys

take_more : (xs ys : List ℕ) (n : ℕ) → take (length xs + n) (xs ++ ys) ≡ xs ++ take n ys
take_more xs ys n = take-append-add xs ys n

pub begins : (t p : List ℕ) → starts_with nat_eq t p ≡ true → t ≡ p ++ drop (length p) t
begins t [] h = refl
begins [] (y ∷ ys) h = cc
begins (x ∷ xs) (y ∷ ys) h =
    let b = and_parts (nat_eq y x) (starts_with nat_eq xs ys) h in
    ap₂ (λ z zs. z ∷ zs) (sym (eqb-true y x b.0)) (begins xs ys b.1)

pub root_made : (x : List ℕ) → root_of (service_word ++ x) ≡ service_word ++ take (position_or_len is_colon x) x
root_made x = take_more service_word x (position_or_len is_colon x)

-- an abstract type is its own root
pub abstract_root : (k : List ℕ) → is_abstract k ≡ true → root_of k ≡ k
abstract_root k a =
    let p = and_parts (is_service k) (is_name (drop 8 k)) a in
    let n : List ℕ = drop 8 k in
    let spelled : k ≡ service_word ++ n = begins k service_word p.0 in
    let named : list_all is_name_byte n ≡ true = (and_parts (nat_lt 0 (length n) && is_plain (slice_index n 0)) (list_all is_name_byte n) p.1).1 in
    ap root_of spelled ∙ root_made n ∙ ap (λ m. service_word ++ take m n) (name_whole n named) ∙ ap (λ ys. service_word ++ ys) (take_all (length n) n (omega arith)) ∙ sym spelled

-- an abstract type is the root of each type that it covers
pub covered_root : (k t : List ℕ) → is_abstract k ≡ true → covers k t ≡ true → root_of t ≡ k
covered_root k t a h =
    let p = and_parts (is_service k) (is_name (drop 8 k)) a in
    let n : List ℕ = drop 8 k in
    let spelled : k ≡ service_word ++ n = begins k service_word p.0 in
    let named : list_all is_name_byte n ≡ true = (and_parts (nat_lt 0 (length n) && is_plain (slice_index n 0)) (list_all is_name_byte n) p.1).1 in
    elim (or_cases (bytes_eq k t) (is_abstract k && starts_with nat_eq t (k ++ colon ∷ [])) h) [
      | inl e ↦ sym (ap root_of (bytes_same k t e)) ∙ abstract_root k a
      | inr e ↦
          let s = and_parts (is_abstract k) (starts_with nat_eq t (k ++ colon ∷ [])) e in
          let r : List ℕ = drop (length (k ++ colon ∷ [])) t in
          let whole : t ≡ service_word ++ (n ++ colon ∷ r) = begins t (k ++ colon ∷ []) s.1 ∙ append_assoc k (colon ∷ []) r ∙ ap (λ x. x ++ colon ∷ r) spelled in
          ap root_of whole ∙ root_made (n ++ colon ∷ r) ∙ ap (λ m. service_word ++ take m (n ++ colon ∷ r)) (name_first n r named) ∙ ap (λ ys. service_word ++ ys) (take_front n (colon ∷ r)) ∙ sym spelled
    ]

-- another type covers itself alone
pub covered_same : (k t : List ℕ) → is_abstract k ≡ false → covers k t ≡ true → t ≡ k
covered_same k t a h = elim (or_cases (bytes_eq k t) (is_abstract k && starts_with nat_eq t (k ++ colon ∷ [])) h) [
  | inl e ↦ sym (bytes_same k t e)
  | inr e ↦ let s = and_parts (is_abstract k) (starts_with nat_eq t (k ++ colon ∷ [])) e in cc
]

-- ---- how many bytes a root has

take_again : (n : ℕ) (xs : List ℕ) → take (length (take n xs)) xs ≡ take n xs
take_again zero xs = refl
take_again (suc n) [] = refl
take_again (suc n) (x ∷ xs) = ap (λ ys. x ∷ ys) (take_again n xs)

module _ (text : List ℕ) where
  first : position_or_len is_colon (drop 8 text) ≤ length text - 8
  first = omega (arith, prefix_len-le-length (λ x. not (is_colon x)) (drop 8 text), length-drop 8 text)

  pub root_within : length (root_of text) ≤ length text
  root_within = elim (is_service text) as (λ b. length (cond b (take (8 + position_or_len is_colon (drop 8 text)) text) text) ≤ length text) [
    | true ↦ omega (arith, length-take (8 + position_or_len is_colon (drop 8 text)) text)
    | false ↦ omega arith
  ]

  -- a root is the front of its type
  pub root_front : take (length (root_of text)) text ≡ root_of text
  root_front = elim (is_service text) as (λ b. take (length (cond b (take (8 + position_or_len is_colon (drop 8 text)) text) text)) text ≡ cond b (take (8 + position_or_len is_colon (drop 8 text)) text) text) [
    | true ↦ take_again (8 + position_or_len is_colon (drop 8 text)) text
    | false ↦ take_all (length text) text (omega arith)
  ]

-- ---- what follows `service:`

-- a name has no colon
pub name_colon : (n : List ℕ) → position_or_len is_colon n < length n → is_name n ≡ false
name_colon n h = elim (is_name n) as (λ b. is_name n ≡ b → b ≡ false) [
  | true ↦ λ t.
      let named : list_all is_name_byte n ≡ true = (and_parts (nat_lt 0 (length n) && is_plain (slice_index n 0)) (list_all is_name_byte n) t).1 in
      absurd (omega (arith, name_whole n named))
  | false ↦ λ t. refl
] refl

-- what is no name up to its first colon, or has none, is no name and no two names
pub no_front : (r : List ℕ) → is_name (take (position_or_len is_colon r) r) ≡ false → are_names r ≡ false
no_front r h = elim (is_name r) as (λ b. is_name r ≡ b → (b || (is_name (take (position_or_len is_colon r) r) && is_name (after_first is_colon r))) ≡ false) [
  | true ↦ λ t.
      let named : list_all is_name_byte r ≡ true = (and_parts (nat_lt 0 (length r) && is_plain (slice_index r 0)) (list_all is_name_byte r) t).1 in
      let whole : take (position_or_len is_colon r) r ≡ r = ap (λ m. take m r) (name_whole r named) ∙ take_all (length r) r (omega arith) in
      let z : true ≡ false = sym t ∙ ap is_name (sym whole) ∙ h in
      cc
  | false ↦ λ t. ap (λ b. b && is_name (after_first is_colon r)) h
] refl

-- with a colon it is two names, or none
pub two_names : (r : List ℕ) → position_or_len is_colon r < length r → are_names r ≡ (is_name (take (position_or_len is_colon r) r) && is_name (after_first is_colon r))
two_names r l = ap (λ b. b || (is_name (take (position_or_len is_colon r) r) && is_name (after_first is_colon r))) (name_colon r l)

types_by : (s a b c n : Bool) → s ≡ true → n ≡ false → (s && a || s && b && c || n) ≡ (a || (b && c))
types_by true true b c false h k = refl
types_by true false true true false h k = refl
types_by true false true false false h k = refl
types_by true false false c false h k = refl
types_by true a b c true h k = cc
types_by false a b c n h k = cc

-- what begins with `service:` is a type by what follows
module _ (text : List ℕ) (s : is_service text ≡ true) where
  spelled : text ≡ service_word ++ drop 8 text
  spelled = begins text service_word s

  pub service_no_name : is_name text ≡ false
  service_no_name = name_colon text (subst (λ t. position_or_len is_colon t < length t) (sym spelled) (let e : position_or_len is_colon (service_word ++ drop 8 text) ≡ 7 = refl in omega (arith, e)))

  pub service_type : is_type text ≡ are_names (drop 8 text)
  service_type = types_by (is_service text) (is_name (drop 8 text)) (is_name (before_first is_colon (drop 8 text))) (is_name (after_first is_colon (drop 8 text))) (is_name text) s service_no_name

  pub service_abstract : is_abstract text ≡ is_name (drop 8 text)
  service_abstract = ap (λ b. b && is_name (drop 8 text)) s

  pub service_root : length (root_of text) ≡ 8 + position_or_len is_colon (drop 8 text)
  service_root = ap (λ b. length (cond b (take (8 + position_or_len is_colon (drop 8 text)) text) text)) s ∙ length-take (8 + position_or_len is_colon (drop 8 text)) text ∙ omega (arith, first text, ap length spelled)
