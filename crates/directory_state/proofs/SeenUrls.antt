-- What joins a list of URLs as entries are seen, and in which it was seen.
use Rattle.std.proofs.Common.{◌≡◌, ℕ, ◌+◌, ◌<◌, ◌≤◌, max, Bool, true, false, cond, List, [], ◌∷◌, drop, length, Option, Some, None, Result, Ok, Err, refl, sym, ap, ap₂, subst, ◌∙◌, arith, inl, inr, add-one, drop-cons}
use Rattle.std.specs.Prelude.{unwrap_or, slice_get, OnErr, ◌⊎◌, Contains}
use Rattle.std.specs.List.{All}
use Rattle.std.specs.Ordering.{is_eq, match_ordering}
use Rattle.std.specs.declared.cmp.Ordering.TheVariants.{Less, Equal, Greater}
use Rattle.std.proofs.lemmas.Bool.{cases_lt}
use Rattle.std.proofs.lemmas.List.Elements.{All-nil, All-cons, All-contains, Contains-append_left, Contains-append_right}
use Rattle.std.proofs.lemmas.Option.{none-some, same_Some, slice_get_within, get_or_from_slice_get, slice_get-get_or}
use Rattle.registry_core.specs.declared.entry.Entry.{Entry}
use Rattle.slp_text.specs.Words.{bytes_cmp, IsAscending}
use Rattle.directory_state.specs.Deadlines.{UrlDeadline, with_deadline, urls_of}
use Rattle.directory_state.specs.Searches.{deadlines_with}
use Rattle.directory_state.proofs.Joins.{is_same, is_same-itself, reversed, latest_in, none_before_first, ascending-with_deadline}

-- a URL is found with one more deadline
abbrev pub noted : List ℕ → ℕ → List ℕ → Option ℕ → Option ℕ
noted at deadline url o = cond (is_eq (bytes_cmp url at)) (Some (max (unwrap_or o 0) deadline)) o

-- the latest deadline of a URL in the entries, and of what was found before
abbrev pub latest : List ℕ → List Entry → Option ℕ → Option ℕ
latest url [] o = o
latest url (e ∷ es) o = latest url es (noted e.url e.deadline url o)

max_none : (d : ℕ) → d ≡ max 0 d
max_none d = omega arith

latest-with_deadline : (q url : List ℕ) (deadline : ℕ) (ps : List UrlDeadline) → IsAscending (urls_of ps) → latest_in q (with_deadline url deadline ps) ≡ noted url deadline q (latest_in q ps)
latest-with_deadline q url deadline [] a = ap (λ d. cond (is_eq (bytes_cmp q url)) (Some d) None) (max_none deadline)
latest-with_deadline q url deadline (p ∷ ps) a =
    let all = latest_in q (p ∷ ps) in
    elim (bytes_cmp url p.0) as (λ o. bytes_cmp url p.0 ≡ o → latest_in q (match_ordering o ((url, deadline) ∷ p ∷ ps) ((p.0, max p.1 deadline) ∷ ps) (p ∷ with_deadline url deadline ps)) ≡ noted url deadline q all) [
      | Less ↦ λ l.
          elim (is_eq (bytes_cmp q url)) as (λ b. is_eq (bytes_cmp q url) ≡ b → cond b (Some deadline) all ≡ cond b (Some (max (unwrap_or all 0) deadline)) all) [
            | true ↦ λ t.
                let none : all ≡ None = ap (λ u. latest_in u (p ∷ ps)) (is_same q url t) ∙ none_before_first url p ps l a in
                ap Some (max_none deadline) ∙ ap (λ o. Some (max (unwrap_or o 0) deadline)) (sym none)
            | false ↦ λ _. refl
          ] refl
      | Equal ↦ λ e.
          let same : url ≡ p.0 = is_same url p.0 (ap is_eq e) in
          (elim (is_eq (bytes_cmp q p.0)) as (λ b. cond b (Some (max p.1 deadline)) (latest_in q ps)
          ≡ cond b (Some (max (unwrap_or (cond b (Some p.1) (latest_in q ps)) 0) deadline)) (cond b (Some p.1) (latest_in q ps))) [ true ↦ refl | false ↦ refl ])
          ∙ ap (λ u. cond (is_eq (bytes_cmp q u)) (Some (max (unwrap_or all 0) deadline)) all) (sym same)
      | Greater ↦ λ g.
          elim (is_eq (bytes_cmp q p.0)) as (λ b. is_eq (bytes_cmp q p.0) ≡ b → cond b (Some p.1) (latest_in q (with_deadline url deadline ps)) ≡ noted url deadline q (cond b (Some p.1) (latest_in q ps))) [
            | true ↦ λ t.
                let other : is_eq (bytes_cmp q url) ≡ false = ap (λ u. is_eq (bytes_cmp u url)) (is_same q p.0 t) ∙ ap is_eq (reversed url p.0 Greater g) in
                ap (λ b. cond b (Some (max p.1 deadline)) (Some p.1)) (sym other)
            | false ↦ λ _. latest-with_deadline q url deadline ps a.1
          ] refl
    ] refl

pub latest-deadlines_with : (q : List ℕ) (es : List Entry) (ps : List UrlDeadline) → IsAscending (urls_of ps) → latest_in q (deadlines_with es ps) ≡ latest q es (latest_in q ps)
latest-deadlines_with q [] ps a = refl
latest-deadlines_with q (e ∷ es) ps a =
    latest-deadlines_with q es (with_deadline e.url e.deadline ps) (ascending-with_deadline e.url e.deadline ps a) ∙ ap (latest q es) (latest-with_deadline q e.url e.deadline ps a)

pub on_err : {A E : Type 0} (r : Result A E) (P : Type 0) → P → OnErr r P
on_err (Ok x) P p = tt
on_err (Err e) P p = p

-- ---- the turns of a walk over scopes

pub drop_here : (scopes : List (List ℕ)) (i : ℕ) (s : List ℕ) → slice_get scopes i ≡ Some s → drop i scopes ≡ s ∷ drop (i + 1) scopes
drop_here scopes i s is = drop-cons scopes i s (slice_get_within scopes i s is) ∙ ap₂ (λ x n. x ∷ drop n scopes) (get_or_from_slice_get scopes i s s is) (sym (add-one i))

pub not_none : (scopes : List (List ℕ)) (i : ℕ) → i < length scopes → slice_get scopes i ≡ None → ⊥
not_none scopes i h is = none-some _ (sym is ∙ slice_get-get_or scopes i [] h)

pub no_other : (b : Bool) → b ≡ true → b ≡ false → ⊥
no_other b t f = let k : true ≡ false = sym t ∙ f in cc

-- ---- the latest deadline

pub latest-ge : (u : List ℕ) (es : List Entry) (o : Option ℕ) (d : ℕ) → latest u es o ≡ Some d → (unwrap_or o 0 ≤ d) × All (λ e. e.url ≡ u → e.deadline ≤ d) es
latest-ge u [] o d h = (let k : unwrap_or o 0 ≡ d = ap (λ x. unwrap_or x 0) h in omega (arith, k), All-nil (λ (e : Entry). e.url ≡ u → e.deadline ≤ d))
latest-ge u (e ∷ es) o d h =
    let k = latest-ge u es (noted e.url e.deadline u o) d h in
    let P : Entry → Type 0 = λ x. x.url ≡ u → x.deadline ≤ d in
    elim (is_eq (bytes_cmp u e.url)) as (λ b. is_eq (bytes_cmp u e.url) ≡ b → unwrap_or (cond b (Some (max (unwrap_or o 0) e.deadline)) o) 0 ≤ d → (unwrap_or o 0 ≤ d) × All P (e ∷ es)) [
      | true ↦ λ t l. (omega (arith, l), All-cons P e es (λ _. omega (arith, l)) k.1)
      | false ↦ λ t l. (l, All-cons P e es (λ same. absurd (let f : is_eq (bytes_cmp u u) ≡ false = subst (λ x. is_eq (bytes_cmp u x) ≡ false) same t in let g = is_same-itself u in cc)) k.1)
    ] refl k.0

-- the entry at the URL with the deadline
abbrev pub IsFrom : List ℕ → List Entry → ℕ → Type 0
IsFrom u es d = (e : Entry) × Contains es e × (e.url ≡ u) × (e.deadline ≡ d)

pub here : {A : Type 0} (x : A) (xs : List A) → Contains (x ∷ xs) x
here x xs = Contains-append_left (x ∷ []) xs x (0, omega arith, refl)

pub there : {A : Type 0} (x y : A) (xs : List A) → Contains xs y → Contains (x ∷ xs) y
there x y xs h = Contains-append_right (x ∷ []) xs y h

max_cases : (a b : ℕ) → (max a b ≡ a) ⊎ (max a b ≡ b)
max_cases a b = elim (cases_lt a b) [ inl h ↦ inr (omega arith) | inr h ↦ inl (omega arith) ]

from_one : (o : Option ℕ) (deadline d : ℕ) → Some (max (unwrap_or o 0) deadline) ≡ Some d → (o ≡ Some d) ⊎ (deadline ≡ d)
from_one None deadline d h = inr (let k = same_Some (max 0 deadline) d h in omega (arith, k))
from_one (Some x) deadline d h =
    let k = same_Some (max x deadline) d h in
    elim (max_cases x deadline) [ inl l ↦ inl (ap Some (sym l ∙ k)) | inr r ↦ inr (sym r ∙ k) ]

pub latest-from : (u : List ℕ) (es : List Entry) (o : Option ℕ) (d : ℕ) → latest u es o ≡ Some d → (o ≡ Some d) ⊎ IsFrom u es d
latest-from u [] o d h = inl h
latest-from u (e ∷ es) o d h =
    elim (latest-from u es (noted e.url e.deadline u o) d h) [
      | inr k ↦ inr (k.0, there e k.0 es k.1, k.2, k.3)
      | inl k ↦
          elim (is_eq (bytes_cmp u e.url)) as (λ b. is_eq (bytes_cmp u e.url) ≡ b → cond b (Some (max (unwrap_or o 0) e.deadline)) o ≡ Some d → (o ≡ Some d) ⊎ IsFrom u (e ∷ es) d) [
            | true ↦ λ t l. elim (from_one o e.deadline d l) [ inl a ↦ inl a | inr b ↦ inr (e, here e es, sym (is_same u e.url t), b) ]
            | false ↦ λ t l. inl l
          ] refl k
    ]

some_stays : (u : List ℕ) (es : List Entry) (x : ℕ) → (d : ℕ) × (latest u es (Some x) ≡ Some d)
some_stays u [] x = (x, refl)
some_stays u (e ∷ es) x =
    elim (is_eq (bytes_cmp u e.url)) as (λ b. (d : ℕ) × (latest u es (cond b (Some (max x e.deadline)) (Some x)) ≡ Some d)) [
      | true ↦ some_stays u es (max x e.deadline)
      | false ↦ some_stays u es x
    ]

latest-some_all : (u : List ℕ) (es : List Entry) (o : Option ℕ) → All (λ e. e.url ≡ u → (d : ℕ) × (latest u es o ≡ Some d)) es
latest-some_all u [] o = All-nil (λ (e : Entry). e.url ≡ u → (d : ℕ) × (latest u [] o ≡ Some d))
latest-some_all u (e ∷ es) o =
    All-cons (λ (x : Entry). x.url ≡ u → (d : ℕ) × (latest u (e ∷ es) o ≡ Some d)) e es
    (λ same.
    let t : is_eq (bytes_cmp u e.url) ≡ true = subst (λ x. is_eq (bytes_cmp u x) ≡ true) (sym same) (is_same-itself u) in
    let k = some_stays u es (max (unwrap_or o 0) e.deadline) in
    (k.0, ap (λ b. latest u es (cond b (Some (max (unwrap_or o 0) e.deadline)) o)) t ∙ k.1))
    (latest-some_all u es (noted e.url e.deadline u o))

pub latest-some : (es : List Entry) (o : Option ℕ) (e : Entry) → Contains es e → (d : ℕ) × (latest e.url es o ≡ Some d)
latest-some es o e h = All-contains (λ (x : Entry). x.url ≡ e.url → (d : ℕ) × (latest e.url es o ≡ Some d)) es e (latest-some_all e.url es o) h refl
