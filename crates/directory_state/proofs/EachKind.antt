-- Some entries, one of each type among them.
use Rattle.std.proofs.Common.{◌≡◌, ℕ, suc, ◌-◌, ◌++◌, true, false, cond, List, [], ◌∷◌, drop, drop-cons, length, map, take, Some, refl, sym, ap, ap₂, subst, ◌∙◌, arith, inl, inr}
use Rattle.std.specs.Prelude.{Bool, filter, is_none, slice_get, IsTrue, Contains}
use Rattle.std.specs.List.{AllByRecursion}
use Rattle.std.specs.Option.{option_map_or}
use Rattle.std.proofs.lemmas.List.Elements.{filter-append, Contains-append_left, Contains-append_right, Contains-append_cases}
use Rattle.std.specs.declared.cmp.Ordering.TheVariants.{Less}
use Rattle.std.proofs.lemmas.Cmp.{nat_list_cmp_total}
use Rattle.std.proofs.lemmas.List.{drop_all, map-append, take-append-drop}
use Rattle.std.proofs.lemmas.Option.{get_or_from_slice_get, slice_get_within}
use Rattle.slp_text.proofs.KeySets.{member_cases}
use Rattle.slp_text.specs.Words.{bytes_cmp, bytes_eq, IsAscending}
use Rattle.service_url.specs.Types.{authority_of}
use Rattle.registry_core.specs.declared.entry.Entry.{Entry}
use Rattle.directory_questions.specs.declared.query.Authority.{Authority}
use Rattle.directory_questions.specs.declared.query.Authority.TheVariants as authority
use Rattle.directory_questions.specs.Items.{is_under, AreTypes}
use Rattle.directory_state.specs.Searches.{AreByKind, HasEachKind}

-- all of them are some of them
pub each-itself : (es : List Entry) → HasEachKind es es
each-itself es = record { within = λ e has. has; kinds = λ e has. (e, has, refl) }

kind_of : (k : List ℕ) (es : List Entry) (e : Entry) → AllByRecursion (λ f. f.kind ≡ k) es → Contains es e → e.kind ≡ k
kind_of k [] e all has = absurd (omega (arith, has.1))
kind_of k (f ∷ es) e all has = elim (member_cases f e es has) [
  | inl same ↦ ap (λ (x : Entry). x.kind) (sym same) ∙ all.0
  | inr later ↦ kind_of k es e all.1 later
]

kinds-filter : (p : Entry → Bool) (k : List ℕ) (es : List Entry) → AllByRecursion (λ e. e.kind ≡ k) es → AllByRecursion (λ e. e.kind ≡ k) (filter p es)
kinds-filter p k [] all = tt
kinds-filter p k (e ∷ es) all = elim (p e) as (λ b. AllByRecursion (λ f. f.kind ≡ k) (cond b (e ∷ filter p es) (filter p es))) [
  | true ↦ (all.0, kinds-filter p k es all.1)
  | false ↦ kinds-filter p k es all.1
]

-- those that are passed over are of the type of one that was found
module _ (p : Entry → Bool) (es found passed rest : List Entry) (g : Entry) where
  pub each-past : HasEachKind es (found ++ filter p (passed ++ rest)) → AllByRecursion (λ f. f.kind ≡ g.kind) passed → Contains found g → HasEachKind es (found ++ filter p rest)
  each-past all alike there =
      let split : filter p (passed ++ rest) ≡ filter p passed ++ filter p rest = filter-append p passed rest in
      record {
        within = λ e has. all.within e (subst (λ xs. Contains (found ++ xs) e) (sym split) (elim (Contains-append_cases found (filter p rest) e has) [
          | inl a ↦ Contains-append_left found (filter p passed ++ filter p rest) e a
          | inr b ↦ Contains-append_right found (filter p passed ++ filter p rest) e (Contains-append_right (filter p passed) (filter p rest) e b)
        ]));
        kinds = λ e has.
            let k = all.kinds e has in
            elim (Contains-append_cases found (filter p passed ++ filter p rest) k.0 (subst (λ xs. Contains (found ++ xs) k.0) split k.1)) [
              | inl a ↦ (k.0, Contains-append_left found (filter p rest) k.0 a, k.2)
              | inr b ↦ elim (Contains-append_cases (filter p passed) (filter p rest) k.0 b) [
                | inl c ↦ (g, Contains-append_left found (filter p rest) g there, sym (kind_of g.kind (filter p passed) k.0 (kinds-filter p g.kind passed alike) c) ∙ k.2)
                | inr d ↦ (k.0, Contains-append_right found (filter p rest) k.0 d, k.2)
              ]
            ];
      }

-- the naming authority is of the type
pub under-kind : (a : Authority) (e f : Entry) → f.kind ≡ e.kind → IsTrue (is_under a e) → IsTrue (is_under a f)
under-kind authority.All e f same h = h
under-kind authority.Unnamed e f same h = subst (λ k. IsTrue (is_none (authority_of k))) (sym same) h
under-kind (authority.Named name) e f same h = subst (λ k. IsTrue (option_map_or (λ own. bytes_eq own name) (authority_of k) false)) (sym same) h

-- types of which there is one each among some entries are the types of all
pub types-of_each : (P Q : Entry → Type 0) (types : List (List ℕ)) → ((e : Entry) → P e → (f : Entry) × Q f × (f.kind ≡ e.kind)) → ((e : Entry) → Q e → (f : Entry) × P f × (f.kind ≡ e.kind)) → AreTypes P types → AreTypes Q types
types-of_each P Q types to back a = record {
  ordered = a.ordered;
  each = λ t has. let k = a.each t has in let q = to k.0 k.1 in (q.0, q.1, q.2 ∙ k.2);
  all = λ e holds. let k = back e holds in subst (Contains types) k.2 (a.all k.0 k.1);
}

-- ---- in the key order of their types

below-last : (y : List ℕ) (ys : List (List ℕ)) (last k : List ℕ) → bytes_cmp last k ≡ Less → AllByRecursion (λ j. bytes_cmp y j ≡ Less) (ys ++ last ∷ []) → AllByRecursion (λ j. bytes_cmp y j ≡ Less) ((ys ++ last ∷ []) ++ k ∷ [])
below-last y [] last k less h = (h.0, (nat_list_cmp_total.trans y last k h.0 less, tt))
below-last y (z ∷ ys) last k less h = (h.0, below-last y ys last k less h.1)

after-last : (ys : List (List ℕ)) (last k : List ℕ) → bytes_cmp last k ≡ Less → IsAscending (ys ++ last ∷ []) → IsAscending ((ys ++ last ∷ []) ++ k ∷ [])
after-last [] last k less a = ((less, tt), (tt, tt))
after-last (y ∷ ys) last k less a = (below-last y ys last k less a.0, after-last ys last k less a.1)

-- an entry is pushed whose type comes after that of the last
pub push-last : (es : List Entry) (last e : Entry) → slice_get es (length es - 1) ≡ Some last → bytes_cmp last.kind e.kind ≡ Less → AreByKind es → AreByKind (es ++ e ∷ [])
push-last es last e is less a =
    let n = length es - 1 in
    let within = slice_get_within es n last is in
    let kinds : List Entry → List (List ℕ) = map (λ x. x.kind) in
    let past : drop (suc n) es ≡ [] = drop_all (suc n) es (omega (arith, within)) in
    let split : es ≡ take n es ++ last ∷ [] =
    sym (take-append-drop n es) ∙ ap (λ t. take n es ++ t) (drop-cons es n last within ∙ ap₂ (λ x xs. x ∷ xs) (get_or_from_slice_get es n last last is) past) in
    let keys : kinds es ≡ kinds (take n es) ++ last.kind ∷ [] = ap kinds split ∙ map-append (λ x. x.kind) (take n es) (last ∷ []) in
    subst IsAscending (ap (λ ks. ks ++ e.kind ∷ []) (sym keys) ∙ sym (map-append (λ x. x.kind) es (e ∷ []))) (after-last (kinds (take n es)) last.kind e.kind less (subst IsAscending keys a))
