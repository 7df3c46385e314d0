-- Values that are gathered by their tags, and settled in key order.
use Rattle.std.proofs.Common.{◌≡◌, ℕ, Bool, true, false, cond, T, List, [], ◌∷◌, ◌++◌, map, Some, None, refl, sym, ap, ap₂, subst, ◌∙◌, append-nil}
use Rattle.std.specs.Prelude.{◌||◌, if◌then◌else◌, unwrap_or, vec_items}
use Rattle.std.specs.BTreeMap.{BTreeMap, is_at}
use Rattle.std.specs.FinMap as fin
use Rattle.std.specs.FinMap.Entries.{below_all}
use Rattle.std.specs.List.{AllByRecursion, list_any}
use Rattle.std.specs.List.Sorted.{IsStrictlySortedBy}
use Rattle.std.specs.Map.{keys_of, lookup}
use Rattle.std.specs.Option.{option_map}
use Rattle.std.specs.Ordering.{is_eq, is_lt}
use Rattle.std.specs.declared.cmp.Ordering.TheVariants.{Less}
use Rattle.std.specs.declared.vec.Vec.{Vec}
use Rattle.std.proofs.lemmas.Grind.{flat_map-append}
use Rattle.std.proofs.lemmas.List.Folds.{list_any-append}
use Rattle.slp_text.specs.Words.{bytes_cmp, bytes_eq}
use Rattle.attr_values.specs.declared.value.Value.{Value}
use Rattle.attr_list.specs.Elements.{Element}
use Rattle.attr_list.specs.Gathering.{gathered_values}
use Rattle.attr_list.specs.Lists.{values_named}
use Rattle.attr_list.proofs.JoinedElements.{both, settled}
use Rattle.attr_union.specs.Gathering.{values_at, values_with}

unnamed : (tag : List ℕ) (es : List Element) → list_any (λ e. bytes_eq e.tag tag) es ≡ false → values_named tag es ≡ []
unnamed tag [] h = refl
unnamed tag (e ∷ es) h =
    elim (bytes_eq e.tag tag) as (λ b. (b || list_any (λ e. bytes_eq e.tag tag) es) ≡ false → cond b e.values [] ++ values_named tag es ≡ []) [
      | true ↦ λ t. absurd cc
      | false ↦ λ f. unnamed tag es f
    ] h

one_more : (named named_now : Bool) (before values : List Value) → (named ≡ false → before ≡ [])
    → cond (named || (named_now || false)) (Some (before ++ (cond named_now values [] ++ []))) None ≡ cond named_now (Some (unwrap_or (cond named (Some before) None) [] ++ values)) (cond named (Some before) None)
one_more true true before values h = ap (λ vs. Some (before ++ vs)) (append-nil values)
one_more true false before values h = ap Some (append-nil before)
one_more false true before values h = ap₂ (λ b vs. Some (b ++ vs)) (h refl) (append-nil values)
one_more false false before values h = refl

gathered-more : (es : List Element) (e : Element) (tag : List ℕ) → gathered_values (es ++ e ∷ []) tag ≡ values_with (gathered_values es) e tag
gathered-more es e tag =
    let named = list_any-append (λ e. bytes_eq e.tag tag) es (e ∷ []) in
    let values = flat_map-append (λ e. if bytes_eq e.tag tag then e.values else []) es (e ∷ []) in
    ap₂ (λ b vs. cond b (Some vs) None) named values ∙ one_more (list_any (λ e. bytes_eq e.tag tag) es) (bytes_eq e.tag tag) (values_named tag es) e.values (unnamed tag es)

map-one : {A B : Type 0} (f : A → B) (xs : List A) (x : A) → map f (xs ++ x ∷ []) ≡ map f xs ++ f x ∷ []
map-one f [] x = refl
map-one f (y ∷ xs) x = ap (λ ys. f y ∷ ys) (map-one f xs x)

-- gathered with one more
pub gathered-next : {A B : Type 0} (f : B → Element) (done : List B) (x : B) (old new : BTreeMap (List ℕ) (Vec Value A))
    → ((tag : List ℕ) → values_at old tag ≡ gathered_values (map f done) tag) → ((tag : List ℕ) → values_at new tag ≡ values_with (values_at old) (f x) tag)
    → (tag : List ℕ) → values_at new tag ≡ gathered_values (map f (done ++ x ∷ [])) tag
gathered-next f done x old new before after tag =
    after tag ∙ ap (λ o. cond (bytes_eq (f x).tag tag) (Some (unwrap_or o [] ++ (f x).values)) o) (before tag)
    ∙ sym (ap (λ es. gathered_values es tag) (map-one f done x) ∙ gathered-more (map f done) (f x) tag)

-- ---- settled in key order

module _ {A : Type 0} where
  below : (x : List ℕ) (es : List (List ℕ × Vec Value A)) → AllByRecursion (λ y. bytes_cmp x y ≡ Less) (keys_of es) → T (below_all bytes_cmp x (map (λ p. (p.0, settled (vec_items p.1))) es))
  below x [] h = tt
  below x (e ∷ es) h = both (is_lt (bytes_cmp x e.0)) _ (subst (λ o. T (is_lt o)) (sym h.0) tt) (below x es h.1)

  pub sorted_entries : (es : List (List ℕ × Vec Value A)) → IsStrictlySortedBy bytes_cmp (keys_of es) → T (fin.is_sorted bytes_cmp (map (λ p. (p.0, settled (vec_items p.1))) es))
  unfolding IsStrictlySortedBy
  sorted_entries [] h = tt
  sorted_entries (e ∷ es) h = both (below_all bytes_cmp e.0 (map (λ p. (p.0, settled (vec_items p.1))) es)) _ (below e.0 es h.0) (sorted_entries es h.1)

  pub find_entries : (q : List ℕ) (es : List (List ℕ × Vec Value A)) → fin.find bytes_cmp q (map (λ p. (p.0, settled (vec_items p.1))) es) ≡ option_map settled (option_map vec_items (lookup (is_at (bytes_cmp q)) es))
  find_entries q [] = refl
  find_entries q (e ∷ es) =
      elim (is_eq (bytes_cmp q e.0)) as (λ b. cond b (Some (settled (vec_items e.1))) (fin.find bytes_cmp q (map (λ p. (p.0, settled (vec_items p.1))) es)) ≡ option_map settled (option_map vec_items (cond b (Some e.1) (lookup (is_at (bytes_cmp q)) es)))) [
        | true ↦ refl
        | false ↦ find_entries q es
      ]
