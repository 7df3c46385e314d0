-- What is gathered from elements: values each once, and tags each with all their values.
use Rattle.std.proofs.Common.{◌≡◌, ◌≢◌, ℕ, Bool, true, false, cond, List, [], ◌∷◌, ◌++◌, map, length, arith, Some, None, refl, sym, ap, ap₂, subst, ◌∙◌}
use Rattle.std.specs.Prelude.{if◌then◌else◌, ◌&&◌, ◌||◌, not, filter, IsUtf8}
use Rattle.std.specs.FinMap as fin
use Rattle.std.specs.List.{AllByRecursion, list_any}
use Rattle.std.specs.Cmp.{signed_Decides}
use Rattle.std.specs.Ordering.{is_eq}
use Rattle.std.specs.declared.cmp.Ordering.TheVariants.{Less, Equal, Greater}
use Rattle.std.proofs.lemmas.Cmp.{nat_list_eq_equiv, nat_list_cmp_total}
use Rattle.std.proofs.lemmas.Map.Lookups.{exact_bytes}
use Rattle.std.proofs.lemmas.Map.Text.{is_eq-slice_cmp}
use Rattle.slp_text.specs.Keys.{key_of}
use Rattle.slp_text.specs.Words.{bytes_cmp, bytes_eq}
use Rattle.slp_text.proofs.KeySets.{bytes_same}
use Rattle.attr_values.specs.Kinds.{IsValue}
use Rattle.attr_values.specs.declared.value.Value.{Value}
use Rattle.attr_values.specs.declared.value.Value.TheVariants as value
use Rattle.attr_list.specs.Elements.{Element}
use Rattle.attr_list.specs.Lists.{Attributes, attributes_of, distinct_values, held_of, is_same, values_named}
use Rattle.attr_list.specs.Texts.{AreAttributes, IsAttribute, IsHeld}
use Rattle.attr_list.specs.declared.held.Held.{Held}

-- ---- values that are the same

-- two booleans that are the same are equal
same_bools : (a b : Bool) → ((a && b) || not (a || b)) ≡ true → a ≡ b
same_bools true true h = refl
same_bools true false h = sym h
same_bools false true h = h
same_bools false false h = refl

-- of a text its key alone matters
same_keys : (a b : List ℕ) (u : Value) → key_of a ≡ key_of b → is_same (value.Text a) u ≡ is_same (value.Text b) u
same_keys a b (value.Text t) e = ap (λ k. bytes_eq k (key_of t)) e
same_keys a b _ e = refl

-- two values that are the same are the same as the same values
pub same-congr : (v w u : Value) → is_same v w ≡ true → is_same v u ≡ is_same w u
same-congr (value.Bool a) (value.Bool b) u h = ap (λ x. is_same (value.Bool x) u) (same_bools a b h)
same-congr (value.Int a) (value.Int b) u h = ap (λ x. is_same (value.Int x) u) ((signed_Decides a b).0 h)
same-congr (value.Opaque a) (value.Opaque b) u h = ap (λ x. is_same (value.Opaque x) u) (bytes_same a b h)
same-congr (value.Text a) (value.Text b) u h = same_keys a b u (bytes_same (key_of a) (key_of b) h)
same-congr _ _ u h = cc

-- ---- filters

module _ {A : Type 0} where
  -- to filter twice is to filter once
  filter_again : (p : A → Bool) (xs : List A) → filter p (filter p xs) ≡ filter p xs
  filter_again p [] = refl
  filter_again p (x ∷ xs) =
      elim (p x) as (λ b. p x ≡ b → filter p (cond b (x ∷ filter p xs) (filter p xs)) ≡ cond b (x ∷ filter p xs) (filter p xs)) [
        | true ↦ λ t. ap (λ b. cond b (x ∷ filter p (filter p xs)) (filter p (filter p xs))) t ∙ ap (λ ys. x ∷ ys) (filter_again p xs)
        | false ↦ λ f. filter_again p xs
      ] refl

  -- tests that answer alike keep the same
  pub filter_alike : (p q : A → Bool) → ((x : A) → p x ≡ q x) → (xs : List A) → filter p xs ≡ filter q xs
  filter_alike p q alike [] = refl
  filter_alike p q alike (x ∷ xs) = ap₂ (λ b ys. cond b (x ∷ ys) ys) (alike x) (filter_alike p q alike xs)

  -- what passes stays
  filter_passed : (p : A → Bool) (x : A) (xs : List A) → p x ≡ true → filter p (x ∷ xs) ≡ x ∷ filter p xs
  filter_passed p x xs t = ap (λ b. cond b (x ∷ filter p xs) (filter p xs)) t

  -- what fails goes
  filter_failed : (p : A → Bool) (x : A) (xs : List A) → p x ≡ false → filter p (x ∷ xs) ≡ filter p xs
  filter_failed p x xs f = ap (λ b. cond b (x ∷ filter p xs) (filter p xs)) f

  -- two filters may change places
  filters_turned : (p q : A → Bool) (xs : List A) → filter p (filter q xs) ≡ filter q (filter p xs)
  filters_turned p q [] = refl
  filters_turned p q (x ∷ xs) =
      elim (p x) as (λ b. p x ≡ b → filter p (filter q (x ∷ xs)) ≡ filter q (cond b (x ∷ filter p xs) (filter p xs))) [
        | true ↦ λ t. elim (q x) as (λ b. filter p (cond b (x ∷ filter q xs) (filter q xs)) ≡ cond b (x ∷ filter q (filter p xs)) (filter q (filter p xs))) [
          | true ↦ filter_passed p x (filter q xs) t ∙ ap (λ ys. x ∷ ys) (filters_turned p q xs)
          | false ↦ filters_turned p q xs
        ]
        | false ↦ λ f. elim (q x) as (λ b. filter p (cond b (x ∷ filter q xs) (filter q xs)) ≡ filter q (filter p xs)) [
          | true ↦ filter_failed p x (filter q xs) f ∙ filters_turned p q xs
          | false ↦ filters_turned p q xs
        ]
      ] refl

  -- what holds of each holds of each that is kept
  pub all_filtered : (P : A → Type 0) (p : A → Bool) (xs : List A) → AllByRecursion P xs → AllByRecursion P (filter p xs)
  all_filtered P p [] each = tt
  all_filtered P p (x ∷ xs) each =
      elim (p x) as (λ b. AllByRecursion P (cond b (x ∷ filter p xs) (filter p xs))) [
        | true ↦ (each.0, all_filtered P p xs each.1)
        | false ↦ all_filtered P p xs each.1
      ]

  -- what holds of each of both lists holds of each of the joined one
  pub all_append : (P : A → Type 0) (xs ys : List A) → AllByRecursion P xs → AllByRecursion P ys → AllByRecursion P (xs ++ ys)
  all_append P [] ys a b = b
  all_append P (x ∷ xs) ys a b = (a.0, all_append P xs ys a.1 b)

-- ---- distinct values

-- is not the same as this
abbrev is_other : Value → Value → Bool
is_other v w = not (is_same v w)

-- to drop the same as a value first is to drop it last
distinct_filtered : (v : Value) (xs : List Value) → distinct_values (filter (is_other v) xs) ≡ filter (is_other v) (distinct_values xs)
distinct_filtered v [] = refl
distinct_filtered v (x ∷ xs) =
    let rest = distinct_filtered v xs in
    let here = filter (is_other x) (distinct_values xs) in
    elim (is_same v x) as (λ b. is_same v x ≡ b → distinct_values (cond (not b) (x ∷ filter (is_other v) xs) (filter (is_other v) xs)) ≡ cond (not b) (x ∷ filter (is_other v) here) (filter (is_other v) here)) [
      | true ↦ λ t.
          rest ∙ sym (filter_again (is_other v) (distinct_values xs))
          ∙ ap (filter (is_other v)) (filter_alike (is_other v) (is_other x) (λ w. ap not (same-congr v x w t)) (distinct_values xs))
      | false ↦ λ f. ap (λ ys. x ∷ filter (is_other x) ys) rest ∙ ap (λ ys. x ∷ ys) (filters_turned (is_other x) (is_other v) (distinct_values xs))
    ] refl

-- distinct values are their own distinct values
pub distinct-distinct : (vs : List Value) → distinct_values (distinct_values vs) ≡ distinct_values vs
distinct-distinct [] = refl
distinct-distinct (v ∷ vs) =
    ap (λ ys. v ∷ filter (is_other v) ys) (distinct_filtered v (distinct_values vs) ∙ ap (filter (is_other v)) (distinct-distinct vs))
    ∙ ap (λ ys. v ∷ ys) (filter_again (is_other v) (distinct_values vs))

-- what holds of each value holds of each distinct one
pub distinct-all : (P : Value → Type 0) (vs : List Value) → AllByRecursion P vs → AllByRecursion P (distinct_values vs)
distinct-all P [] each = tt
distinct-all P (v ∷ vs) each = (each.0, all_filtered P (is_other v) (distinct_values vs) (distinct-all P vs each.1))

-- ---- what each tag holds

-- the order of tags ties only those that are equal
pub tags_tied : (tag q : List ℕ) → is_eq (bytes_cmp q tag) ≡ bytes_eq tag q
tags_tied tag q = is_eq-slice_cmp q tag ∙ nat_list_eq_equiv.symm q tag

-- an entry that is made for each element is found at each tag that is named
find_named : (f : List ℕ → Held) (es : List Element) (tag : List ℕ) → fin.find bytes_cmp tag (map (λ e. (e.tag, f e.tag)) es) ≡ cond (list_any (λ e. bytes_eq e.tag tag) es) (Some (f tag)) None
find_named f [] tag = refl
find_named f (e ∷ es) tag =
    ap (λ b. cond b (Some (f e.tag)) (fin.find bytes_cmp tag (map (λ x. (x.tag, f x.tag)) es))) (tags_tied e.tag tag)
    ∙ elim (bytes_eq e.tag tag) as (λ b. bytes_eq e.tag tag ≡ b → cond b (Some (f e.tag)) (fin.find bytes_cmp tag (map (λ x. (x.tag, f x.tag)) es)) ≡ cond (b || list_any (λ x. bytes_eq x.tag tag) es) (Some (f tag)) None) [
      | true ↦ λ t. ap (λ q. Some (f q)) (bytes_same e.tag tag t)
      | false ↦ λ n. find_named f es tag
    ] refl

-- a tag that is named holds all its values, each once
pub get-attributes_of : (es : List Element) (tag : List ℕ) → fin.get (attributes_of es) tag ≡ (if list_any (λ e. bytes_eq e.tag tag) es then Some (held_of (distinct_values (values_named tag es))) else None)
get-attributes_of es tag =
    fin.get-from_entries nat_list_cmp_total (map (λ e. (e.tag, held_of (distinct_values (values_named e.tag es)))) es) tag
    ∙ find_named (λ q. held_of (distinct_values (values_named q es))) es tag

-- ---- which attributes they are

-- what holds of the values of each element holds of those of a tag
pub named-all : (P : Value → Type 0) (tag : List ℕ) (es : List Element) → AllByRecursion (λ e. AllByRecursion P e.values) es → AllByRecursion P (values_named tag es)
named-all P tag [] each = tt
named-all P tag (e ∷ es) each =
    all_append P (cond (bytes_eq e.tag tag) e.values []) (values_named tag es)
    (elim (bytes_eq e.tag tag) as (λ b. AllByRecursion P (cond b e.values [])) [ true ↦ each.0 | false ↦ tt ])
    (named-all P tag es each.1)

-- values that stand each once are held
pub held_of-kinds : (vs : List Value) → AllByRecursion IsValue vs → distinct_values vs ≡ vs → IsHeld (held_of vs)
held_of-kinds [] each once = tt
held_of-kinds (v ∷ vs) each once = (λ e. cc, each, once)

-- what is put into entries is one of them
all_put : (P : List ℕ → Held → Type 0) (k : List ℕ) (v : Held) (ps : List (List ℕ × Held)) → P k v → AllByRecursion (λ p. P p.0 p.1) ps → AllByRecursion (λ p. P p.0 p.1) (fin.put bytes_cmp k v ps)
all_put P k v [] is each = (is, tt)
all_put P k v (p ∷ ps) is each =
    elim (bytes_cmp k p.0) as (λ r. bytes_cmp k p.0 ≡ r → AllByRecursion (λ x. P x.0 x.1) (fin.Entries.by_order r ((k, v) ∷ p ∷ ps) ((p.0, v) ∷ ps) (p ∷ fin.put bytes_cmp k v ps))) [
      | Less ↦ λ h. (is, each)
      | Equal ↦ λ h. (subst (λ q. P q v) (exact_bytes k p.0 h) is, each.1)
      | Greater ↦ λ h. (each.0, all_put P k v ps is each.1)
    ] refl

-- attributes with one more are attributes
pub kinds-insert : (a : Attributes) (tag : List ℕ) (held : Held) → IsAttribute tag held → AreAttributes a → AreAttributes (fin.insert a tag held)
kinds-insert a tag held is each =
    subst (AllByRecursion (λ p. IsAttribute p.0 p.1)) (sym (fin.entries-insert nat_list_cmp_total a tag held)) (all_put IsAttribute tag held (fin.entries a) is each)

-- a list of no length is empty
no_length : {A : Type 0} (xs : List A) → length xs ≡ 0 → xs ≡ []
no_length [] e = refl
no_length (x ∷ xs) e = absurd (omega arith)

-- the empty map has no entries
pub no_entries : fin.entries (fin.empty {X = Held} {R = bytes_cmp}) ≡ []
no_entries = no_length (fin.entries fin.empty) (sym (fin.len-entries fin.empty) ∙ fin.len-empty bytes_cmp Held)

-- entries that are attributes make attributes
kinds_gathered : (f : List ℕ → Held) (es : List Element) → AllByRecursion (λ e. IsAttribute e.tag (f e.tag)) es → AreAttributes (fin.from_entries (map (λ e. (e.tag, f e.tag)) es))
kinds_gathered f [] each = subst (AllByRecursion (λ p. IsAttribute p.0 p.1)) (sym no_entries) tt
kinds_gathered f (e ∷ es) each = kinds-insert (fin.from_entries (map (λ x. (x.tag, f x.tag)) es)) e.tag (f e.tag) each.0 (kinds_gathered f es each.1)

-- the tag of an element is a text that is not empty and its own key, and its values are values
abbrev pub AreKinds : List Element → Type 0
AreKinds es = AllByRecursion (λ e. IsUtf8 e.tag × (e.tag ≢ []) × (key_of e.tag ≡ e.tag) × AllByRecursion IsValue e.values) es

-- the values alone
kinds_values : (es : List Element) → AreKinds es → AllByRecursion (λ e. AllByRecursion IsValue e.values) es
kinds_values [] each = tt
kinds_values (e ∷ es) each = (each.0.3, kinds_values es each.1)

-- what a tag is given is held
pub held_named : (tag : List ℕ) (es : List Element) → AllByRecursion (λ e. AllByRecursion IsValue e.values) es → IsHeld (held_of (distinct_values (values_named tag es)))
held_named tag es each =
    let vs = values_named tag es in
    held_of-kinds (distinct_values vs) (distinct-all IsValue vs (named-all IsValue tag es each)) (distinct-distinct vs)

-- entries that hold something at each tag are attributes
kinds_held : (f : List ℕ → Held) → ((tag : List ℕ) → IsHeld (f tag)) → (es : List Element) → AreKinds es → AllByRecursion (λ e. IsAttribute e.tag (f e.tag)) es
kinds_held f holds [] each = tt
kinds_held f holds (e ∷ es) each =
    (record { utf8 = each.0.0; is_some = each.0.1; is_own_key = each.0.2; holds = holds e.tag }, kinds_held f holds es each.1)

-- what elements give tags are attributes
pub attributes_of-kinds : (es : List Element) → AreKinds es → AreAttributes (attributes_of es)
attributes_of-kinds es each =
    let f = λ (tag : List ℕ). held_of (distinct_values (values_named tag es)) in
    kinds_gathered f es (kinds_held f (λ tag. held_named tag es (kinds_values es each)) es each)
