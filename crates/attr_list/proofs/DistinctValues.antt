-- Which values are kept, one after the other.
use Rattle.std.proofs.Common.{◌≡◌, Bool, true, false, cond, List, [], ◌∷◌, ◌++◌, refl, sym, ap, ap₂, ◌∙◌}
use Rattle.std.specs.Prelude.{filter, not, ◌&&◌, ◌||◌, vec_items}
use Rattle.std.specs.Cmp.Lexicographic.{texts_ties}
use Rattle.std.specs.List.{list_any}
use Rattle.std.specs.Ordering.{int_eq, is_eq}
use Rattle.std.specs.declared.cmp.Ordering.{Ordering}
use Rattle.std.proofs.lemmas.List.Elements.{filter-append}
use Rattle.std.proofs.lemmas.List.Folds.{list_any-append}
use Rattle.slp_text.specs.Words.{bytes_eq}
use Rattle.attr_values.specs.declared.value.Value.{Value}
use Rattle.attr_values.specs.declared.value.Value.TheVariants as value
use Rattle.attr_list.specs.Gathering.{common_value, identity_value, IsIdentity}
use Rattle.attr_list.specs.Lists.{distinct_values, is_same}
use Rattle.attr_list.specs.declared.distinct.Identity.{Identity}
use Rattle.attr_list.specs.declared.distinct.Identity.TheVariants as identity
use Rattle.attr_list.specs.contracts.distinct.IdentityOrd.TheImpl as identity_ord

-- the derived order
abbrev pub identity_cmp : Identity → Identity → Ordering
identity_cmp = (identity_ord.ghosts).cmp

-- the same, texts by what they are
abbrev pub is_equal : Value → Value → Bool
is_equal (value.Bool a) (value.Bool b) = (a && b) || not (a || b)
is_equal (value.Int a) (value.Int b) = int_eq a b
is_equal (value.Opaque a) (value.Opaque b) = bytes_eq a b
is_equal (value.Text a) (value.Text b) = bytes_eq a b
is_equal _ _ = false

pub same-common : (v w : Value) → is_same v w ≡ is_equal (common_value v) (common_value w)
same-common (value.Bool a) (value.Bool b) = refl
same-common (value.Int a) (value.Int b) = refl
same-common (value.Opaque a) (value.Opaque b) = refl
same-common (value.Text a) (value.Text b) = refl
same-common _ _ = refl

order_ties : (i j : Identity) → is_eq (identity_cmp i j) ≡ is_equal (identity_value i) (identity_value j)
order_ties (identity.Bool true) (identity.Bool true) = refl
order_ties (identity.Bool true) (identity.Bool false) = refl
order_ties (identity.Bool false) (identity.Bool true) = refl
order_ties (identity.Bool false) (identity.Bool false) = refl
order_ties (identity.Int a) (identity.Int b) = refl
order_ties (identity.Opaque a) (identity.Opaque b) = sym (texts_ties (vec_items a) (vec_items b))
order_ties (identity.Text a) (identity.Text b) = sym (texts_ties a b)
order_ties _ _ = refl

-- identities tie where their values are the same
pub identity_ties : (i j : Identity) (v w : Value) → IsIdentity i v → IsIdentity j w → is_eq (identity_cmp i j) ≡ is_same v w
identity_ties i j v w p q = order_ties i j ∙ ap₂ is_equal p q ∙ sym (same-common v w)

pub either : (a b : Bool) → cond b true a ≡ (a || (b || false))
either true true = refl
either true false = refl
either false true = refl
either false false = refl

-- what is the same as one of some values, or as one more
pub seen-more : (done : List Value) (v w : Value) (i j : Identity) (before after : Bool) → IsIdentity i v → IsIdentity j w → before ≡ list_any (λ u. is_same u w) done
    → after ≡ cond (is_eq (identity_cmp i j)) true before → after ≡ list_any (λ u. is_same u w) (done ++ v ∷ [])
seen-more done v w i j before after p q h e =
    e ∙ ap₂ (λ b a. cond b true a) (identity_ties i j v w p q) h ∙ either (list_any (λ u. is_same u w) done) (is_same v w) ∙ sym (list_any-append (λ u. is_same u w) done (v ∷ []))

-- a value more is kept where none before is the same
pub distinct-more : (done : List Value) (v : Value) → distinct_values (done ++ v ∷ []) ≡ cond (list_any (λ u. is_same u v) done) (distinct_values done) (distinct_values done ++ v ∷ [])
distinct-more [] v = refl
distinct-more (d ∷ done) v =
    let p = λ (w : Value). not (is_same d w) in
    ap (λ vs. d ∷ filter p vs) (distinct-more done v)
    ∙ elim (list_any (λ u. is_same u v) done) as (λ b. d ∷ filter p (cond b (distinct_values done) (distinct_values done ++ v ∷ [])) ≡ cond (is_same d v || b) (d ∷ filter p (distinct_values done)) (d ∷ (filter p (distinct_values done) ++ v ∷ []))) [
      | true ↦ elim (is_same d v) as (λ a. d ∷ filter p (distinct_values done) ≡ cond (a || true) (d ∷ filter p (distinct_values done)) (d ∷ (filter p (distinct_values done) ++ v ∷ []))) [ true ↦ refl | false ↦ refl ]
      | false ↦ ap (λ vs. d ∷ vs) (filter-append p (distinct_values done) (v ∷ [])) ∙ last_one d v (filter p (distinct_values done))
    ]
  where
    nothing-more : {A : Type 0} (xs : List A) → xs ++ [] ≡ xs
    nothing-more [] = refl
    nothing-more (x ∷ xs) = ap (λ t. x ∷ t) (nothing-more xs)

    last_one : (d v : Value) (vs : List Value) → d ∷ (vs ++ filter (λ w. not (is_same d w)) (v ∷ [])) ≡ cond (is_same d v || false) (d ∷ vs) (d ∷ (vs ++ v ∷ []))
    last_one d v vs = elim (is_same d v) as (λ a. d ∷ (vs ++ cond (not a) (v ∷ []) []) ≡ cond (a || false) (d ∷ vs) (d ∷ (vs ++ v ∷ []))) [ true ↦ ap (λ t. d ∷ t) (nothing-more vs) | false ↦ refl ]

-- what is kept with one more, where it is told whether it is new
pub kept-more : (done kept after : List Value) (v : Value) (is_new before : Bool) → kept ≡ distinct_values done → before ≡ list_any (λ u. is_same u v) done → is_new ≡ not before
    → after ≡ cond is_new (kept ++ v ∷ []) kept → after ≡ distinct_values (done ++ v ∷ [])
kept-more done kept after v is_new before k b n e =
    e ∙ ap₂ (λ t vs. cond t (vs ++ v ∷ []) vs) (n ∙ ap not b) k ∙ turned (list_any (λ u. is_same u v) done) (distinct_values done ++ v ∷ []) (distinct_values done) ∙ sym (distinct-more done v)
  where
    turned : {A : Type 0} (b : Bool) (x y : A) → cond (not b) x y ≡ cond b y x
    turned true x y = refl
    turned false x y = refl
