-- Which values are kept, one after the other, where what they have in common is lent.
use Rattle.std.proofs.Common.{◌≡◌, Bool, true, false, cond, List, [], ◌∷◌, ◌++◌, refl, sym, ap₂, ◌∙◌}
use Rattle.std.specs.Cmp.Lexicographic.{texts_ties}
use Rattle.std.specs.List.{list_any}
use Rattle.std.specs.Ordering.{is_eq}
use Rattle.std.specs.declared.cmp.Ordering.{Ordering}
use Rattle.std.proofs.lemmas.List.Folds.{list_any-append}
use Rattle.attr_values.specs.declared.value.Value.{Value}
use Rattle.attr_list.proofs.DistinctValues.{either, is_equal, same-common}
use Rattle.attr_union.specs.Unions.{identity_value, IsIdentity}
use Rattle.attr_list.specs.Lists.{is_same}
use Rattle.attr_union.specs.declared.distinct.Identity.{Identity}
use Rattle.attr_union.specs.declared.distinct.Identity.TheVariants as identity
use Rattle.attr_union.specs.contracts.distinct.IdentityOrd.TheImpl as identity_ord

-- the derived order
abbrev pub identity_cmp : Identity → Identity → Ordering
identity_cmp = (identity_ord.ghosts).cmp

order_ties : (i j : Identity) → is_eq (identity_cmp i j) ≡ is_equal (identity_value i) (identity_value j)
order_ties (identity.Bool true) (identity.Bool true) = refl
order_ties (identity.Bool true) (identity.Bool false) = refl
order_ties (identity.Bool false) (identity.Bool true) = refl
order_ties (identity.Bool false) (identity.Bool false) = refl
order_ties (identity.Int a) (identity.Int b) = refl
order_ties (identity.Opaque a) (identity.Opaque b) = sym (texts_ties a.now b.now)
order_ties (identity.Text a) (identity.Text b) = sym (texts_ties a b)
order_ties _ _ = refl

-- identities tie where their values are the same
identity_ties : (i j : Identity) (v w : Value) → IsIdentity i v → IsIdentity j w → is_eq (identity_cmp i j) ≡ is_same v w
identity_ties i j v w p q = order_ties i j ∙ ap₂ is_equal p q ∙ sym (same-common v w)

-- what is the same as one of some values, or as one more
pub seen-more : (done : List Value) (v w : Value) (i j : Identity) (before after : Bool) → IsIdentity i v → IsIdentity j w → before ≡ list_any (λ u. is_same u w) done
    → after ≡ cond (is_eq (identity_cmp i j)) true before → after ≡ list_any (λ u. is_same u w) (done ++ v ∷ [])
seen-more done v w i j before after p q h e =
    e ∙ ap₂ (λ b a. cond b true a) (identity_ties i j v w p q) h ∙ either (list_any (λ u. is_same u w) done) (is_same v w) ∙ sym (list_any-append (λ u. is_same u w) done (v ∷ []))
