-- Values and their text, where some suffice.
use Rattle.std.proofs.Common.{◌≡◌, ℕ, suc, ◌<◌, ◌≤◌, List, [], ◌∷◌, ◌++◌, length, map, refl, ap, ◌∙◌, arith, inl, inr}
use Rattle.std.specs.Prelude.{Bool, filter, not}
use Rattle.std.proofs.lemmas.List.{length-append, length-map}
use Rattle.std.proofs.lemmas.List.Elements.{filter-append}
use Rattle.slp_text.specs.Ascii.{comma, equals_sign, left_parenthesis, right_parenthesis}
use Rattle.slp_text.specs.Lists.{comma_list}
use Rattle.attr_values.specs.Values.{value_text}
use Rattle.attr_values.specs.declared.value.Value.{Value}
use Rattle.attr_list.specs.Lists.{distinct_values, is_same}
use Rattle.attr_list.specs.Texts.{attribute_text, tag_text}
use Rattle.attr_list.specs.declared.held.Held.TheVariants as held
use Rattle.attr_union.specs.Rooms.{AreFirstDistinct, IsWrittenWithin}

-- those of a front come first
pub distinct-front : (vs ws : List Value) → (more : List Value) × (distinct_values (vs ++ ws) ≡ distinct_values vs ++ more)
distinct-front [] ws = (distinct_values ws, refl)
distinct-front (v ∷ vs) ws =
    let rest = distinct-front vs ws in
    let p : Value → Bool = λ w. not (is_same v w) in
    (filter p rest.0, ap (λ xs. v ∷ filter p xs) rest.1 ∙ ap (λ xs. v ∷ xs) (filter-append p (distinct_values vs) rest.0))

-- a list is as long as its commas
commas : (ts : List (List ℕ)) → length ts ≤ suc (length (comma_list ts))
commas [] = omega arith
commas (t ∷ []) = omega arith
commas (t ∷ u ∷ ts) = let more = commas (u ∷ ts) in let sum = length-append t (comma ∷ comma_list (u ∷ ts)) in omega (arith, more, sum)

between-signs : (t l : List ℕ) (a b c : ℕ) → suc (length l) < length (a ∷ t ++ b ∷ l ++ c ∷ [])
between-signs t l a b c =
    let first = length-append (t ++ b ∷ l) (c ∷ []) in
    let then = length-append t (b ∷ l) in
    omega (arith, first, then)

long-text : (tag : List ℕ) (vs : List Value) → length vs ≤ length (attribute_text tag (held.Values vs))
long-text tag vs =
    let list = comma_list (map value_text vs) in
    let those = commas (map value_text vs) in
    let as_many = length-map vs value_text in
    let long : suc (length list) < length (attribute_text tag (held.Values vs)) = between-signs (tag_text tag) list left_parenthesis equals_sign right_parenthesis in
    omega (arith, those, as_many, long)

pub written-within : (room : ℕ) (old new tag : List ℕ) (vs first : List Value) → AreFirstDistinct room vs first → new ≡ old ++ attribute_text tag (held.Values first)
    → IsWrittenWithin room old (attribute_text tag (held.Values (distinct_values vs))) new
written-within room old new tag vs first (inl all) is = inl (is ∙ ap (λ xs. old ++ attribute_text tag (held.Values xs)) all)
written-within room old new tag vs first (inr some) is =
    let longer = ap length some.1 ∙ length-append first some.0 in
    let those = long-text tag (distinct_values vs) in
    let these = long-text tag first in
    let now = ap length is ∙ length-append old (attribute_text tag (held.Values first)) in
    let whole = length-append old (attribute_text tag (held.Values (distinct_values vs))) in
    inr (attribute_text tag (held.Values first), is, omega (arith, some.2, these, now), omega (arith, some.2, longer, those, whole))
