use Rattle.std.proofs.Common.{◌≡◌, ℕ, ◌<◌, true, false, List, [], ◌∷◌, length, map, refl, sym, ap, subst, ◌∙◌, arith, rules}
use Rattle.std.specs.Prelude.{◌==◌, vec_len}
use Rattle.std.proofs.lemmas.Bool.Decides.{nat_tests}
use mathlib.Core.Bool.{true≢false}
use Rattle.attr_list.specs.Lists.{attributes_of}
use Rattle.attr_list.specs.Pieces.{element_in}
use Rattle.attr_list.specs.Stored.{attributes_stored, AreStored}
use Rattle.attr_list.proofs.JoinedElements.{joined-is, joined-stored, none-joined}
use Rattle.attr_list.proofs.gathering.join.Goals as goal

positive : (n : ℕ) → 0 < n → (n == 0) ≡ false
positive n h = grind (arith, nat_tests)

empty-of : {A : Type 0} (xs : List A) → (length xs == 0) ≡ true → xs ≡ []
empty-of [] h = refl
empty-of (x ∷ xs) h = absurd (true≢false (sym h ∙ positive (length (x ∷ xs)) (omega arith)))

pub of-requires : goal.of-requires
of-requires c = subst AreStored (sym c.new.ensures.items) (record { sorted = tt; each = tt })

pub returns-then-is_empty : goal.returns-then-is_empty
returns-then-is_empty c =
    let count : vec_len c.args.elements ≡ length c.args.elements.items = search rules in
    let empty = empty-of c.args.elements.items (ap (λ n. n == 0) (sym count) ∙ sym c.is_empty.ensures ∙ c.if-is_empty.true) in
    c.of.ensures ∙ ap attributes_stored c.new.ensures.items ∙ none-joined ∙ ap (λ es. attributes_of (map element_in es)) (sym empty)

pub of-requires-2 : goal.of-requires-2
of-requires-2 c =
    joined-stored c.args.elements.items c.in_ok-gathered.gathered.items c.in_ok-entries.entries.items c.requires c.in_ok-gathered.ensures.values c.in_ok-gathered.ensures.rises c.in_ok-entries.ensures

pub returns : goal.returns
returns c =
    c.of-2.ensures ∙ joined-is c.args.elements.items c.in_ok-gathered.gathered.items c.in_ok-entries.entries.items c.requires c.in_ok-gathered.ensures.values c.in_ok-gathered.ensures.rises c.in_ok-entries.ensures
