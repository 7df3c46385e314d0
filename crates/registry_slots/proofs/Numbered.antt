-- Slots stay numbered by which entries are alike.
use Rattle.std.proofs.Common.{◌≡◌, ◌≢◌, ℕ, ◌<◌, true, false, cond, List, length, set, Option, Some, None, sym, ap, subst, ◌∙◌, inl, inr, arith}
use Rattle.std.proofs.lemmas.Bool.{cases_eq}
use Rattle.std.proofs.lemmas.List.{get_or-set_same, get_or-set_other, length-set}
use Rattle.std.proofs.lemmas.Option.{none-some}
use Rattle.std.specs.Prelude.{Bool, IfSome, MatchOption}
use Rattle.registry_core.specs.declared.entry.Entry.{Entry}
use Rattle.registry_core.specs.Entries.{are_alike, if_kept}
use Rattle.registry_core.proofs.Alike.{alike-both, alike-itself}
use Rattle.registry_slots.specs.Numbering.{number_at, AreNumbered, GivesNew}
use Rattle.registry_slots.specs.Slots.{slot_at}
use Rattle.registry_slots.proofs.SlotLists.{one_some, slot_lt}

pub alike-turned : (e f : Entry) → are_alike e f ≡ true → are_alike f e ≡ true
alike-turned e f h = alike-both e f e h (alike-itself e)

-- each entry that is there now is alike to one that was
numbered-alike : (old new : List (Option Entry)) (ns : List ℕ) → ((x : ℕ) (e : Entry) → slot_at new x ≡ Some e → (f : Entry) × (slot_at old x ≡ Some f) × (are_alike f e ≡ true)) → AreNumbered old ns → AreNumbered new ns
numbered-alike old new ns was are = λ x y e f at_x at_y same some.
    let p = was x e at_x in
    let q = was y f at_y in
    alike-both q.0 e f (alike-both p.0 q.0 e (are x y p.0 q.0 p.1 q.1 same some) p.2) q.2

kept_some : (p : Entry → Bool) (o : Option Entry) (e : Entry) → if_kept p o ≡ Some e → o ≡ Some e
kept_some p None e h = h
kept_some p (Some f) e h = elim (p f) as (λ b. cond b (Some f) None ≡ Some e → Some f ≡ Some e) [
  | true ↦ λ k. k
  | false ↦ λ k. absurd (none-some e k)
] h

-- some are left out
pub numbered-kept : (p : Entry → Bool) (old new : List (Option Entry)) (ns : List ℕ) → ((x : ℕ) → slot_at new x ≡ if_kept p (slot_at old x)) → AreNumbered old ns → AreNumbered new ns
numbered-kept p old new ns each = numbered-alike old new ns (λ x e h. (e, kept_some p (slot_at old x) e (sym (each x) ∙ h), alike-itself e))

module _ (slots : List (Option Entry)) (ns : List ℕ) (are : AreNumbered slots ns) (x : ℕ) (within : x < length slots) where
  at_own : (o : Option Entry) (y : ℕ) (f : Entry) → y ≡ x → slot_at (set slots x o) y ≡ Some f → o ≡ Some f
  at_own o y f same h = sym (get_or-set_same slots x o None within) ∙ ap (slot_at (set slots x o)) (sym same) ∙ h

  at_other : (o : Option Entry) (y : ℕ) (f : Entry) → y ≢ x → slot_at (set slots x o) y ≡ Some f → slot_at slots y ≡ Some f
  at_other o y f d h = sym (get_or-set_other slots x y o None d) ∙ h

  pub numbered-clear : AreNumbered (set slots x None) ns
  numbered-clear = numbered-alike slots (set slots x None) ns (λ y e h. elim (cases_eq y x) [
    | inl same ↦ absurd (none-some e (at_own None y e same h))
    | inr d ↦ (e, at_other None y e d h, alike-itself e)
  ]) are

  module _ (e : Entry) where
    -- one alike in the place of another
    pub numbered-renew : (f : Entry) → slot_at slots x ≡ Some f → are_alike f e ≡ true → AreNumbered (set slots x (Some e)) ns
    numbered-renew f there alike = numbered-alike slots (set slots x (Some e)) ns (λ y g h. elim (cases_eq y x) [
      | inl same ↦ (f, ap (slot_at slots) same ∙ there, subst (λ k. are_alike f k ≡ true) (one_some (at_own (Some e) y g same h)) alike)
      | inr d ↦ (g, at_other (Some e) y g d h, alike-itself g)
    ]) are

    -- one whose number others have that are alike, or none
    numbered-set : (n : ℕ) → x < length ns → ((y : ℕ) (h : Entry) → slot_at slots y ≡ Some h → number_at ns y ≡ n → n ≢ 0 → are_alike e h ≡ true) → AreNumbered (set slots x (Some e)) (set ns x n)
    numbered-set n inside those = λ y z g h at_y at_z same some. elim (cases_eq y x) [
      | inl own ↦
          let is : e ≡ g = one_some (at_own (Some e) y g own at_y) in
          let number : number_at (set ns x n) y ≡ n = ap (number_at (set ns x n)) own ∙ get_or-set_same ns x n 0 inside in
          elim (cases_eq z x) [
            | inl too ↦ subst (λ k. are_alike k h ≡ true) is (subst (λ k. are_alike e k ≡ true) (one_some (at_own (Some e) z h too at_z)) (alike-itself e))
            | inr d ↦ subst (λ k. are_alike k h ≡ true) is (those z h (at_other (Some e) z h d at_z) (sym (get_or-set_other ns x z n 0 d) ∙ sym same ∙ number) (λ k. some (number ∙ k)))
          ]
      | inr d ↦
          let number : number_at (set ns x n) y ≡ number_at ns y = get_or-set_other ns x y n 0 d in
          elim (cases_eq z x) [
            | inl own ↦
                let last : number_at ns y ≡ n = sym number ∙ same ∙ ap (number_at (set ns x n)) own ∙ get_or-set_same ns x n 0 inside in
                alike-turned h g (subst (λ k. are_alike k g ≡ true) (one_some (at_own (Some e) z h own at_z)) (those y g (at_other (Some e) y g d at_y) last (λ k. some (number ∙ last ∙ k))))
            | inr apart ↦ are y z g h (at_other (Some e) y g d at_y) (at_other (Some e) z h apart at_z) (sym number ∙ same ∙ get_or-set_other ns x z n 0 apart) (λ k. some (number ∙ k))
          ]
    ]

    numbered-join : (y : ℕ) (f : Entry) → x < length ns → slot_at slots y ≡ Some f → are_alike e f ≡ true → AreNumbered (set slots x (Some e)) (set ns x (number_at ns y))
    numbered-join y f inside there alike = numbered-set (number_at ns y) inside (λ z h at_z same some. alike-both f e h (alike-turned e f alike) (are y z f h there at_z (sym same) some))

    numbered-part : (new : List ℕ) → x < length ns → GivesNew ns new x → AreNumbered (set slots x (Some e)) new
    numbered-part new inside given = subst (AreNumbered (set slots x (Some e))) (sym given.1) (numbered-set given.0 inside (λ z h at_z same some. absurd (some (given.2 z same))))

    -- one that gets the number of a slot whose entry is alike, or a new one
    pub numbered-give : (like : Option ℕ) (new : List ℕ) → x < length ns → IfSome like (λ y. (f : Entry) × (slot_at slots y ≡ Some f) × (are_alike e f ≡ true))
        → MatchOption like (GivesNew ns new x) (λ y. new ≡ set ns x (number_at ns y)) → AreNumbered (set slots x (Some e)) new
    numbered-give None new inside there given = numbered-part new inside given
    numbered-give (Some y) new inside there given = subst (AreNumbered (set slots x (Some e))) (sym given) (numbered-join y there.0 inside there.1 there.2)

pub length-give : (like : Option ℕ) (ns new : List ℕ) (x : ℕ) → MatchOption like (GivesNew ns new x) (λ y. new ≡ set ns x (number_at ns y)) → length new ≡ length ns
length-give None ns new x given = ap length given.1 ∙ length-set ns x given.0
length-give (Some y) ns new x given = ap length given ∙ length-set ns x (number_at ns y)

-- a slot with an entry is within as many numbers
pub like-within : (slots : List (Option Entry)) (ns : List ℕ) (e : Entry) (like : Option ℕ) → length ns ≡ length slots → IfSome like (λ y. (f : Entry) × (slot_at slots y ≡ Some f) × (are_alike e f ≡ true)) → IfSome like (λ y. y < length ns)
like-within slots ns e None same there = tt
like-within slots ns e (Some y) same there = let within = slot_lt slots y there.0 there.1 in omega (arith, same, within)
