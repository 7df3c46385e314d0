-- Replies, as they are read and as they are spelled (RFC 2608, section 7).
use Rattle.std.proofs.Common.{◌≡◌, ℕ, ◌<◌, true, false, eqb, List, [], ◌++◌, length, Ok, refl, sym, ap, subst, ◌∙◌, arith, lit<, inl, inr}
use Rattle.std.proofs.lemmas.Bool.{eqb-true, eqb-false, ne_eqb, eq-eqb}
use Rattle.std.proofs.lemmas.List.{length-append, append-nil}
use Rattle.byteorder.specs.Endian.{big_bytes}
use Rattle.slp_messages.specs.Fields.{Values, IsRefusal}
use Rattle.slp_messages.specs.Layouts.{Layout, FitsLayout, ReplyBody, Found, Refused}
use Rattle.slp_messages.specs.declared.kind.Kind.{Kind}
use Rattle.slp_fields.specs.Reading.{number_at, layout_at}
use Rattle.slp_fields.specs.Spelling.{SpellsValues}
use Rattle.slp_bodies.specs.Replies.{IsRest, SpellsReply, reply_bytes, rest_at, reply_at}
use Rattle.slp_wire.proofs.Layouts.{IsLawful, laid_takes, laid_again}
use Rattle.slp_wire.proofs.Numbers.{number_takes, number_again}
use Rattle.slp_wire.proofs.Steps.{IsBytes, Takes, joined, bind_ok, chosen, from_ok}
use Rattle.slp_wire.proofs.Values.{skipped_takes, skipped_again, values_are_spelled}

-- ---- what stands after a code that is not 0

rest_takes : (kinds : List Kind) (tail : ℕ) (bytes rest : List ℕ) → IsBytes bytes → rest_at kinds tail bytes ≡ Ok rest → (text : List ℕ) × Takes bytes text rest × IsRest kinds text
unfolding rest_at
rest_takes kinds tail bytes rest fits e =
    let Read : List ℕ → Type 0 = λ (r : List ℕ). (text : List ℕ) × Takes bytes text r × IsRest kinds text in
    elim (chosen (eqb (length bytes) tail) _ _ (Ok rest) e) [
      | inl none ↦ from_ok Read bytes rest none.1 ([], record { parts = refl; rest_fits = fits }, inl refl)
      | inr some ↦
          let t = skipped_takes kinds bytes rest fits some.1 in
          (t.1.text, t.1.takes, inr (t.0, t.1.fit, t.1.spells))
    ]

rest_again : (kinds : List Kind) → ((text : List ℕ) (values : Values kinds) → SpellsValues kinds text values → 0 < length text)
    → (tail : ℕ) (text rest : List ℕ) → tail ≡ length rest → IsRest kinds text → rest_at kinds tail (text ++ rest) ≡ Ok rest
unfolding rest_at
rest_again kinds nonempty tail text rest size after =
    elim after [
      | inl none ↦
          let here : text ++ rest ≡ rest = ap (λ (y : List ℕ). y ++ rest) none in
          let ends : eqb (length rest) tail ≡ true = eq-eqb (length rest) tail (omega arith) in
          ap (rest_at kinds tail) here ∙ rw ends refl
      | inr some ↦
          let long : 0 < length text = nonempty text some.0 some.2 in
          let more : eqb (length (text ++ rest)) tail ≡ false = ne_eqb (length (text ++ rest)) tail (λ (e : length (text ++ rest) ≡ tail). absurd (omega (arith, length-append text rest))) in
          rw (more, skipped_again kinds text rest some.0 some.2 some.1) refl
    ]

-- ---- whole replies

pub reply_takes : {A B : Type 0} (layout : Layout A) (found : A → B) (refused : ℕ → B) (Good : List ℕ → B → Type 0) → IsLawful layout
    → ((text : List ℕ) (a : A) → SpellsReply layout text (Found a) → FitsLayout layout a → Good text (found a))
    → ((text : List ℕ) (code : ℕ) → SpellsReply layout text (Refused code) → IsRefusal code → Good text (refused code))
    → (tail : ℕ) (bytes : List ℕ) (b : B) (rest : List ℕ) → IsBytes bytes → reply_at layout found refused tail bytes ≡ Ok (b, rest) → (text : List ℕ) × Takes bytes text rest × Good text b
reply_takes {B = B} layout found refused Good lawful if_found if_refused tail bytes b rest fits h =
    let Read : B × List ℕ → Type 0 = λ (p : B × List ℕ). (text : List ℕ) × Takes bytes text p.1 × Good text p.0 in
    let n = bind_ok (number_at bytes) _ (b, rest) h in
    let t = number_takes bytes n.0.0 n.0.1 fits n.1 in
    elim (chosen (eqb n.0.0 0) _ _ (Ok (b, rest)) n.2) [
      | inl none ↦
          let a = bind_ok (layout_at layout n.0.1) _ (b, rest) none.1 in
          let u = laid_takes layout lawful n.0.1 a.0.0 a.0.1 t.0.rest_fits a.1 in
          let front : Takes bytes (big_bytes 2 0) n.0.1 = subst (λ (k : ℕ). Takes bytes (big_bytes 2 k) n.0.1) (eqb-true _ _ none.0) t.0 in
          from_ok Read (found a.0.0, a.0.1) (b, rest) a.2 (big_bytes 2 0 ++ u.0, joined front u.1, if_found (big_bytes 2 0 ++ u.0) a.0.0 (u.0, refl, u.2) u.3)
      | inr some ↦
          let a = bind_ok (rest_at layout.kinds tail n.0.1) _ (b, rest) some.1 in
          let u = rest_takes layout.kinds tail n.0.1 a.0 t.0.rest_fits a.1 in
          let nonzero : n.0.0 ≡ 0 → ⊥ = eqb-false _ _ some.0 in
          let sound : IsRefusal n.0.0 = record { nonzero = omega (arith, nonzero); short = t.1 } in
          from_ok Read (refused n.0.0, a.0) (b, rest) a.2 (big_bytes 2 n.0.0 ++ u.0, joined t.0 u.1, if_refused (big_bytes 2 n.0.0 ++ u.0) n.0.0 (u.0, refl, u.2) sound)
    ]

pub found_again : {A B : Type 0} (layout : Layout A) (found : A → B) (refused : ℕ → B) → IsLawful layout → (tail : ℕ) (text : List ℕ) (a : A) (rest : List ℕ)
    → SpellsReply layout text (Found a) → FitsLayout layout a → reply_at layout found refused tail (text ++ rest) ≡ Ok (found a, rest)
found_again layout found refused lawful tail text a rest spells sound =
    ap (λ (y : List ℕ). reply_at layout found refused tail (y ++ rest)) spells.1
    ∙ rw (number_again 0 (spells.0 ++ rest) (lit< tt), laid_again layout lawful spells.0 a rest spells.2 sound) refl

pub refused_again : {A B : Type 0} (layout : Layout A) (found : A → B) (refused : ℕ → B) → IsLawful layout → (tail : ℕ) (text : List ℕ) (code : ℕ) (rest : List ℕ) → tail ≡ length rest
    → SpellsReply layout text (Refused code) → IsRefusal code → reply_at layout found refused tail (text ++ rest) ≡ Ok (refused code, rest)
refused_again layout found refused lawful tail text code rest size spells sound =
    let nonzero : eqb code 0 ≡ false = ne_eqb code 0 (λ (e : code ≡ 0). absurd (omega (arith, sound.nonzero))) in
    ap (λ (y : List ℕ). reply_at layout found refused tail (y ++ rest)) spells.1
    ∙ rw (number_again code (spells.0 ++ rest) sound.short, nonzero, rest_again layout.kinds lawful.some tail spells.0 rest size spells.2) refl

-- ---- what is written is spelled

pub reply_is_spelled : {A : Type 0} (layout : Layout A) (reply : ReplyBody A) → SpellsReply layout (reply_bytes layout reply) reply
reply_is_spelled layout (Found a) = (_, refl, values_are_spelled layout.kinds (layout.held a))
reply_is_spelled layout (Refused code) = ([], sym (append-nil (big_bytes 2 code)), inl refl)
