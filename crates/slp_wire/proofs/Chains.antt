-- Extensions, as they are read and as they are spelled (RFC 2608, section 9.1).
use Rattle.std.proofs.Common.{◌≡◌, ℕ, zero, suc, ◌+◌, ◌-◌, ◌^◌, ◌<◌, ◌≤◌, Bool, true, false, cond, eqb, ltb, List, [], ◌∷◌, ◌++◌, length, take, drop, Option, Some, None, Result, Ok, Err, refl, sym, ap, ◌∙◌, arith, inl, inr}
use Rattle.std.specs.Prelude.{◌||◌, not, IsTrue}
use Rattle.std.specs.List.{AllByRecursion}
use Rattle.std.proofs.lemmas.Bool.{eqb-true, ne_eqb, ltb-false, le-ltb, or_parts}
use Rattle.std.proofs.lemmas.List.{length-append, length-drop, length-take, take-append-drop, drop_at, drop-drop}
use Rattle.byteorder.specs.Endian.{big_bytes, big_number}
use Rattle.slp_wire.specs.Extensions.{Extension, IsSkipped, is_required, end_of, chain_bytes, next_at, extensions_at}
use Rattle.slp_fields.specs.declared.fault.WireFault.{WireFault}
use Rattle.slp_fields.specs.declared.fault.WireFault.TheVariants.{Parse}
use Rattle.slp_fields.specs.declared.fault.WireFault.TheVariants as fault
use Rattle.slp_wire.proofs.Numbers.{two_back, three_back, two_again, three_again, two_fits}
use Rattle.slp_wire.proofs.Steps.{IsBytes, IsBytes-drop, bind_ok, unless_ok, chosen, ok_is}

-- ---- what is spelled is read

not-true : (b : Bool) → IsTrue (not b) → b ≡ false
not-true true h = cc
not-true false h = refl

-- an extension has its five bytes
chain_long : (at : ℕ) (x : Extension) (xs : List Extension) → 5 ≤ length (chain_bytes at (x ∷ xs))
chain_long at x [] = omega arith
chain_long at x (y ∷ xs) = omega arith

-- the tests of an extension, and what comes of them
abbrev next_by : Bool → Bool → Bool → Bool → ℕ → Result (Option ℕ) WireFault
next_by short required last far n = cond short (Err Parse) (cond required (Err fault.Option) (cond last (Ok None) (cond far (Err Parse) (Ok (Some n)))))

last_at : (at : ℕ) (x : Extension) → IsSkipped x → next_at at (chain_bytes at (x ∷ [])) ≡ Ok None
last_at at x skipped =
    let bytes = chain_bytes at (x ∷ []) in
    let n = big_number 3 (drop 2 bytes) in
    let far = ltb n (at + 5) || ltb (at + length bytes) (n + 5) in
    let long : ltb (length bytes) 5 ≡ false = le-ltb (length bytes) 5 (chain_long at x []) in
    let id : big_number 2 bytes ≡ x.id = two_again x.id (big_bytes 3 0 ++ x.content) skipped.id in
    let none : n ≡ 0 = three_again 0 x.content (omega arith) in
    let optional : is_required (big_number 2 bytes) ≡ false = ap is_required id ∙ not-true (is_required x.id) skipped.optional in
    let last : eqb n 0 ≡ true = ap (λ (k : ℕ). eqb k 0) none in
    λ i. next_by (long i) (optional i) (last i) far n

more_at : (at : ℕ) (x y : Extension) (xs : List Extension) → IsSkipped x → at + length (chain_bytes at (x ∷ y ∷ xs)) < 2 ^ 24 → next_at at (chain_bytes at (x ∷ y ∷ xs)) ≡ Ok (Some (end_of at x))
more_at at x y xs skipped short =
    let bytes = chain_bytes at (x ∷ y ∷ xs) in
    let rest = chain_bytes (end_of at x) (y ∷ xs) in
    let n = big_number 3 (drop 2 bytes) in
    let size : length bytes ≡ 5 + length x.content + length rest = omega (arith, length-append x.content rest) in
    let after : 5 ≤ length rest = chain_long (end_of at x) y xs in
    let long : ltb (length bytes) 5 ≡ false = le-ltb (length bytes) 5 (omega (arith, size)) in
    let id : big_number 2 bytes ≡ x.id = two_again x.id (big_bytes 3 (end_of at x) ++ x.content ++ rest) skipped.id in
    let next : n ≡ end_of at x = three_again (end_of at x) (x.content ++ rest) (omega (arith, size, after, short)) in
    let optional : is_required (big_number 2 bytes) ≡ false = ap is_required id ∙ not-true (is_required x.id) skipped.optional in
    let some : eqb n 0 ≡ false = ne_eqb n 0 (λ (e : n ≡ 0). absurd (omega (arith, e, next))) in
    let past : ltb n (at + 5) ≡ false = le-ltb n (at + 5) (omega (arith, next)) in
    let room : ltb (at + length bytes) (n + 5) ≡ false = le-ltb (at + length bytes) (n + 5) (omega (arith, size, after, next)) in
    λ i. next_by (long i) (optional i) (some i) (past i || room i) (next i)

after_first : (at : ℕ) (x y : Extension) (xs : List Extension) → drop (end_of at x - at) (chain_bytes at (x ∷ y ∷ xs)) ≡ chain_bytes (end_of at x) (y ∷ xs)
after_first at x y xs =
    let rest = chain_bytes (end_of at x) (y ∷ xs) in
    let front = big_bytes 2 x.id ++ big_bytes 3 (end_of at x) ++ x.content in
    let size : length front ≡ end_of at x - at = omega arith in
    drop_at front rest (end_of at x - at) size

pub chain_again : (most at : ℕ) (x : Extension) (xs : List Extension) → length (chain_bytes at (x ∷ xs)) ≤ most → at + length (chain_bytes at (x ∷ xs)) < 2 ^ 24 → AllByRecursion IsSkipped (x ∷ xs) → extensions_at most at (chain_bytes at (x ∷ xs)) ≡ Ok tt
unfolding extensions_at
chain_again zero at x xs few short skipped = absurd (omega (arith, chain_long at x xs))
chain_again (suc most) at x [] few short skipped = rw (last_at at x skipped.0) refl
chain_again (suc most) at x (y ∷ xs) few short skipped =
    let rest = chain_bytes (end_of at x) (y ∷ xs) in
    let size : length (chain_bytes at (x ∷ y ∷ xs)) ≡ 5 + length x.content + length rest = omega (arith, length-append x.content rest) in
    rw (more_at at x y xs skipped.0 short, after_first at x y xs)
    (chain_again most (end_of at x) y xs (omega (arith, size)) (omega (arith, size, short)) skipped.1)

-- ---- what is read is spelled

-- the numbers in front of an extension, and what follows them
five_split : (bytes : List ℕ) → IsBytes bytes → 5 ≤ length bytes → bytes ≡ big_bytes 2 (big_number 2 bytes) ++ big_bytes 3 (big_number 3 (drop 2 bytes)) ++ drop 5 bytes
five_split (a ∷ b ∷ c ∷ d ∷ e ∷ rest) fits long =
    let one = two_back a b (c ∷ d ∷ e ∷ rest) (fits 0) (fits 1) in
    let two = three_back c d e rest (fits 2) (fits 3) (fits 4) in
    sym (ap (λ (t : List ℕ). t ++ big_bytes 3 (big_number 3 (c ∷ d ∷ e ∷ rest)) ++ rest) one ∙ ap (λ (t : List ℕ). a ∷ b ∷ (t ++ rest)) two)
five_split _ fits long = absurd (omega arith)

not-from : (b : Bool) → b ≡ false → IsTrue (not b)
not-from true h = cc
not-from false h = refl

abbrev offset_result : Option ℕ → Result (Option ℕ) WireFault
offset_result next = Ok next

-- what is known of an extension in front of bytes, where the next begins there
record Front (at : ℕ) (bytes : List ℕ) (next : Option ℕ) : Type 0 where
  long : 5 ≤ length bytes
  optional : is_required (big_number 2 bytes) ≡ false
  last : next ≡ None → big_number 3 (drop 2 bytes) ≡ 0
  more : (n : ℕ) → next ≡ Some n → (big_number 3 (drop 2 bytes) ≡ n) × (at + 5 ≤ n) × (n + 5 ≤ at + length bytes)

some_is : (m n : ℕ) → Some m ≡ Some n → m ≡ n
some_is m n e = cc

none_some : (n : ℕ) → ◌≡◌ {A = Option ℕ} None (Some n) → ⊥
none_some n e = cc

front : (at : ℕ) (bytes : List ℕ) (next : Option ℕ) → next_at at bytes ≡ Ok next → Front at bytes next
front at bytes next e =
    let n = big_number 3 (drop 2 bytes) in
    let far = ltb n (at + 5) || ltb (at + length bytes) (n + 5) in
    let placed : Result (Option ℕ) WireFault = cond far (Err Parse) (Ok (Some n)) in
    let a = unless_ok (ltb (length bytes) 5) Parse (cond (is_required (big_number 2 bytes)) (Err fault.Option) (cond (eqb n 0) (Ok None) placed)) next e in
    let b = unless_ok (is_required (big_number 2 bytes)) fault.Option (cond (eqb n 0) (Ok None) placed) next a.1 in
    elim (chosen (eqb n 0) (offset_result None) placed (Ok next) b.1) [
      | inl is ↦
          let none : None ≡ next = ok_is None next is.1 in
          record {
            long = ltb-false _ _ a.0;
            optional = b.0;
            last = λ _. eqb-true _ _ is.0;
            more = λ k some. absurd (none_some k (none ∙ some));
          }
      | inr is ↦
          let c = unless_ok far Parse (Ok (Some n)) next is.1 in
          let same : Some n ≡ next = ok_is (Some n) next c.1 in
          let both = or_parts (ltb n (at + 5)) (ltb (at + length bytes) (n + 5)) c.0 in
          let past : at + 5 ≤ n = ltb-false _ _ both.0 in
          let room : n + 5 ≤ at + length bytes = ltb-false _ _ both.1 in
          record {
            long = ltb-false _ _ a.0;
            optional = b.0;
            last = λ none. absurd (none_some n (sym none ∙ sym same));
            more = λ k some. let e : n ≡ k = some_is n k (same ∙ some) in (e, omega (arith, e, past), omega (arith, e, room));
          }
    ]

-- these bytes are a chain of extensions
pub record Chain (at : ℕ) (bytes : List ℕ) : Type 0 where
  pub first : Extension
  pub others : List Extension
  pub bytes_are : bytes ≡ chain_bytes at (first ∷ others)
  pub skipped : AllByRecursion IsSkipped (first ∷ others)

skipped_front : (at : ℕ) (bytes content : List ℕ) (next : Option ℕ) → IsBytes bytes → Front at bytes next → IsSkipped (record { id = big_number 2 bytes; content = content })
skipped_front at bytes content next fits f = record { id = two_fits bytes fits; optional = not-from (is_required (big_number 2 bytes)) f.optional }

last_chain : (at : ℕ) (bytes : List ℕ) → IsBytes bytes → Front at bytes None → Chain at bytes
last_chain at bytes fits f =
    let n = big_number 3 (drop 2 bytes) in
    record {
      first = record { id = big_number 2 bytes; content = drop 5 bytes };
      others = [];
      bytes_are = five_split bytes fits f.long ∙ ap (λ (k : ℕ). big_bytes 2 (big_number 2 bytes) ++ big_bytes 3 k ++ drop 5 bytes) (f.last refl);
      skipped = (skipped_front at bytes (drop 5 bytes) None fits f, tt);
    }

more_chain : (at n : ℕ) (bytes : List ℕ) → IsBytes bytes → Front at bytes (Some n) → Chain n (drop (n - at) bytes) → Chain at bytes
more_chain at n bytes fits f c =
    let k = f.more n refl in
    let size = n - at - 5 in
    let content = take size (drop 5 bytes) in
    let x : Extension = record { id = big_number 2 bytes; content = content } in
    let long : length content ≡ size = omega (arith, length-take size (drop 5 bytes), length-drop 5 bytes, k.2) in
    let end : n ≡ end_of at x = omega (arith, long, k.1) in
    let rest : drop size (drop 5 bytes) ≡ drop (n - at) bytes = drop-drop size 5 bytes ∙ ap (λ (j : ℕ). drop j bytes) (let j : 5 + size ≡ n - at = omega (arith, k.1) in j) in
    let tail : drop 5 bytes ≡ content ++ chain_bytes n (c.first ∷ c.others) = sym (take-append-drop size (drop 5 bytes)) ∙ ap (λ (t : List ℕ). content ++ t) (rest ∙ c.bytes_are) in
    let whole : bytes ≡ big_bytes 2 (big_number 2 bytes) ++ big_bytes 3 n ++ content ++ chain_bytes n (c.first ∷ c.others) =
    five_split bytes fits f.long
    ∙ ap (λ (j : ℕ). big_bytes 2 (big_number 2 bytes) ++ big_bytes 3 j ++ drop 5 bytes) k.0
    ∙ ap (λ (t : List ℕ). big_bytes 2 (big_number 2 bytes) ++ big_bytes 3 n ++ t) tail in
    record {
      first = x;
      others = c.first ∷ c.others;
      bytes_are = whole ∙ ap (λ (j : ℕ). big_bytes 2 (big_number 2 bytes) ++ big_bytes 3 j ++ content ++ chain_bytes j (c.first ∷ c.others)) end;
      skipped = (skipped_front at bytes content (Some n) fits f, c.skipped);
    }

pub chain_takes : (most at : ℕ) (bytes : List ℕ) → IsBytes bytes → extensions_at most at bytes ≡ Ok tt → Chain at bytes
unfolding extensions_at
chain_takes zero at bytes fits e = absurd cc
chain_takes (suc most) at bytes fits e =
    let a = bind_ok (next_at at bytes) (λ next. elim next [ None ↦ Ok tt | Some n ↦ extensions_at most n (drop (n - at) bytes) ]) (tt {0}) e in
    elim a.0 as (λ (o : Option ℕ). next_at at bytes ≡ Ok o → ◌≡◌ {A = Result (Unit {0}) WireFault} (elim o [ None ↦ Ok tt | Some n ↦ extensions_at most n (drop (n - at) bytes) ]) (Ok tt) → Chain at bytes) [
      | None ↦ λ here _. last_chain at bytes fits (front at bytes None here)
      | Some n ↦ λ here on. more_chain at n bytes fits (front at bytes (Some n) here) (chain_takes most n (drop (n - at) bytes) (IsBytes-drop (n - at) bytes fits) on)
    ] a.1 a.2
