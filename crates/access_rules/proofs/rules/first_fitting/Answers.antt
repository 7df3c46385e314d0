use Rattle.std.proofs.Common.{◌≡◌, ◌<◌, ◌≤◌, ℕ, suc, Bool, true, false, cond, List, [], ◌∷◌, ◌+◌, drop, drop-cons, add-one, get_or, inl, inr, refl, length, Some, None, sym, ap, ◌∙◌, arith}
use Rattle.std.specs.Prelude.{nat_lt, position, slice_get}
use Rattle.std.specs.List.{position_or_len}
use Rattle.std.proofs.lemmas.Bool.{cases_lt}
use Rattle.std.proofs.lemmas.Bool.Decides.{nat_tests}
use Rattle.std.proofs.lemmas.List.{get_or_default}
use Rattle.std.proofs.lemmas.List.Sums.{position_or_len_is}
use Rattle.std.proofs.lemmas.Option.{slice_get-get_or}
use Rattle.access_rules.specs.Deciding.{deed_in, fits}
use Rattle.access_rules.proofs.rules.first_fitting.Goals as goal

is_less : (n m : ℕ) → n < m → nat_lt n m ≡ true
is_less n m h = grind (arith, nat_tests)

not_less : (n m : ℕ) → m ≤ n → nat_lt n m ≡ false
not_less n m h = grind (arith, nat_tests)

-- the first that passes
found : {A : Type 0} (p : A → Bool) (xs : List A) (i : ℕ) (x : A) → i < length xs → ((k : ℕ) (d : A) → k < i → p (get_or xs k d) ≡ false) → x ≡ get_or xs i x → p x ≡ true → Some i ≡ position p xs
found p xs i x within before is passes =
    let at : position_or_len p xs ≡ i = position_or_len_is p xs i x (omega (arith, within)) (λ k less. before k x less) (λ _. ap p (sym is) ∙ passes) in
    sym (ap (λ n. cond (nat_lt n (length xs)) (Some n) None) at ∙ ap (λ b. cond b (Some i) None) (is_less i (length xs) within))

-- none passes
missing : {A : Type 0} (p : A → Bool) (xs : List A) (n : ℕ) → length xs ≤ n → ((k : ℕ) (d : A) → k < n → p (get_or xs k d) ≡ false) → None ≡ position p xs
missing p [] n over before = refl
missing p (x ∷ xs) n over before =
    let all = x ∷ xs in
    let at : position_or_len p all ≡ length all = position_or_len_is p all (length all) x (omega arith) (λ k less. before k x (omega (arith, less, over))) (λ less. absurd (omega (arith, less))) in
    sym (ap (λ n. cond (nat_lt n (length all)) (Some n) None) at ∙ ap (λ b. cond b (Some (length all)) None) (not_less (length all) (length all) (omega arith)))

-- one more that does not pass
one_more : {A : Type 0} (p : A → Bool) (xs : List A) (at : ℕ) (x : A) → at < length xs → ((k : ℕ) (d : A) → k < at → p (get_or xs k d) ≡ false) → x ≡ get_or xs at x → p x ≡ false
    → (k : ℕ) (d : A) → k < at + 1 → p (get_or xs k d) ≡ false
one_more p xs at x within before is fails k d less = elim (cases_lt k at) [
  | inl below ↦ before k d below
  | inr above ↦
      let same : k ≡ at = omega (arith, above, less) in
      ap (λ n. p (get_or xs n d)) same ∙ ap p (get_or_default xs at d x within ∙ sym is) ∙ fails
]

-- what the first of what is left is
record IsFirstLeft {A : Type 0} (xs more : List A) (at : ℕ) (x : A) : Type 0 where
  within : at < length xs
  is : x ≡ get_or xs at x
  there : slice_get xs at ≡ Some x
  left : drop (at + 1) xs ≡ more

first_left : {A : Type 0} (xs rest more : List A) (at : ℕ) (x : A) → at + length rest ≡ length xs → drop at xs ≡ rest → rest ≡ x ∷ more → IsFirstLeft xs more at x
first_left xs rest more at x count left cut =
    let within : at < length xs = omega (arith, count, ap length cut) in
    let is : x ∷ more ≡ get_or xs at x ∷ drop (suc at) xs = sym (left ∙ cut) ∙ drop-cons xs at x within in
    let same : x ≡ get_or xs at x = cc in
    record { within = within; is = same; there = slice_get-get_or xs at x within ∙ ap Some (sym same); left = ap (λ n. drop n xs) (add-one at) ∙ cc }

pub loop-rule-init : goal.loop-rule-init
loop-rule-init c = record {
  left = refl;
  count = omega arith;
  passed = λ k d less. absurd (omega (arith, less));
}

pub returns-then-fits-clause-place : goal.returns-then-fits-clause-place
returns-then-fits-clause-place c =
    let now = c.loop-rule.invariant in
    let first = first_left c.args.rules.now c.loop-rule.rest.now c.in-Some.more.now c.loop-rule.place c.in-Some.rule.now now.count now.left c.in-Some.ensures.cases.0 in
    found (fits (deed_in c.args.deed.now) c.args.scope.now) c.args.rules.now c.loop-rule.place c.in-Some.rule.now first.within now.passed first.is (sym c.fits.ensures ∙ c.if-fits.true)

pub returns-then-fits-clause-rule : goal.returns-then-fits-clause-rule
returns-then-fits-clause-rule c =
    let now = c.loop-rule.invariant in
    (first_left c.args.rules.now c.loop-rule.rest.now c.in-Some.more.now c.loop-rule.place c.in-Some.rule.now now.count now.left c.in-Some.ensures.cases.0).there

pub loop-rule-preserved : goal.loop-rule-preserved
loop-rule-preserved c =
    let now = c.loop-rule.invariant in
    let first = first_left c.args.rules.now c.loop-rule.rest.now c.in-Some.more.now c.loop-rule.place c.in-Some.rule.now now.count now.left c.in-Some.ensures.cases.0 in record {
      left = first.left;
      count = omega (arith, now.count, c.in-Some.ensures.cases.1);
      passed = one_more (fits (deed_in c.args.deed.now) c.args.scope.now) c.args.rules.now c.loop-rule.place c.in-Some.rule.now first.within now.passed first.is (sym c.fits.ensures ∙ c.if-fits.false);
    }

pub returns-clause-place : goal.returns-clause-place
returns-clause-place c =
    let now = c.loop-rule.invariant in
    missing (fits (deed_in c.args.deed.now) c.args.scope.now) c.args.rules.now c.loop-rule.place (omega (arith, now.count, c.in_default.ensures.cases)) now.passed
