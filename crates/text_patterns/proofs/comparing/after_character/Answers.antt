use Rattle.std.proofs.Common.{◌≡◌, ℕ, ◌+◌, ◌<◌, List, ◌∷◌, ◌++◌, length, get_or, drop, nat_cmp, Less, Equal, Greater, refl, sym, ap, ◌∙◌, arith}
use Rattle.std.specs.Ordering.{ordering_then}
use Rattle.std.specs.declared.cmp.Ordering.{Ordering}
use Rattle.std.proofs.lemmas.List.{drop_all, drop_more}
use Rattle.slp_text.specs.Words.{bytes_cmp}
use Rattle.text_patterns.proofs.Ordered.{cmp-past}
use Rattle.text_patterns.proofs.comparing.after_character.Goals as goal

pub returns-in_default : goal.returns-in_default
returns-in_default c = λ more. c.loop-b.invariant more ∙ cmp-past c.as_bytes-b-items.result.now more c.loop-b.rest.now c.loop-b.b-index (omega arith) c.in_default.ensures.cases

-- where the next bytes are the same, what comes after them tells the order
cmp-same : (xs more ys after : List ℕ) (i first : ℕ) → i < length xs → ys ≡ first ∷ after → Equal ≡ nat_cmp (get_or xs i 0) first → bytes_cmp (drop i xs ++ more) ys ≡ bytes_cmp (drop (i + 1) xs ++ more) after
cmp-same xs more ys after i first some cut is = rw (drop_more xs i 0 some, cut, ← is) refl

then-other : (o r : Ordering) → (o ≡ Equal → ⊥) → ordering_then o r ≡ o
then-other Less r other = refl
then-other Equal r other = absurd (other refl)
then-other Greater r other = refl

-- where they differ, they tell it themselves
cmp-other : (xs more ys after : List ℕ) (i first : ℕ) (o : Ordering) → i < length xs → ys ≡ first ∷ after → o ≡ nat_cmp (get_or xs i 0) first → (o ≡ Equal → ⊥) → bytes_cmp (drop i xs ++ more) ys ≡ o
cmp-other xs more ys after i first o some cut is other = rw (drop_more xs i 0 some, cut, ← is) (then-other o _ other)

pub loop-b-init : goal.loop-b-init
loop-b-init c = λ more. ap (λ bs. bytes_cmp (bs ++ more) c.args.bytes.now) (sym (c.as_bytes-b-items.ensures.value ∙ c.encode_utf8.ensures.value))

pub loop-b-preserved : goal.loop-b-preserved
loop-b-preserved c = λ more.
    c.loop-b.invariant more ∙ cmp-same c.as_bytes-b-items.result.now more c.loop-b.rest.now c.in-Some.after.now c.loop-b.b-index c.in-Some.first.now c.loop-b-test.true c.in-Some.ensures.cases.0 c.in-Equal.ensures

pub returns : goal.returns
returns c = λ more. c.loop-b.invariant more ∙ ap (λ bs. bytes_cmp (bs ++ more) c.loop-b.rest.now) (drop_all c.loop-b.b-index c.as_bytes-b-items.result.now c.loop-b-test.false)

pub returns-in_default-cmp : goal.returns-in_default-cmp
returns-in_default-cmp c = λ more.
    c.loop-b.invariant more
    ∙ cmp-other c.as_bytes-b-items.result.now more c.loop-b.rest.now c.in-Some.after.now c.loop-b.b-index c.in-Some.first.now c.cmp.result c.loop-b-test.true c.in-Some.ensures.cases.0 c.cmp.ensures c.in_default-cmp.not-Equal
