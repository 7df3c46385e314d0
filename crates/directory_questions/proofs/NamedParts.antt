-- Which text is one of the parts between commas.
use Rattle.std.proofs.Common.{◌≡◌, ℕ, Bool, true, false, List, [], ◌∷◌, ◌++◌, refl, ap, ◌∙◌, arith}
use Rattle.std.specs.Prelude.{◌||◌}
use Rattle.std.specs.List.{list_any, All}
use Rattle.std.proofs.lemmas.Bool.Decides.{nat_tests}
use Rattle.std.proofs.lemmas.List.Elements.{All-nil, All-cons}
use Rattle.std.proofs.lemmas.List.Splits.{slice_split_at, slice_split_none}
use Rattle.slp_text.specs.Ascii.{comma}
use Rattle.slp_text.specs.Keys.{trimmed_text}
use Rattle.slp_text.specs.Lists.{is_comma}
use Rattle.slp_text.specs.Words.{bytes_eq, Lacks}
use Rattle.directory_questions.specs.Questions.{names}

no_comma : (x : ℕ) → (x ≡ comma → ⊥) → is_comma x ≡ false
no_comma x other = grind (arith, nat_tests)

lacks-all : (part : List ℕ) → Lacks comma part → All (λ x. is_comma x ≡ false) part
lacks-all [] h = All-nil (λ x. is_comma x ≡ false)
lacks-all (x ∷ part) h = All-cons (λ y. is_comma y ≡ false) x part (no_comma x h.0) (lacks-all part h.1)

or-false : (b : Bool) → (b || false) ≡ b
or-false true = refl
or-false false = refl

pub names-cut : (responders part more text : List ℕ) → responders ≡ part ++ comma ∷ more → Lacks comma part → names responders text ≡ (bytes_eq (trimmed_text part) text || names more text)
names-cut responders part more text is lacks =
    let one = λ (p : List ℕ). bytes_eq (trimmed_text p) text in
    ap (λ rs. names rs text) is ∙ ap (list_any one) (slice_split_at is_comma part comma more (lacks-all part lacks) refl)

pub names-last : (rest text : List ℕ) → Lacks comma rest → names rest text ≡ bytes_eq (trimmed_text rest) text
names-last rest text lacks =
    let one = λ (p : List ℕ). bytes_eq (trimmed_text p) text in
    ap (list_any one) (slice_split_none is_comma rest (lacks-all rest lacks)) ∙ or-false (one rest)

pub or-true : (b other : Bool) → b ≡ true → (b || other) ≡ true
or-true true other h = refl
or-true false other h = let k : false ≡ true = h in cc

pub or-other : (b other : Bool) → b ≡ false → (b || other) ≡ other
or-other true other h = let k : true ≡ false = h in cc
or-other false other h = refl
