use Rattle.std.proofs.Common.{◌≡◌, ℕ, ◌+◌, Bool, true, false, List, [], ◌∷◌, cond, drop, refl, sym, ap, ap₂, ◌∙◌, append_assoc}
use Rattle.std.specs.Prelude.{not, string_bytes}
use Rattle.std.proofs.lemmas.List.{at_drop_more}
use Rattle.std.proofs.lemmas.Result.{err_from_is_err_and}
use Rattle.slp_text.specs.Ascii.{space}
use Rattle.template_files.specs.Joining.{joined_from, joined_with}
use Rattle.template_files.specs.Reading.{is_help, joined, spoken}
use Rattle.template_files.specs.Stops.{texts_of}
use Rattle.template_files.proofs.values.join.Goals as goal
use Rattle.template_files.proofs.values.join.Goals.{then-not-is_help+in_ok-append_line, else-not-is_help}

-- a line more, and then the others
joined_more : (b : Bool) (text l : List ℕ) (ls : List (List ℕ)) → joined_from true (joined_with b text l) ls ≡ joined_from b text (l ∷ ls)
joined_more true text l [] = refl
joined_more false text l [] = refl
joined_more true text l (m ∷ ms) = append_assoc text (space ∷ l) (space ∷ joined (m ∷ ms))
joined_more false text l (m ∷ ms) = append_assoc text l (space ∷ joined (m ∷ ms))

spoke : (b : Bool) (text l : List ℕ) (ls : List (List ℕ)) → is_help l ≡ false → joined_from b text (l ∷ spoken ls) ≡ joined_from b text (spoken (l ∷ ls))
spoke b text l ls is = ap (λ x. joined_from b text (cond (not x) (l ∷ spoken ls) (spoken ls))) (sym is)

helped : (b : Bool) (text l : List ℕ) (ls : List (List ℕ)) → is_help l ≡ true → joined_from b text (spoken ls) ≡ joined_from b text (spoken (l ∷ ls))
helped b text l ls is = ap (λ x. joined_from b text (cond (not x) (l ∷ spoken ls) (spoken ls))) (sym is)

pub returns-in_err-append_line : goal.returns-in_err-append_line
returns-in_err-append_line c =
    let e = err_from_is_err_and c.from_residual.result c.from_residual.ensures.1 in
    rw e.1 tt

pub loop-line-preserved : goal.loop-line-preserved
loop-line-preserved c =
    let i = c.loop-line.line-index in
    let b = c.loop-line.begun in
    let t = string_bytes c.loop-line.text in
    let rest = texts_of (drop (i + 1) c.args.lines.now) in
    let now = sym (at_drop_more (λ ls. joined_from b t (spoken (texts_of ls))) c.args.lines.now i _ c.loop-line-test.true) ∙ c.loop-line.invariant in
    elim c.if-not-is_help.branch [
      | then-not-is_help+in_ok-append_line w ↦
          ap₂ (λ x y. joined_from x y (spoken rest)) w.begun-is (ap string_bytes w.text-is ∙ w.in_ok-append_line.ensures) ∙ joined_more b t _ (spoken rest)
          ∙ spoke b t _ rest (sym c.is_help.ensures ∙ w.if-not-is_help.true) ∙ now
      | else-not-is_help w ↦
          ap₂ (λ x y. joined_from x y (spoken rest)) w.begun-is (ap string_bytes w.text-is) ∙ helped b t _ rest (sym c.is_help.ensures ∙ w.if-not-is_help.false) ∙ now
    ]
