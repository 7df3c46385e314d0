use Rattle.std.proofs.Common.{◌≡◌, ◌+◌, ℕ, true, false, ◌==◌, List, [], ◌∷◌, ◌++◌, Some, None, map, length, refl, sym, ap, ◌∙◌, drop, arith, eqb-true}
use Rattle.std.specs.Option.{option_map_or}
use Rattle.std.proofs.lemmas.List.{drop_all, drop_more}
use Rattle.std.proofs.lemmas.Result.{err_from_is_err_and}
use Rattle.ucd_case.specs.CaseFolding.{full_folding, or_itself}
use Rattle.slp_tags.specs.Parts.{folded_sign, part_with}
use Rattle.slp_tags.specs.Tags.{Sign}
use Rattle.slp_tags.proofs.tags.add_folded.Goals as goal

-- what a sign folds to by the table of foldings, where it has one
by_table : (c : ℕ) (table folding : List ℕ) → folding ≡ table → (length folding == 0) ≡ false → map Some (or_itself c table) ≡ map Some folding
by_table c [] folding is some = cc (ap (λ f. length f == 0) is)
by_table c (x ∷ xs) folding is some = ap (map Some) (sym is)

folds : (sign : Sign) (folding : List ℕ) → folding ≡ option_map_or full_folding sign [] → (length folding == 0) ≡ false → folded_sign sign ≡ map Some folding
folds None folding is some = cc
folds (Some c) folding is some = by_table c (full_folding c) folding is some

itself : (c : ℕ) (table folding : List ℕ) → folding ≡ table → (length folding == 0) ≡ true → map Some (or_itself c table) ≡ Some c ∷ []
itself c [] folding is none = refl
itself c (x ∷ xs) folding is none = absurd (omega (arith, eqb-true (length folding) 0 none, ap length is))

stays : (sign : Sign) (folding : List ℕ) → folding ≡ option_map_or full_folding sign [] → (length folding == 0) ≡ true → folded_sign sign ≡ sign ∷ []
stays None folding is none = refl
stays (Some c) folding is none = itself c (full_folding c) folding is none

pub returns-then-is_empty : goal.returns-then-is_empty
returns-then-is_empty c =
    rw (stays c.args.sign c.folding_of-folding.result.now c.folding_of-folding.ensures (sym c.is_empty.ensures ∙ c.if-is_empty.true)) c.add_sign.ensures

pub loop-c-init : goal.loop-c-init
loop-c-init c = λ rest. refl

pub loop-c-preserved : goal.loop-c-preserved
loop-c-preserved c =
    let folding = c.folding_of-folding.result.now in
    let i = c.loop-c.c-index in
    let d = c.c-item.result in
    let cut : drop i folding ≡ d ∷ drop (i + 1) folding = drop_more folding i d c.loop-c-test.true ∙ ap (λ x. x ∷ drop (i + 1) folding) (sym c.c-item.is) in
    λ rest. c.in_ok-gap.ensures (map Some (drop (i + 1) folding) ++ rest) ∙ ap (λ cs. part_with c.loop-c.gap c.loop-c.part.items (map Some cs ++ rest)) (sym cut) ∙ c.loop-c.invariant rest

pub returns-in_err-gap : goal.returns-in_err-gap
returns-in_err-gap c = let p = err_from_is_err_and c.from_residual.result c.from_residual.ensures.1 in rw p.1 tt

pub returns : goal.returns
returns c =
    let folding = c.folding_of-folding.result.now in
    let ended = drop_all c.loop-c.c-index folding c.loop-c-test.false in
    let all = folds c.args.sign folding c.folding_of-folding.ensures (sym c.is_empty.ensures ∙ c.if-is_empty.false) in
    λ rest. ap (λ cs. part_with c.loop-c.gap c.loop-c.part.items (map Some cs ++ rest)) (sym ended) ∙ c.loop-c.invariant rest ∙ ap (λ ss. part_with c.args.gap c.args.part.now.items (ss ++ rest)) (sym all)
