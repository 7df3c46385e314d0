use Rattle.std.proofs.Common.{◌≡◌, ◌<◌, ◌+◌, ℕ, Bool, true, false, cond, List, ◌∷◌, drop, drop-cons, add-one, get_or, length, Some, sym, ap, ◌∙◌}
use Rattle.std.specs.FinMap as fin
use Rattle.std.proofs.lemmas.List.{drop_all}
use Rattle.std.proofs.lemmas.Map.Text.{is_eq-slice_cmp}
use Rattle.slp_text.specs.Words.{bytes_cmp, bytes_eq}
use Rattle.attr_list.specs.declared.attrs.Attribute.{Attribute}
use Rattle.attr_list.specs.Stored.{pairs_in}
use Rattle.attr_list.proofs.attrs.Attrs.found.Goals as goal

-- what is found from a place on, by whether the tag is there
step : (q : List ℕ) (list : List Attribute) (i : ℕ) (a : Attribute) → i < length list → a ≡ get_or list i a → (b : Bool) → bytes_eq q a.tag ≡ b
    → fin.find bytes_cmp q (pairs_in (drop i list)) ≡ cond b (Some a.held) (fin.find bytes_cmp q (pairs_in (drop (i + 1) list)))
step q list i a within is b e =
    let rest = drop (i + 1) list in
    let here : drop i list ≡ a ∷ rest = drop-cons list i a within ∙ ap (λ n. get_or list i a ∷ drop n list) (sym (add-one i)) ∙ ap (λ x. x ∷ rest) (sym is) in
    ap (λ l. fin.find bytes_cmp q (pairs_in l)) here ∙ ap (λ t. cond t (Some a.held) (fin.find bytes_cmp q (pairs_in rest))) (is_eq-slice_cmp q a.tag ∙ e)

pub returns-then-eq : goal.returns-then-eq
returns-then-eq c =
    sym (step c.args.tag.now c.args.entries.now c.loop-place.place c.index-entries-place.result c.loop-place-test.true c.index-entries-place.is true (sym c.eq.ensures ∙ c.if-eq.true))
    ∙ c.loop-place.invariant

pub loop-place-preserved : goal.loop-place-preserved
loop-place-preserved c =
    sym (step c.args.tag.now c.args.entries.now c.loop-place.place c.index-entries-place.result c.loop-place-test.true c.index-entries-place.is false (sym c.eq.ensures ∙ c.if-eq.false))
    ∙ c.loop-place.invariant

pub returns : goal.returns
returns c =
    ap (λ l. fin.find bytes_cmp c.args.tag.now (pairs_in l)) (sym (drop_all c.loop-place.place c.args.entries.now c.loop-place-test.false)) ∙ c.loop-place.invariant
