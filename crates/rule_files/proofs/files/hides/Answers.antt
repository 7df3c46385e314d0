use Rattle.std.proofs.Common.{arith, ◌≡◌, ◌∙◌, ◌+◌, ◌++◌, ◌∷◌, [], sym, ap, get_or, drop, map, Some, None}
use Rattle.std.proofs.lemmas.Result.{err_from_is_err_and}
use Rattle.slp_text.proofs.Readers.{read_map-same}
use Rattle.slp_text.specs.Reading.{read_map}
use Rattle.toml.specs.View.{view}
use Rattle.rule_files.specs.RuleFiles.{hide_in, hides_from}
use Rattle.rule_files.proofs.ReadRules.{read_step, read_none, read_all}
use Rattle.rule_files.proofs.files.hides.Goals as goal

pub loop-i-init : goal.loop-i-init
loop-i-init c =
    let first : c.args.rules + 0 + 1 ≡ c.args.rules + 1 = omega arith in
    rw (c.new-hides.ensures.items, first) (read_map-same _)

-- the hide table that was read stands after those so far
pub loop-i-preserved : goal.loop-i-preserved
loop-i-preserved c =
    let is : hide_in (view (get_or c.args.values.now c.loop-i.i c.index-values-i.result)) ≡ Some c.in-Some.hide =
    ap (λ v. hide_in (view v)) (sym c.index-values-i.is) ∙ (sym c.in_ok-hide.ensures ∙ c.in-Some.is) in
    let step = read_step hide_in (c.args.rules + c.loop-i.i + 1) c.args.values.now c.loop-i.i c.index-values-i.result c.loop-i.hides.items c.in-Some.hide (omega arith) is in
    let pushed : c.push.new.self.items ≡ c.loop-i.hides.items ++ c.in-Some.hide ∷ [] = c.in_ok-push-in-Some.ensures.items in
    let number : c.args.rules + (c.loop-i.i + 1) + 1 ≡ c.args.rules + c.loop-i.i + 1 + 1 = omega arith in
    let next = ap (λ n. read_map (λ hs. c.push.new.self.items ++ hs) (hides_from n (map view (drop (c.loop-i.i + 1) c.args.values.now)))) number in
    let here = ap (λ xs. read_map (λ hs. xs ++ hs) (hides_from (c.args.rules + c.loop-i.i + 1 + 1) (map view (drop (c.loop-i.i + 1) c.args.values.now)))) pushed in
    next ∙ here ∙ sym step ∙ c.loop-i.invariant

-- a value is no hide table
pub returns-in-None : goal.returns-in-None
returns-in-None c =
    let is : hide_in (view (get_or c.args.values.now c.loop-i.i c.index-values-i.result)) ≡ None =
    ap (λ v. hide_in (view v)) (sym c.index-values-i.is) ∙ (sym c.in_ok-hide.ensures ∙ c.in-None.is) in
    sym c.loop-i.invariant ∙ read_none hide_in (c.args.rules + c.loop-i.i + 1) c.args.values.now c.loop-i.i c.index-values-i.result c.loop-i.hides.items (omega arith) is

pub returns-in_err-hide : goal.returns-in_err-hide
returns-in_err-hide c =
    let p = err_from_is_err_and c.from_residual.result c.from_residual.ensures.1 in
    rw (p.1, p.2) tt

pub returns-in_err-push-in-Some : goal.returns-in_err-push-in-Some
returns-in_err-push-in-Some c =
    let p = err_from_is_err_and c.from_residual-in_err-push-in-Some.result c.from_residual-in_err-push-in-Some.ensures.1 in
    rw (p.1, p.2) tt

pub returns : goal.returns
returns c = sym c.loop-i.invariant ∙ read_all hide_in (c.args.rules + c.loop-i.i + 1) c.args.values.now c.loop-i.i c.loop-i.hides.items c.loop-i-test.false
