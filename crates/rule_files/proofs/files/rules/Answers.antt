use Rattle.std.proofs.Common.{arith, ◌≡◌, ◌+◌, ◌∙◌, ◌++◌, ◌∷◌, [], sym, ap, get_or, Some, None}
use Rattle.std.proofs.lemmas.Result.{err_from_is_err_and}
use Rattle.slp_text.proofs.Readers.{read_map-same}
use Rattle.toml.specs.View.{view}
use Rattle.rule_files.specs.RuleFiles.{rule_in}
use Rattle.rule_files.proofs.ReadRules.{read_step, read_none, read_all}
use Rattle.rule_files.proofs.files.rules.Goals as goal

pub loop-i-init : goal.loop-i-init
loop-i-init c = rw c.new-rules.ensures.items (read_map-same _)

-- the rule that was read stands after those so far
pub loop-i-preserved : goal.loop-i-preserved
loop-i-preserved c =
    let is : rule_in c.args.version (view (get_or c.args.values.now c.loop-i.i c.index-values-i.result)) ≡ Some c.in-Some.rule =
    ap (λ v. rule_in c.args.version (view v)) (sym c.index-values-i.is) ∙ (sym c.in_ok-rule.ensures ∙ c.in-Some.is) in
    let step = read_step (rule_in c.args.version) (c.loop-i.i + 1) c.args.values.now c.loop-i.i c.index-values-i.result c.loop-i.rules.items c.in-Some.rule (omega arith) is in
    let pushed : c.push.new.self.items ≡ c.loop-i.rules.items ++ c.in-Some.rule ∷ [] = c.in_ok-push-in-Some.ensures.items in
    rw pushed (sym step ∙ c.loop-i.invariant)

-- a value is no rule
pub returns-in-None : goal.returns-in-None
returns-in-None c =
    let is : rule_in c.args.version (view (get_or c.args.values.now c.loop-i.i c.index-values-i.result)) ≡ None =
    ap (λ v. rule_in c.args.version (view v)) (sym c.index-values-i.is) ∙ (sym c.in_ok-rule.ensures ∙ c.in-None.is) in
    sym c.loop-i.invariant ∙ read_none (rule_in c.args.version) (c.loop-i.i + 1) c.args.values.now c.loop-i.i c.index-values-i.result c.loop-i.rules.items (omega arith) is

pub returns-in_err-rule : goal.returns-in_err-rule
returns-in_err-rule c =
    let p = err_from_is_err_and c.from_residual.result c.from_residual.ensures.1 in
    rw (p.1, p.2) tt

pub returns-in_err-push-in-Some : goal.returns-in_err-push-in-Some
returns-in_err-push-in-Some c =
    let p = err_from_is_err_and c.from_residual-in_err-push-in-Some.result c.from_residual-in_err-push-in-Some.ensures.1 in
    rw (p.1, p.2) tt

pub returns : goal.returns
returns c = sym c.loop-i.invariant ∙ read_all (rule_in c.args.version) (c.loop-i.i + 1) c.args.values.now c.loop-i.i c.loop-i.rules.items c.loop-i-test.false
