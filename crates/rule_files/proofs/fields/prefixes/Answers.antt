use Rattle.std.proofs.Common.{arith, ◌≡◌, ◌∙◌, ◌++◌, ◌∷◌, [], sym, ap, get_or, Some, None}
use Rattle.std.proofs.lemmas.Result.{IfOk-from_err}
use Rattle.toml.specs.View.{view}
use Rattle.rule_files.specs.RuleFiles.{prefix_in}
use Rattle.toml_tables.proofs.Arrays.{with_front-same, read_more, read_no_more, read_all}
use Rattle.rule_files.proofs.fields.prefixes.Goals as goal

pub loop-value-init : goal.loop-value-init
loop-value-init c = rw c.new-prefixes.ensures.items (with_front-same _)

-- the prefix that was read stands after those so far
pub loop-value-preserved : goal.loop-value-preserved
loop-value-preserved c =
    let is : prefix_in (view (get_or c.args.values.now c.loop-value.value-index c.value-item.result)) ≡ Some c.in-Some.read =
    ap (λ v. prefix_in (view v)) (sym c.value-item.is) ∙ (sym c.prefix.ensures ∙ c.in-Some.is) in
    let step = read_more prefix_in c.args.values.now c.loop-value.value-index c.value-item.result c.loop-value.prefixes.items c.in-Some.read (omega arith) is in
    let pushed : c.push.new.self.items ≡ c.loop-value.prefixes.items ++ c.in-Some.read ∷ [] = c.in_ok-push.ensures.items in
    rw pushed (sym step ∙ c.loop-value.invariant)

-- a value is no prefix
pub returns-in_default : goal.returns-in_default
returns-in_default c =
    let is : prefix_in (view (get_or c.args.values.now c.loop-value.value-index c.value-item.result)) ≡ None =
    ap (λ v. prefix_in (view v)) (sym c.value-item.is) ∙ (sym c.prefix.ensures ∙ c.in_default.is) in
    sym (sym c.loop-value.invariant ∙ read_no_more prefix_in c.args.values.now c.loop-value.value-index c.value-item.result c.loop-value.prefixes.items (omega arith) is)

pub returns-in_err-push : goal.returns-in_err-push
returns-in_err-push c = IfOk-from_err _ _ c.from_residual.ensures.0

pub returns : goal.returns
returns c = ap Some c.wrap.ensures ∙ (sym (read_all prefix_in c.args.values.now c.loop-value.value-index c.loop-value.prefixes.items c.loop-value-test.false) ∙ c.loop-value.invariant)
