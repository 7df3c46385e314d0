use Rattle.std.proofs.Common.{arith, ◌≡◌, ◌<◌, ◌∙◌, ◌+◌, ◌++◌, ◌∷◌, [], ℕ, List, Option, Some, None, refl, sym, ap, append_assoc, append-nil, length, get_or, drop, map, string_bytes}
use Rattle.std.proofs.lemmas.List.{drop_more, drop_all}
use Rattle.std.proofs.lemmas.Result.{IfOk-from_err}
use Rattle.std.specs.Option.{option_and_then, option_copied, option_map}
use Rattle.toml.specs.View.{view}
use Rattle.toml.specs.declared.value.Value.{Value}
use Rattle.slp_text.specs.Ascii.{comma}
use Rattle.rule_files.specs.RuleFiles.{comma_ended, scope_name_in}
use Rattle.toml_tables.specs.Tables.{each_in}
use Rattle.toml_tables.proofs.Arrays.{with_front, with_front-same}
use Rattle.rule_files.proofs.fields.scope_names.Goals as goal

-- the names of the values from an index on, with a comma after each, behind what was read so far
abbrev names_from : List ℕ → List Value → ℕ → Option (List ℕ)
names_from xs values i = with_front xs (option_map comma_ended (each_in scope_name_in (map view (drop i values))))

-- what comes of a value and those after it
abbrev names_after : List ℕ → Option (List (List ℕ)) → Option (List ℕ) → Option (List ℕ)
names_after xs names o = with_front xs (option_map comma_ended (option_and_then (λ y. option_and_then (λ ys. Some (y ∷ ys)) names) o))

put_between : (xs name : List ℕ) (names : Option (List (List ℕ))) → names_after xs names (Some name) ≡ with_front ((xs ++ name) ++ comma ∷ []) (option_map comma_ended names)
put_between xs name None = refl
put_between xs name (Some ys) = ap Some (sym (append_assoc xs (name ++ comma ∷ []) (comma_ended ys)) ∙ ap (λ t. t ++ comma_ended ys) (sym (append_assoc xs name (comma ∷ []))))

one_is_read : (values : List Value) (i : ℕ) (other : Value) (xs : List ℕ) (o : Option (List ℕ)) → i < length values → scope_name_in (view (get_or values i other)) ≡ o
    → names_from xs values i ≡ names_after xs (each_in scope_name_in (map view (drop (i + 1) values))) o
one_is_read values i other xs o h is =
    ap (λ vs. with_front xs (option_map comma_ended (each_in scope_name_in (map view vs)))) (drop_more values i other h)
    ∙ ap (names_after xs (each_in scope_name_in (map view (drop (i + 1) values)))) is

pub loop-value-init : goal.loop-value-init
loop-value-init c = rw c.new-names.ensures.bytes (with_front-same _)

-- the name that was read stands after those so far
pub loop-value-preserved : goal.loop-value-preserved
loop-value-preserved c =
    let is : scope_name_in (view (get_or c.args.values.now c.loop-value.value-index c.value-item.result)) ≡ Some c.in-Some.name.now =
    ap (λ v. scope_name_in (view v)) (sym c.value-item.is) ∙ (sym c.in_ok-name.ensures ∙ ap (λ o. option_copied o) c.in-Some.is) in
    let step = one_is_read c.args.values.now c.loop-value.value-index c.value-item.result (string_bytes c.loop-value.names) _ (omega arith) is in
    let pushed : string_bytes c.push.new.self ≡ (string_bytes c.loop-value.names ++ c.in-Some.name.now) ++ comma ∷ [] =
    c.in_ok-push.ensures.bytes ∙ (ap (λ t. string_bytes c.push_str.new.self ++ t) (c.in_ok-push.ensures.ascii (omega arith)) ∙ ap (λ t. t ++ comma ∷ []) c.in_ok-push_str.ensures.bytes) in
    rw pushed (sym (step ∙ put_between _ _ _) ∙ c.loop-value.invariant)

-- a value is no name
pub returns-in_default : goal.returns-in_default
returns-in_default c =
    let is : scope_name_in (view (get_or c.args.values.now c.loop-value.value-index c.value-item.result)) ≡ None =
    ap (λ v. scope_name_in (view v)) (sym c.value-item.is) ∙ (sym c.in_ok-name.ensures ∙ ap (λ o. option_copied o) c.in_default.is) in
    sym (one_is_read c.args.values.now c.loop-value.value-index c.value-item.result (string_bytes c.loop-value.names) None (omega arith) is) ∙ c.loop-value.invariant

pub returns-in_err-name : goal.returns-in_err-name
returns-in_err-name c = IfOk-from_err _ _ c.from_residual.ensures.0

pub returns-in_err-push_str : goal.returns-in_err-push_str
returns-in_err-push_str c = IfOk-from_err _ _ c.from_residual-in_err-push_str.ensures.0

pub returns-in_err-push : goal.returns-in_err-push
returns-in_err-push c = IfOk-from_err _ _ c.from_residual-in_err-push.ensures.0

pub returns : goal.returns
returns c =
    let ended : names_from (string_bytes c.loop-value.names) c.args.values.now c.loop-value.value-index ≡ Some (string_bytes c.loop-value.names) =
    ap (λ vs. with_front (string_bytes c.loop-value.names) (option_map comma_ended (each_in scope_name_in (map view vs)))) (drop_all _ _ c.loop-value-test.false) ∙ ap Some (append-nil _) in
    sym ended ∙ c.loop-value.invariant
