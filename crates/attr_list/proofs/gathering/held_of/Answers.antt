use Rattle.std.proofs.Common.{◌≡◌, ◌∙◌, [], sym, ap, length, rules}
use Rattle.std.specs.Prelude.{◌==◌, vec_len}
use mathlib.Core.Bool.{true≢false}
use Rattle.attr_list.proofs.JoinedElements.{held_some}
use Rattle.attr_list.proofs.gathering.held_of.Goals as goal

pub returns : goal.returns
returns c =
    let count : vec_len c.args.values ≡ length c.args.values.items = search rules in
    let some : (c.args.values.items ≡ [] → ⊥) = λ e. true≢false (sym (c.is_empty.ensures ∙ ap (λ n. n == 0) (count ∙ ap length e)) ∙ c.if-is_empty.false) in
    held_some c.args.values.items c.in_ok-distinct.field-0 some c.in_ok-distinct.ensures
