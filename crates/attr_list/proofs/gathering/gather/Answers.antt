use Rattle.std.proofs.Common.{map, ◌∙◌, rules, ap, subst, sym}
use Rattle.std.specs.Prelude.{IfOk, Result, Ok, Err}
use Rattle.std.specs.List.Sorted.{IsStrictlySortedBy}
use Rattle.slp_text.specs.Words.{bytes_cmp}
use Rattle.attr_list.specs.Gathering.{gathered_values}
use Rattle.attr_list.specs.Pieces.{element_in}
use Rattle.attr_list.proofs.JoinedElements.{gathered-folded, gathered-sorted, joined-rises, sorted-by-tag, stable-by-tag, tags, tags-in}
use Rattle.attr_list.proofs.gathering.gather.Goals as goal

if_so : {A E : Type 0} (P Q : A → Type 0) → ((x : A) → P x → Q x) → (r : Result A E) → IfOk r P → IfOk r Q
if_so P Q so (Ok x) is = so x is
if_so P Q so (Err e) is = tt

pub returns-clause-values : goal.returns-clause-values
returns-clause-values c =
    let ordered = c.sort_by.new.self.items in
    if_so _ _ (λ v is tag.
    ap (λ es. gathered_values es tag) is ∙ gathered-folded tag (map element_in ordered)
    ∙ gathered-sorted tag c.args.elements.items ordered c.sort_by.ensures.permutation (stable-by-tag c.args.elements.items ordered c.sort_by.ensures.stable (λ a r f' k. search rules)))
    c.join_neighbours.result c.join_neighbours.ensures

pub returns-clause-rises : goal.returns-clause-rises
returns-clause-rises c =
    let ordered = c.sort_by.new.self.items in
    if_so _ _ (λ v is. subst (IsStrictlySortedBy bytes_cmp) (sym (tags-in v.items ∙ ap tags is)) (joined-rises ordered (sorted-by-tag ordered c.in_ok-sort_by.ensures.sorted (λ a r f' k. search rules))))
    c.join_neighbours.result c.join_neighbours.ensures
