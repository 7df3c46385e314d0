use Rattle.std.proofs.Common.{rules}
use Rattle.std.proofs.lemmas.Fn.{always_returns_same}
use Rattle.slp_text.specs.Words.{bytes_cmp}
use Rattle.attr_list.proofs.SortedByKey.{missed, searched}
use Rattle.attr_list.proofs.attrs.Attrs.halved.Goals as goal

pub returns-in-Ok : goal.returns-in-Ok
returns-in-Ok c =
    let facts = c.binary_search_by.ensures in
    let is = facts.position (λ a. bytes_cmp a.tag c.args.tag.now) (always_returns_same _ _ _ (λ a r g called. (search rules, search rules))) in
    let stored = c.deref.ensures.value in
    rw (← c.self.view_is) (searched (λ a. a.tag) (λ a. a.held) _ c.args.tag.now _ c.self.invariant.sorted (rw (← stored) facts.bound) (rw (← stored) is) c.in-Ok.place _ c.in-Ok.is c.index.ensures)

pub returns-in-Err : goal.returns-in-Err
returns-in-Err c =
    let facts = c.binary_search_by.ensures in
    let is = facts.position (λ a. bytes_cmp a.tag c.args.tag.now) (always_returns_same _ _ _ (λ a r g called. (search rules, search rules))) in
    let stored = c.deref.ensures.value in
    rw (← c.self.view_is) (missed (λ a. a.tag) (λ a. a.held) _ c.args.tag.now _ c.self.invariant.sorted (rw (← stored) facts.bound) (rw (← stored) is) c.in-Err.field-0 c.in-Err.is)
