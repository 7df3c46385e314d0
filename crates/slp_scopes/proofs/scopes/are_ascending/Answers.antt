use Rattle.std.proofs.Common.{rules, ◌≡◌, ◌∷◌, subst, sym}
use Rattle.std.specs.declared.cmp.Ordering.TheVariants.{Less}
use Rattle.slp_text.specs.Words.{bytes_cmp, IsAscending}
use Rattle.slp_text.proofs.KeySets.{ascends-more}
use Rattle.slp_scopes.proofs.scopes.are_ascending.Goals as goal

pub loop-next-preserved : goal.loop-next-preserved
loop-next-preserved c =
    let last = c.loop-next.last.now in
    let next = c.in-Some-split_first.next.now in
    let more = c.in-Some-split_first.more.now in
    let parts : c.loop-next.rest.now ≡ next ∷ more = search rules in
    let less : bytes_cmp last next ≡ Less = search rules in
    λ a. c.loop-next.invariant (subst (λ rest. IsAscending (last ∷ rest)) (sym parts) (ascends-more last next more less a))
