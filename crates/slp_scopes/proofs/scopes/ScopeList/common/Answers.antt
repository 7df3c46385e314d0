use Rattle.std.proofs.Common.{sym, subst}
use Rattle.slp_scopes.specs.Scopes.{AreScopes}
use Rattle.slp_scopes.proofs.PrintedScopes.{common-are_scopes}
use Rattle.slp_scopes.proofs.scopes.ScopeList.common.Goals as goal

pub invariant_of-result : goal.invariant_of-result
invariant_of-result c =
    subst AreScopes (sym c.in_ok-keys.ensures) (common-are_scopes c.deref.result.now c.args.other.now (subst AreScopes (sym c.deref.ensures.value) c.self.invariant))
