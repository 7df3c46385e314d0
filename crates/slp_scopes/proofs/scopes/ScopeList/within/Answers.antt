use Rattle.std.proofs.Common.{◌≡◌, sym, ap, subst, ◌∙◌, rules}
use Rattle.std.specs.List.{list_any}
use Rattle.std.proofs.lemmas.Fn.{filter_same}
use Rattle.slp_scopes.specs.Scopes.{AreScopes}
use Rattle.slp_text.specs.Sets.{common_keys}
use Rattle.slp_text.specs.Words.{bytes_eq}
use Rattle.slp_text.proofs.KeySets.{common_turned}
use Rattle.slp_scopes.proofs.PrintedScopes.{common-are_scopes}
use Rattle.slp_scopes.proofs.scopes.ScopeList.within.Goals as goal

-- what stays
left : (c : goal.After-retain) → c.retain.new.self.items ≡ common_keys c.self.inside.keys.items c.args.other.now
left c = filter_same _ (λ k. list_any (λ o. bytes_eq o k) c.args.other.now) _ (λ x b f' k. search rules) _ _ c.retain.ensures.filtered

pub invariant_of-result : goal.invariant_of-result
invariant_of-result c = subst AreScopes (sym (left c)) (common-are_scopes c.self.inside.keys.items c.args.other.now c.self.invariant)

pub returns : goal.returns
returns c =
    let others = subst AreScopes c.other.view_is c.other.invariant in
    left c ∙ (common_turned c.self.inside.keys.items c.args.other.now c.self.invariant.ascending others.ascending ∙ ap (common_keys c.args.other.now) c.self.view_is)
