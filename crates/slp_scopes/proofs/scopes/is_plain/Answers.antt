use Rattle.std.proofs.Common.{rules, tests, sym, ◌∙◌}
use Rattle.std.proofs.lemmas.Iterator.{YieldsList-from_slice}
use Rattle.std.proofs.lemmas.Iterator.Search.{all_from_yields_List}
use Rattle.slp_scopes.specs.Scopes.{is_plain_byte}
use Rattle.slp_scopes.proofs.PlainScopes.{written-plain}
use Rattle.slp_scopes.proofs.scopes.is_plain.Goals as goal

pub returns-clause-written : goal.returns-clause-written
returns-clause-written c =
    let value = all_from_yields_List is_plain_byte _ _ c.all.result c.all.ensures.ran (YieldsList-from_slice c.args.text.now cc) (λ x b q k. search (rules, tests)) in
    λ is. written-plain c.args.text.now (sym value ∙ is)
