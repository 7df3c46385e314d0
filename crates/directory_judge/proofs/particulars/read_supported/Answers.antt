use Rattle.std.proofs.Common.{length, ap, arith}
use Rattle.std.specs.List.{list_any}
use Rattle.slp_text.specs.Words.{bytes_eq}
use Rattle.directory_judge.proofs.Denials.{length-filter-le}
use Rattle.directory_judge.proofs.particulars.read_supported.Goals as goal

pub returns-clause-few : goal.returns-clause-few
returns-clause-few c =
    let fewer = length-filter-le (λ k. list_any (λ o. bytes_eq o k) c.in-Some.scopes) c.scopes.result.now in
    omega (arith, fewer, ap length c.within.ensures, ap length c.scopes.ensures.value, c.scopes.ensures.limits.few_scopes)
