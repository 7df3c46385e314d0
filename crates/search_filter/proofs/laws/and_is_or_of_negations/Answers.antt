use Rattle.std.proofs.Common.{sym}
use Rattle.search_filter.proofs.Negations.{not_all, not_any}
use Rattle.search_filter.proofs.laws.and_is_or_of_negations.Goals as goal

pub returns : goal.returns
returns c = record { and = λ fs a. sym (not_all fs a); or = λ fs a. sym (not_any fs a) }
