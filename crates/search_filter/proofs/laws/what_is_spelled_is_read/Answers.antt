use Rattle.search_filter.proofs.ReadFilters.{read-spelled}
use Rattle.search_filter.proofs.SpelledFilters.{spelled-read}
use Rattle.search_filter.proofs.laws.what_is_spelled_is_read.Goals as goal

pub returns : goal.returns
returns c = λ text f. (spelled-read text f, read-spelled text f)
