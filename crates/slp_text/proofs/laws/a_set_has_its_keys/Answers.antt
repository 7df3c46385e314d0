use Rattle.slp_text.proofs.KeySets.{set_ascending, set_within, set_covers}
use Rattle.slp_text.proofs.laws.a_set_has_its_keys.Goals as goal

pub returns-clause-ascending : goal.returns-clause-ascending
returns-clause-ascending c = set_ascending

pub returns-clause-same : goal.returns-clause-same
returns-clause-same c = λ ks k. (set_within ks k, set_covers ks k)
