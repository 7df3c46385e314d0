use Rattle.slp_text.proofs.KeysOfKeys.{key-again}
use Rattle.slp_text.proofs.laws.keys_are_their_own_keys.Goals as goal

pub returns : goal.returns
returns c = key-again
