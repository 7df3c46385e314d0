-- What comes of what can't begin.
use Rattle.std.proofs.Common.{◌∷◌, [], ℕ, List, false, Err, refl}
use Rattle.agent_clients.specs.Keeping.{Keeping}
use Rattle.agent_clients.specs.Runs.{Runs}
use Rattle.agent_clients.specs.Upkeep as keep
use Rattle.agent_clients.specs.Upkeep.{Act, Looked, Looks, Turns, Ends, Keeps}
use Rattle.agent_clients.specs.Wires.{Deed, Told, Acts, Asks, asker_of}
use Rattle.agent_clients.specs.declared.fault.ClientFault.{ClientFault}

pub unasked : (request : List ℕ) (e : ClientFault) → (ds : List Deed) × Asks request ds (Err e)
unasked request e = (Told (Err e) ∷ [], (asker_of request, Err e, (Acts (asker_of request) (Err e), refl, refl), refl))

pub unkept : (k : Keeping) (e : ClientFault) → (acts : List Act) × Runs Keeps (Looks k) acts (Ends (Err e))
unkept k e = (Looked false ∷ keep.Told (Err e) ∷ [], (Turns k, refl, (Ends (Err e), refl, refl)))
