-- How a loop takes over what was handed to it.
use Rattle.std.specs.Prelude.{◌≡◌, true, List, [], ◌∷◌, ◌++◌}
use Rattle.slp_sockets.specs.Handing.{Gift, Letter, Talker}
use Rattle.slp_sockets.specs.Linking.{has_message}
use Rattle.slp_sockets.specs.Ports.{Datagram}
use Rattle.slp_sockets.specs.Sitting.{seat}
use Rattle.slp_sockets.specs.declared.datagrams.Taken.{Taken}
use Rattle.slp_sockets.specs.declared.datagrams.Taken.TheVariants.{Nothing, Mail, Stream}

-- a datagram that was handed over is put aside behind the others, and a stream is told as it was handed over
abbrev pub TakesNext : List Datagram → List Gift → Taken → List Datagram → List Gift → Type 0
TakesNext aside had Nothing asides has = (asides ≡ aside) × (has ≡ had)
TakesNext aside had Mail asides has = (d : Datagram) × (asides ≡ aside ++ d ∷ []) × (has ≡ had ++ Letter d ∷ [])
TakesNext aside had (Stream p) asides has = (asides ≡ aside) × (has ≡ had ++ Talker (seat p) ∷ []) × (has_message p.connection ≡ true)
