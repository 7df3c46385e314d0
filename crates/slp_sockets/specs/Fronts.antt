-- What is promised of what one loop of an address hands over to the one beside it.
use Rattle.std.specs.Prelude.{◌≡◌, true}
use Rattle.slp_sockets.specs.Linking.{has_message}
use Rattle.slp_sockets.specs.declared.lane.Handed.{Handed}
use Rattle.slp_sockets.specs.declared.lane.Handed.TheVariants.{Mail, Stream}

-- a stream has a whole message in front
abbrev pub BringsMessage : Handed → Type 0
BringsMessage (Mail e) = Unit {0}
BringsMessage (Stream p) = has_message p.connection ≡ true
