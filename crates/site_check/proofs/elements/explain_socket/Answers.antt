use Rattle.std.proofs.lemmas.List.{take-map}
use Rattle.toml.specs.View.{view}
use Rattle.site_check.proofs.elements.explain_socket.Goals as goal

pub returns-in-Some : goal.returns-in-Some
returns-in-Some g c =
    rw (← c.socket.ensures, c.in-Some.is, take-map view c.args.indexed.0 c.args.values.now) c.explain_again.ensures
