use Rattle.std.proofs.Common.{ap, sym, ◌∙◌}
use Rattle.std.specs.Option.{option_copied}
use Rattle.registry_slots.proofs.orders.alike_at.Goals as goal

pub returns-in-Some : goal.returns-in-Some
returns-in-Some c = (c.in-Some.held.now, sym c.entry_at.ensures ∙ ap option_copied c.in-Some.is, sym c.is_alike.ensures ∙ c.if-is_alike.true)
