use Rattle.std.proofs.Common.{sym, ap, ◌∙◌}
use Rattle.std.specs.FinMap as fin
use Rattle.registry_slots.specs.declared.orders.By.TheVariants as by
use Rattle.registry_core.specs.Entries.{outlives, passing_entries}
use Rattle.table_registry.specs.Tables.{Table, contents_of}
use Rattle.registry_slots.proofs.Ranks.{places_apart}
use Rattle.table_registry.proofs.Contents.{many, living, none_dead, len_somes}
use Rattle.table_registry.proofs.table.TableRegistryRegistry.live.Goals as goal

pub returns-then-has_due : goal.returns-then-has_due
returns-then-has_due c =
    let S = c.self.inside.slots.slots in
    c.live.ensures ∙ living (outlives c.args.now) S (places_apart S c.self.inside.places.items c.self.invariant.places)
    ∙ ap (λ (t : Table). fin.len (passing_entries (outlives c.args.now) (contents_of t))) c.self.view_is

pub returns-else-has_due : goal.returns-else-has_due
returns-else-has_due c =
    let S = c.self.inside.slots.slots in
    let apart = places_apart S c.self.inside.places.items c.self.invariant.places in
    c.len.ensures.value ∙ sym (many by.Place S c.self.inside.places.items c.self.invariant.places apart)
    ∙ len_somes S apart ∙ sym (none_dead c.args.now S (c.has_due.ensures c.if-has_due.false)) ∙ living (outlives c.args.now) S apart
    ∙ ap (λ (t : Table). fin.len (passing_entries (outlives c.args.now) (contents_of t))) c.self.view_is
