use Rattle.std.proofs.Common.{◌≤◌, length, sym, ap, subst, ◌∙◌, arith}
use Rattle.std.specs.FinMap as fin
use Rattle.registry_slots.specs.declared.orders.By.TheVariants as by
use Rattle.table_registry.specs.Tables.{Table, contents_of}
use Rattle.registry_slots.proofs.Ranks.{places_apart, length_most}
use Rattle.table_registry.proofs.Contents.{many}
use Rattle.table_registry.proofs.table.TableRegistryRegistry.len.Goals as goal

pub returns-clause-value : goal.returns-clause-value
returns-clause-value c =
    let S = c.self.inside.slots.slots in
    c.len.ensures.value ∙ sym (many by.Place S c.self.inside.places.items c.self.invariant.places (places_apart S c.self.inside.places.items c.self.invariant.places))
    ∙ ap (λ (t : Table). fin.len (contents_of t)) c.self.view_is

pub returns-clause-within : goal.returns-clause-within
returns-clause-within c =
    let S = c.self.inside.slots.slots in
    let m = many by.Place S c.self.inside.places.items c.self.invariant.places (places_apart S c.self.inside.places.items c.self.invariant.places) in
    let l = length_most by.Place S c.self.inside.places.items c.self.invariant.places in
    subst (λ (t : Table). fin.len (contents_of t) ≤ length t.slots) c.self.view_is (omega (arith, m, l))
