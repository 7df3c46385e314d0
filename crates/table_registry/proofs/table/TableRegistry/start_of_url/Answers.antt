use Rattle.std.proofs.Common.{◌≡◌, ℕ, List, [], sym, ap, subst, ◌∙◌, arith}
use Rattle.registry_slots.specs.declared.orders.By.TheVariants as by
use Rattle.registry_core.specs.Entries.{is_of_url}
use Rattle.registry_slots.specs.Orders.{place_in}
use Rattle.table_registry.specs.Tables.{Table, NoneIn}
use Rattle.table_registry.proofs.Contents.{start_url}
use Rattle.table_registry.proofs.table.TableRegistry.start_of_url.Goals as goal

pub returns-clause-none : goal.returns-clause-none
returns-clause-none c =
    let t : Table = c.args.self.now in
    let u : List ℕ = c.args.url.now in
    let Z : c.args.from ≡ 0 = omega arith in
    let at : c.place_of.result ≡ place_in by.Place t.slots t.places ([], (u, [])) =
    c.place_of.ensures ∙ ap (place_in by.Place c.self.inside.slots.slots c.self.inside.places.items) (c.of_pair-spot.ensures ∙ ap (λ (v : List ℕ). ([], (v, []))) c.text.ensures)
    ∙ ap (λ (t : Table). place_in by.Place t.slots t.places ([], (u, []))) c.self.view_is in
    subst (λ n. NoneIn (is_of_url u) t.slots t.places n c.place_of.result) (sym Z)
    (subst (NoneIn (is_of_url u) t.slots t.places 0) (sym at) (start_url u t.slots t.places))
