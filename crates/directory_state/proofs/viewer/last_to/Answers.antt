use Rattle.std.proofs.Common.{◌≡◌, ◌-◌, Bor, Some, length, sym, ap, ap₂, ◌∙◌}
use Rattle.std.specs.Prelude.{slice_get}
use Rattle.std.specs.Option.{option_map}
use Rattle.std.proofs.lemmas.List.{length-map}
use Rattle.std.proofs.lemmas.Map.Lookups.{exact_bytes}
use Rattle.std.proofs.lemmas.Option.{slice_get_within, get_or_from_slice_get, slice_get-map}
use Rattle.slp_text.specs.Words.{bytes_cmp}
use Rattle.registry_core.specs.declared.entry.Entry.{Entry}
use Rattle.directory_state.specs.Searches.{entries_lent}
use Rattle.directory_state.proofs.EachKind.{push-last}
use Rattle.directory_state.proofs.OpenEntries.{mapped-has}
use Rattle.directory_state.proofs.viewer.last_to.Goals as goal

pub returns-in-Some-clause-equal : goal.returns-in-Some-clause-equal
returns-in-Some-clause-equal c = λ t.
    let found = c.args.found.now in
    let at = sym c.in-Some.ensures.value in
    let n = length found - 1 in (
      c.in-Some.last.now.now,
      mapped-has (λ (p : Bor Entry). p.now) found c.in-Some.last.now (n, slice_get_within found n c.in-Some.last.now at, get_or_from_slice_get found n c.in-Some.last.now c.in-Some.last.now at),
      exact_bytes c.in-Some.last.now.now.kind c.args.entry.now.kind (ap₂ bytes_cmp (sym c.text.ensures) (sym c.text-in-Some.ensures) ∙ sym c.cmp.ensures ∙ t),
    )

pub returns-in-Some-clause-less : goal.returns-in-Some-clause-less
returns-in-Some-clause-less c = λ t.
    let found = c.args.found.now in
    let last : Entry = c.in-Some.last.now.now in
    let at : slice_get (entries_lent found) (length (entries_lent found) - 1) ≡ Some last =
    ap (λ n. slice_get (entries_lent found) (n - 1)) (length-map found (λ p. p.now)) ∙ slice_get-map (λ p. p.now) found (length found - 1) ∙ ap (option_map (λ p. p.now)) (sym c.in-Some.ensures.value) in
    push-last (entries_lent found) last c.args.entry.now at (ap₂ bytes_cmp (sym c.text.ensures) (sym c.text-in-Some.ensures) ∙ sym c.cmp.ensures ∙ t)
