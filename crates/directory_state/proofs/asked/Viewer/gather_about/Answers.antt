use Rattle.std.proofs.Common.{◌++◌, ◌∷◌, [], cond, filter, sym, ap, subst, ◌∙◌}
use Rattle.std.proofs.lemmas.List.{append_assoc, map-append}
use Rattle.registry_core.specs.declared.entry.Entry.{Entry}
use Rattle.directory_state.specs.Searches.{entries_in, is_seen, rest_about, AreSeenBy}
use Rattle.directory_state.specs.declared.viewer.Seen.{Seen}
use Rattle.directory_state.proofs.PassedEntries.{filter-past}
use Rattle.directory_state.proofs.ShownEntries.{seen-push}
use Rattle.directory_state.proofs.asked.Viewer.gather_about.Goals as goal

pub loop-entry-preserved-in_default-sees : goal.loop-entry-preserved-in_default-sees
loop-entry-preserved-in_default-sees g c =
    let rest = rest_about (g.R.Registry.rest_of_kind c.args.registry.now) (g.R.Registry.rest_of_url c.args.registry.now) c.args.target.now in
    let p = is_seen c.args.self.now in
    let e : Entry = c.in-Some.entry.now in record {
      found = ap (λ es. entries_in c.loop-entry.found.items ++ es) (sym (ap (filter p) c.in-Some.ensures.next ∙ filter-past p e (rest c.in-Some.next) (rest c.past_about-from.result) c.in_default-sees.ensures.seen c.past_about-from.ensures)) ∙ c.loop-entry.invariant.found;
      seen = c.loop-entry.invariant.seen;
      last = c.sees.ensures.last;
    }

pub loop-entry-preserved : goal.loop-entry-preserved
loop-entry-preserved g c =
    let rest = rest_about (g.R.Registry.rest_of_kind c.args.registry.now) (g.R.Registry.rest_of_url c.args.registry.now) c.args.target.now in
    let v = c.args.self.now in
    let p = is_seen v in
    let e : Entry = c.in-Some.entry.now in
    let found = c.loop-entry.found.items in
    let s : Seen = record { entry = c.in-Some.entry; first = c.in-Some-sees.first } in record {
      found = ap (λ ss. entries_in ss ++ filter p (rest c.in-Some.next)) c.in_ok-push.ensures.items ∙ ap (λ es. es ++ filter p (rest c.in-Some.next)) (map-append (λ (x : Seen). x.entry.now) found (s ∷ [])) ∙ append_assoc (entries_in found) (e ∷ []) (filter p (rest c.in-Some.next))
          ∙ ap (λ es. entries_in found ++ es) (sym (ap (filter p) c.in-Some.ensures.next ∙ ap (λ b. cond b (e ∷ filter p (rest c.in-Some.next)) (filter p (rest c.in-Some.next))) c.in-Some-sees.ensures.seen.0)) ∙ c.loop-entry.invariant.found;
      seen = subst (AreSeenBy v) (sym c.in_ok-push.ensures.items) (seen-push v found s c.loop-entry.invariant.seen c.in-Some-sees.ensures.seen);
      last = c.in-Some-sees.ensures.last;
    }
