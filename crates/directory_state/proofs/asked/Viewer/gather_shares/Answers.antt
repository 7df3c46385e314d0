use Rattle.std.proofs.Common.{◌≡◌, ◌+◌, ◌++◌, ◌∷◌, [], cond, drop, map, sym, ap, subst, ◌∙◌}
use Rattle.std.specs.Prelude.{filter}
use Rattle.std.specs.Arc.{arc_value}
use Rattle.std.proofs.lemmas.List.{append_assoc, map-append}
use Rattle.registry_core.specs.declared.entry.Entry.{Entry}
use Rattle.registry_core.proofs.Lists.{entry_here}
use Rattle.directory_state.specs.Searches.{entries_in, is_seen, AreSeenBy}
use Rattle.directory_state.specs.declared.viewer.Seen.{Seen}
use Rattle.directory_state.proofs.ShownEntries.{seen-push}
use Rattle.directory_state.proofs.asked.Viewer.gather_shares.Goals as goal
use Rattle.directory_state.proofs.asked.Viewer.gather_shares.Goals.{in-Some+in_ok-push, in_default}

pub loop-share-preserved : goal.loop-share-preserved
loop-share-preserved c =
    let v = c.args.self.now in
    let p = is_seen v in
    let e : Entry = c.deref-entry.result.now in
    let found = c.loop-share.found.items in
    let rest = drop (c.loop-share.share-index + 1) (map arc_value c.args.shares.now) in
    let here = entry_here arc_value c.args.shares.now c.loop-share.share-index c.share-item.result e c.loop-share-test.true c.share-item.is c.deref-entry.ensures in
    elim c.match-sees.branch [
      | in-Some+in_ok-push w ↦
          let s : Seen = record { entry = c.deref-entry.result; first = w.in-Some.first } in
          let items : c.match-sees.found.items ≡ found ++ s ∷ [] = ap (λ x. x.items) w.found-is ∙ w.in_ok-push.ensures.items in
          record {
            found = ap (λ ss. entries_in ss ++ filter p rest) items ∙ ap (λ es. es ++ filter p rest) (map-append (λ (x : Seen). x.entry.now) found (s ∷ [])) ∙ append_assoc (entries_in found) (e ∷ []) (filter p rest)
                ∙ ap (λ es. entries_in found ++ es) (sym (ap (filter p) here ∙ ap (λ b. cond b (e ∷ filter p rest) (filter p rest)) w.in-Some.ensures.seen.0)) ∙ c.loop-share.invariant.found;
            seen = subst (AreSeenBy v) (sym items) (seen-push v found s c.loop-share.invariant.seen w.in-Some.ensures.seen);
            last = c.sees.ensures.last;
          }
      | in_default w ↦
          record {
            found = ap (λ x. entries_in x.items ++ filter p rest) w.found-is
                ∙ ap (λ es. entries_in found ++ es) (sym (ap (filter p) here ∙ ap (λ b. cond b (e ∷ filter p rest) (filter p rest)) w.in_default.ensures.seen)) ∙ c.loop-share.invariant.found;
            seen = subst (λ x. AreSeenBy v x.items) (sym w.found-is) c.loop-share.invariant.seen;
            last = c.sees.ensures.last;
          }
    ]
