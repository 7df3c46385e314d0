use Rattle.std.proofs.Common.{◌≡◌, ◌+◌, [], ◌∷◌, drop, map, sym, ap, ◌∙◌}
use Rattle.std.specs.Prelude.{filter}
use Rattle.std.specs.Arc.{arc_value}
use Rattle.registry_core.specs.declared.entry.Entry.{Entry}
use Rattle.registry_core.proofs.Lists.{entry_here}
use Rattle.directory_state.specs.Searches.{is_found, is_seen, joined, spoken_of, bytes_in, cost_in, cut_in, deadlines_with}
use Rattle.directory_state.proofs.Cuts.{looked-entry, nothing-before}
use Rattle.directory_state.proofs.Languages.{spoken_of-turn}
use Rattle.directory_state.proofs.search.Shortlist.collect_shares.Goals as goal

pub loop-share-preserved-then-is_past : goal.loop-share-preserved-then-is_past
loop-share-preserved-then-is_past c =
    let p = is_found c.args.question.now in
    let e : Entry = c.deref-entry.result.now in
    let room = c.args.self.now.room in
    let latest = c.loop-share.self.latest in
    let all = map arc_value c.args.shares.now in
    let rest = drop (c.loop-share.share-index + 1) all in
    let here = entry_here arc_value c.args.shares.now c.loop-share.share-index c.share-item.result e c.loop-share-test.true c.share-item.is c.deref-entry.ensures in
    let past = c.is_past.ensures c.if-is_past.true in
    let step : latest ≡ cut_in room (deadlines_with (filter p (e ∷ [])) latest) = sym (past.1 p) ∙ ap (λ r. cut_in r (deadlines_with (filter p (e ∷ [])) latest)) c.loop-share.invariant.room in record {
      room = c.loop-share.invariant.room;
      kept = c.loop-share.invariant.kept;
      last = c.loop-share.invariant.last;
      found = looked-entry (cost_in room) (bytes_in room) p e (drop c.loop-share.share-index all) rest latest latest here step ∙ c.loop-share.invariant.found;
      spoken = λ empty. absurd (past.0 empty);
    }

pub loop-share-preserved : goal.loop-share-preserved
loop-share-preserved c =
    let p = is_found c.args.question.now in
    let e : Entry = c.deref-entry.result.now in
    let room = c.args.self.now.room in
    let latest = c.loop-share.self.latest in
    let all = map arc_value c.args.shares.now in
    let rest = drop (c.loop-share.share-index + 1) all in
    let here = entry_here arc_value c.args.shares.now c.loop-share.share-index c.share-item.result e c.loop-share-test.true c.share-item.is c.deref-entry.ensures in
    let step = c.in_ok-spoken.ensures.found ∙ ap (λ r. cut_in r (deadlines_with (filter p (e ∷ [])) latest)) c.loop-share.invariant.room in record {
      room = c.look.ensures.room ∙ c.loop-share.invariant.room;
      kept = c.in_ok-spoken.ensures.kept;
      last = c.look.ensures.last;
      found = looked-entry (cost_in room) (bytes_in room) p e (drop c.loop-share.share-index all) rest latest c.look.new.self.latest here step ∙ c.loop-share.invariant.found;
      spoken = λ empty.
          let query = c.args.question.now.query.now in
          let seen = is_seen c.args.question.now.viewer in
          let before : latest ≡ [] = nothing-before (cost_in room) (bytes_in room) (filter p (e ∷ [])) latest (sym step ∙ empty) in
          spoken_of-turn query seen c.loop-share.spoken _ _ e rest
          (c.loop-share.invariant.spoken before ∙ ap (λ es. joined c.loop-share.spoken (spoken_of query (filter seen es))) here)
          (c.in_ok-spoken.ensures.spoken empty);
    }
