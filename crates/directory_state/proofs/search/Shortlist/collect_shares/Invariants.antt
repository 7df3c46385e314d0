use Rattle.std.proofs.Common.{◌≡◌, [], drop, filter, map}
use Rattle.std.specs.Prelude.{IfSome}
use Rattle.std.specs.Arc.{arc_value}
use Rattle.directory_state.specs.Searches.{deadlines_with, is_found, is_seen, joined, spoken_of, cut_in, IsKept, IsLook}
use Rattle.directory_state.proofs.search.Shortlist.collect_shares.Given as goal

-- with what is still to come, what is kept makes all that is found; the last look is one
abbrev pub invariant-loop-share : goal.invariant-loop-share
invariant-loop-share l =
    let all = map arc_value l.shares in record {
      room : l.self.room ≡ l.initial.self.room;
      kept : IsKept l.self;
      last : IfSome l.last (IsLook l.question.viewer);
      found : cut_in l.initial.self.room (deadlines_with (filter (is_found l.question) (drop l.share-index all)) l.self.latest)
          ≡ cut_in l.initial.self.room (deadlines_with (filter (is_found l.question) all) l.initial.self.latest);
      spoken : l.self.latest ≡ [] → spoken_of l.question.query.now (filter (is_seen l.question.viewer) all)
          ≡ joined l.spoken (spoken_of l.question.query.now (filter (is_seen l.question.viewer) (drop l.share-index all)));
    }
