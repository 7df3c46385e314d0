use Rattle.std.proofs.Common.{◌≡◌, List, [], max, map, ap, subst, sym, ◌∙◌}
use Rattle.std.specs.Prelude.{filter, is_some}
use Rattle.registry_core.specs.declared.entry.Entry.{Entry}
use Rattle.directory_questions.specs.Calls.{standpoint}
use Rattle.directory_questions.specs.Items.{AreServices}
use Rattle.directory_questions.specs.declared.query.Target.TheVariants.{Kind}
use Rattle.directory_state.specs.Searches.{cut_in, deadlines_with, is_found, is_seen, item_at, spoken_of}
use Rattle.directory_state.specs.State.{State}
use Rattle.directory_state.specs.declared.search.Spoken.TheVariants.{Others}
use Rattle.directory_state.proofs.SearchAnswers.{foreign-is, is-foreign, nothing_found, services-are}
use Rattle.directory_state.proofs.SeenUrls.{no_other}
use Rattle.directory_state.proofs.Sources.{of-some, source-clock, source-listing}
use Rattle.directory_state.proofs.source.Source.search.Goals as goal
use Rattle.directory_state.proofs.source.Source.search.Goals.{else-is_some-via-then-is_some+then-is_empty+else-matches, in-Others, in_default-matches, else-is_some-via-then-is_some+else-is_empty, else-is_some-via-else-is_some}

pub returns-then-matches-clause-language : goal.returns-then-matches-clause-language
returns-then-matches-clause-language g c = λ o h k legal.
    let s : State = k.state in
    let query = c.args.query.now in
    let viewer = c.in-Some.viewer in
    let looked = of-some _ _ _ c.in-Some-2.is c.in_ok-spoken.ensures.found in
    let all : List Entry = looked.0 in
    let fold = k.fold in
    let listing = source-listing (Kind query.kind) s c.args.self.now all k.source looked.1 in
    let by = c.in-Some.ensures.viewer (Kind query.kind) s k.source in
    let told : c.in-Some-2.spoken ≡ Others = elim c.match-matches.branch [
      | in-Others w ↦ w.in-Others.is
      | in_default-matches w ↦ absurd (no_other c.match-matches.matches c.if-matches.true w.matches-is)
    ] in
    let others : spoken_of query (filter (is_seen viewer) all) ≡ Others = sym (looked.3 (c.is_empty.ensures.0 c.if-is_empty.true)) ∙ told in
    ((λ _. foreign-is o h s c.args.moment c.args.asker query viewer all fold by listing (sym c.is_some.ensures ∙ c.if-is_some.true) others), tt)

pub returns-clause-language : goal.returns-clause-language
returns-clause-language g c = λ o h k legal.
    let s : State = k.state in
    let query = c.args.query.now in
    let viewer = c.in-Some.viewer in
    let looked = of-some _ _ _ c.in-Some-2.is c.in_ok-spoken.ensures.found in
    let all : List Entry = looked.0 in
    let fold = k.fold in
    let listing = source-listing (Kind query.kind) s c.args.self.now all k.source looked.1 in
    let by = c.in-Some.ensures.viewer (Kind query.kind) s k.source in (
      (λ x. absurd cc),
      (λ f.
          let others : spoken_of query (filter (is_seen viewer) all) ≡ Others = is-foreign o h s c.args.moment c.args.asker query viewer all fold by listing f in
          elim c.else-is_some.branch [
            | else-is_some-via-then-is_some+then-is_empty+else-matches w ↦ elim w.match-matches.branch [
              | in-Others x ↦ no_other w.match-matches.matches x.matches-is w.if-matches.false
              | in_default-matches x ↦ x.in_default-matches.not-Others (looked.3 (w.is_empty.ensures.0 w.if-is_empty.true) ∙ others)
            ]
            | else-is_some-via-then-is_some+else-is_empty w ↦
                let nothing = nothing_found query viewer all f.filtered others in
                let empty = w.is_empty.ensures.1 (looked.2 ∙ ap (λ es. cut_in c.args.room (deadlines_with es c.new.result)) nothing ∙ ap (cut_in c.args.room) c.new.ensures) in
                no_other w.is_empty.result empty w.if-is_empty.false
            | else-is_some-via-else-is_some w ↦ no_other (is_some query.filter) f.filtered (sym c.is_some.ensures ∙ w.if-is_some.false)
          ]),
    )

pub returns-clause-items : goal.returns-clause-items
returns-clause-items g c = λ o h k legal.
    let s : State = k.state in
    let query = c.args.query.now in
    let viewer = c.in-Some.viewer in
    let looked = of-some _ _ _ c.in-Some-2.is c.in_ok-spoken.ensures.found in
    let all : List Entry = looked.0 in
    let fold = k.fold in
    let listing = source-listing (Kind query.kind) s c.args.self.now all k.source looked.1 in
    let by = c.in-Some.ensures.viewer (Kind query.kind) s k.source in
    let found = is_found (record { query = c.args.query; viewer = viewer }) in
    let clock = source-clock (Kind query.kind) s c.args.self.now k.source in (
      deadlines_with (filter found all) [],
      subst (λ t. AreServices (standpoint o h c.args.moment c.args.asker) query (map (item_at (max c.args.moment t)) (deadlines_with (filter found all) []))) (sym clock)
          (services-are o h s c.args.moment c.args.asker query viewer all fold by listing legal),
      looked.2 ∙ ap (λ ds. cut_in c.args.room (deadlines_with (filter found all) ds)) c.new.ensures,
    )
