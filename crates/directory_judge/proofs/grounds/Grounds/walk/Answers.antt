use Rattle.std.proofs.Common.{◌≡◌, sym, ap, ◌∙◌}
use Rattle.registry_core.specs.Entries.{outlives, passing_entries}
use Rattle.directory_judge.specs.Judgements.{Grounds}
use Rattle.directory_judge.proofs.ConcernedEntries.{any-of_url, first-concerned, first-kept}
use Rattle.directory_judge.proofs.LanguageWalks.{ahead-first, ahead-is_live, ahead-kept}
use Rattle.directory_judge.proofs.grounds.Grounds.walk.Goals as goal

pub returns-clause-is_live : goal.returns-clause-is_live
returns-clause-is_live g c =
    let m = g.R.Registry.contents c.self.inside.registry.now in
    let whole = g.R.Registry.rest_of_url c.self.inside.registry.now c.args.withdrawn.now.url 0 in
    let live : c.args.self.now.live ≡ passing_entries (outlives c.args.self.now.now) m = sym (ap (λ (v : Grounds). v.live) c.self.view_is) ∙ ap (λ (v : Grounds). passing_entries (outlives v.now) m) c.self.view_is in
    ahead-is_live _ _ _ _ _ c.loop-entry.invariant c.in_default.ensures.next ∙ any-of_url c.args.self.now m live c.args.withdrawn.now.url whole c.by_url.ensures.whole

pub returns-clause-first : goal.returns-clause-first
returns-clause-first g c =
    let m = g.R.Registry.contents c.self.inside.registry.now in
    let whole = g.R.Registry.rest_of_url c.self.inside.registry.now c.args.withdrawn.now.url 0 in
    let live : c.args.self.now.live ≡ passing_entries (outlives c.args.self.now.now) m = sym (ap (λ (v : Grounds). v.live) c.self.view_is) ∙ ap (λ (v : Grounds). passing_entries (outlives v.now) m) c.self.view_is in
    ahead-first _ _ _ _ _ c.loop-entry.invariant c.in_default.ensures.next ∙ first-concerned c.args.self.now m live c.args.withdrawn.now.url whole c.by_url.ensures.whole c.args.withdrawn.now.scopes

pub returns-clause-kept : goal.returns-clause-kept
returns-clause-kept g c =
    let m = g.R.Registry.contents c.self.inside.registry.now in
    let whole = g.R.Registry.rest_of_url c.self.inside.registry.now c.args.withdrawn.now.url 0 in
    let live : c.args.self.now.live ≡ passing_entries (outlives c.args.self.now.now) m = sym (ap (λ (v : Grounds). v.live) c.self.view_is) ∙ ap (λ (v : Grounds). passing_entries (outlives v.now) m) c.self.view_is in
    ahead-kept _ _ _ _ _ c.loop-entry.invariant c.in_default.ensures.next ∙ first-kept c.args.self.now m live c.args.withdrawn.now.url whole c.by_url.ensures.whole c.args.withdrawn.now.scopes
