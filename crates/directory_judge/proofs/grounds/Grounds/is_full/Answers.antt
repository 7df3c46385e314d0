use Rattle.std.proofs.Common.{ap, sym, arith}
use Rattle.std.proofs.lemmas.Bool.{lt-leb}
use Rattle.std.specs.FinMap as fin
use Rattle.registry_core.specs.Entries.{outlives}
use Rattle.directory_judge.specs.Judgements.{Grounds}
use Rattle.directory_judge.proofs.Maps.{len-passing_entries}
use Rattle.directory_judge.proofs.grounds.Grounds.is_full.Goals as goal

pub returns-then-len-capacity : goal.returns-then-len-capacity
returns-then-len-capacity g c =
    let part = len-passing_entries (outlives c.self.inside.moment) (g.R.Registry.contents c.self.inside.registry.now) in
    let lives = ap (λ (v : Grounds). fin.len v.live) c.self.view_is in
    let site = ap (λ (v : Grounds). v.site.capacity) c.self.view_is in
    sym (lt-leb _ _ (omega (arith, part, lives, site, c.len.ensures.value, c.capacity.ensures.value, c.if-len-capacity.true)))
