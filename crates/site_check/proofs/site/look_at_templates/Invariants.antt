use Rattle.std.proofs.Common.{take}
use Rattle.std.specs.Option.{option_copied}
use Rattle.site_check.proofs.Sites.{AreLookedAt}
use Rattle.site_check.proofs.site.look_at_templates.Given as goal

abbrev pub invariant-loop-path : goal.invariant-loop-path
invariant-loop-path g l =
    AreLookedAt (option_copied l.rules) (take l.path-index l.paths) l.templates l.told (g.W.Write.contents l.initial.writer) (g.W.Write.contents l.writer)
