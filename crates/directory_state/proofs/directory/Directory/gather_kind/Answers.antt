use Rattle.std.proofs.Common.{Some}
use Rattle.registry_core.specs.Entries.{is_kind}
use Rattle.directory_state.proofs.OpenEntries.{listed-once}
use Rattle.directory_state.proofs.directory.Directory.gather_kind.Goals as goal

pub gathered-requires : goal.gathered-requires
gathered-requires g c = listed-once (is_kind (Some c.args.kind.now)) (g.R.Registry.contents c.self.inside.registry) _ c.in_ok-entries.ensures.whole
