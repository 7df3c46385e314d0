use Rattle.directory_state.proofs.OpenEntries.{listed-once}
use Rattle.directory_state.proofs.directory.Directory.gather_about.Goals as goal

pub gathered-requires : goal.gathered-requires
gathered-requires g c = listed-once _ (g.R.Registry.contents c.self.inside.registry) _ c.in_ok-entries-in-Place.ensures
