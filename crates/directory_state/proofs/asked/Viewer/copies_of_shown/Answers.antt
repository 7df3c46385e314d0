use Rattle.std.proofs.Common.{sym}
use Rattle.directory_state.proofs.asked.Viewer.copies_of_shown.Goals as goal

pub copy_shown-requires : goal.copy_shown-requires
copy_shown-requires c = (c.requires c.seen-item.result (c.loop-seen.seen-index, c.loop-seen-test.true, sym c.seen-item.is)).1
