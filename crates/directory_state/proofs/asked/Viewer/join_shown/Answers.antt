use Rattle.std.proofs.Common.{sym}
use Rattle.directory_state.proofs.asked.Viewer.join_shown.Goals as goal

pub add_shown-requires : goal.add_shown-requires
add_shown-requires c = (c.requires c.seen-item.result (c.loop-seen.seen-index, c.loop-seen-test.true, sym c.seen-item.is)).1
