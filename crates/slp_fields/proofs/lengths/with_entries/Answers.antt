use Rattle.slp_fields.proofs.ListLengths.{are_sound}
use Rattle.slp_fields.proofs.lengths.with_entries.Goals as goal

pub returns-clause-sound : goal.returns-clause-sound
returns-clause-sound c = are_sound c.args.entries.now c.loop-entry.entry-index c.args.total c.loop-entry.total c.loop-entry-test.false c.loop-entry.invariant.length c.loop-entry.invariant.sound
