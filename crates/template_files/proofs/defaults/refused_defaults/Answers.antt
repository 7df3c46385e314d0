use Rattle.std.proofs.Common.{◌≡◌}
use Rattle.std.specs.Str.Lines.{lines}
use Rattle.std.proofs.lemmas.Iterator.Consumers.{map_from_collect}
use Rattle.std.proofs.lemmas.Iterator.Splits.{YieldsList-from_lines}
use Rattle.template_files.specs.Stops.{texts_of}
use Rattle.template_files.proofs.defaults.refused_defaults.Goals as goal

pub returns : goal.returns
returns c =
    let all : texts_of c.in_ok-lines.lines.items ≡ lines c.args.text.now =
    let read = map_from_collect c.collect.result c.collect.ensures.ran (YieldsList-from_lines {s = c.lines.result} c.args.text.now c.lines.ensures.rest) in
    rw c.in_ok-lines.was at read in
    rw (c.deref.ensures.value, all) at c.refused_of.ensures
