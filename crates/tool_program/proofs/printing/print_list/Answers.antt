use Rattle.std.proofs.Common.{rules}
use Rattle.tool_program.proofs.Lines.{list_printed}
use Rattle.tool_program.proofs.printing.print_list.Goals as goal

pub returns : goal.returns
returns g c = list_printed c.args.list.now c.write_all.result _ _ _ (search rules) c.in_ok-print_parts.ensures c.write_all.ensures.bytes
