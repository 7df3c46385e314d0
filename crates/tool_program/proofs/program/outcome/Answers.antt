use Rattle.std.proofs.Common.{inr}
use Rattle.tool_program.proofs.Answering.{answers}
use Rattle.tool_program.proofs.program.outcome.Goals as goal

pub returns-in-Ok : goal.returns-in-Ok
returns-in-Ok g c =
    answers c.args.call.1 c.header_with-header.result c.ask.result _ c.in_default.not-Keep c.header_with-header.ensures.xid c.header_with-header.ensures.language
    (inr (c.in-Ok.request.items, c.in-Ok.ensures, c.ask.ensures))
