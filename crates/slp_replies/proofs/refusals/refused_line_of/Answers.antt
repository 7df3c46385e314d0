use Rattle.std.proofs.Common.{Option, sym, ap, ◌∙◌}
use Rattle.slp_headers.specs.Headers.{Heading, heading_in, reply_function_of}
use Rattle.access_rules.specs.Deciding.{no_rules}
use Rattle.directory_questions.specs.Outcomes.{refusal_outcome}
use Rattle.slp_replies.specs.Tellings.{line_of}
use Rattle.slp_replies.proofs.RefusalLines.{answered, line_is_refused}
use Rattle.slp_replies.proofs.refusals.refused_line_of.Goals as goal

pub returns : goal.returns
returns c =
    let heard = c.args.heard.now in
    let some = answered heard.request in
    line_is_refused heard.call.now.asker (heading_in heard.header) some.0 c.action.result c.put_refusal.new.told.items
    (some.1 ∙ ap reply_function_of heard.asked) c.action.ensures c.put_refusal.ensures
    ∙ sym (ap (λ (o : Option Heading). line_of no_rules heard.call.now.asker o (refusal_outcome o)) heard.headed)
