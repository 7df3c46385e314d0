use Rattle.slp_headers.specs.Headers.{heading_in}
use Rattle.directory_judge.specs.Judgements.{finding_of, judgement_in}
use Rattle.directory_judge.specs.ReadChanges.{message_read}
use Rattle.slp_answer.proofs.AnswersTold.{judged-told}
use Rattle.slp_answer.proofs.acknowledgements.acknowledge_change.Goals as goal

pub returns-in-Ok : goal.returns-in-Ok
returns-in-Ok g c = λ o h fold legal.
    let reply = c.args.reply.now in
    judged-told o h reply.heard.now.call.now.moment reply.heard.now.call.now.asker (heading_in reply.heard.now.header) (message_read c.args.change) reply.rules.now c.in-Ok.sent c.code-told.new.answer.bytes.items c.code-told.new.answer.audit.items
    (judgement_in c.in_ok-decided.decided) (finding_of c.finding.result) c.change-change.result c.requires.sound legal (c.in_ok-decided.ensures o h fold legal) c.finding.ensures c.change-change.ensures
    c.in-Ok.ensures
