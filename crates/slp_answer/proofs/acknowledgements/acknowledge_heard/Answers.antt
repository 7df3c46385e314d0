use Rattle.std.proofs.Common.{◌≡◌, true, subst, sym, ◌∙◌}
use Rattle.std.proofs.lemmas.Result.{IfOk-weaker}
use Rattle.slp_headers.specs.Headers.{heading_in}
use Rattle.directory_judge.specs.ReadChanges.{message_read, IsReadAt}
use Rattle.directory_questions.specs.Answers.{is_change_of}
use Rattle.directory_questions.specs.Readings.{IsRead, IsUnread}
use Rattle.directory_questions.proofs.Requests.{heard_asks}
use Rattle.slp_answer.specs.AskedChanges.{IsAskedAt}
use Rattle.slp_answer.proofs.AnswersTold.{may-change, told-acknowledges, fault-acknowledges}
use Rattle.slp_answer.proofs.acknowledgements.acknowledge_heard.Goals as goal

pub acknowledge_change-requires-clause-sound : goal.acknowledge_change-requires-clause-sound
acknowledge_change-requires-clause-sound g c =
    let bytes = c.args.heard.now.call.now.bytes.now in
    let read : IsReadAt c.args.directory.now.site c.in-Ok.change × IsRead bytes (message_read c.in-Ok.change) = subst (IsAskedAt c.args.directory.now.site bytes) c.in-Ok.is c.requires.asked in
    read.1.sound

pub acknowledge_change-requires-clause-read : goal.acknowledge_change-requires-clause-read
acknowledge_change-requires-clause-read g c =
    let bytes = c.args.heard.now.call.now.bytes.now in
    let read : IsReadAt c.args.directory.now.site c.in-Ok.change × IsRead bytes (message_read c.in-Ok.change) = subst (IsAskedAt c.args.directory.now.site bytes) c.in-Ok.is c.requires.asked in
    read.0

pub returns-in-Ok : goal.returns-in-Ok
returns-in-Ok g c = λ o h fold legal.
    let heard = c.args.heard.now in
    let bytes = heard.call.now.bytes.now in
    let x = message_read c.in-Ok.change in
    let both : IsReadAt c.args.directory.now.site c.in-Ok.change × IsRead bytes x = subst (IsAskedAt c.args.directory.now.site bytes) c.in-Ok.is c.requires.asked in
    let read = both.1 in
    let asks : is_change_of bytes ≡ true = heard_asks heard true c.requires.change in
    IfOk-weaker c.acknowledge_change.result _ _
    (λ p told. told-acknowledges o h heard.call.now.moment heard.call.now.asker (heading_in heard.header) x c.rules.result.now
    p.0 c.acknowledge_change.new.answer.bytes.items c.acknowledge_change.new.answer.audit.items bytes p.1 (c.rules.ensures ∙ fold.ruled) heard.headed read.read (may-change x (sym read.change ∙ asks)) told)
    (c.acknowledge_change.ensures o h fold legal)

pub returns-in_ok-sent-in-Err : goal.returns-in_ok-sent-in-Err
returns-in_ok-sent-in-Err g c = λ o h fold legal.
    let heard = c.args.heard.now in
    let bytes = heard.call.now.bytes.now in
    let unread : IsUnread bytes c.in-Err.fault = subst (IsAskedAt c.args.directory.now.site bytes) c.in-Err.is c.requires.asked in
    fault-acknowledges o h heard.call.now.moment heard.call.now.asker bytes (heading_in heard.header) c.in-Err.fault c.rules.result.now c.in_ok-sent-in-Err.sent c.fault.new.answer.bytes.items c.fault.new.answer.audit.items
    (c.rules.ensures ∙ fold.ruled) heard.headed unread c.in_ok-sent-in-Err.ensures
