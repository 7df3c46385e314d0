use Rattle.std.proofs.Common.{List, ℕ, subst, ◌∙◌}
use Rattle.std.specs.Prelude.{MatchResult}
use Rattle.slp_headers.specs.Headers.{heading_in}
use Rattle.directory_questions.specs.Calls.{call_in}
use Rattle.directory_questions.specs.Readings.{IsAsked, IsUnread}
use Rattle.slp_answer.proofs.AnswersTold.{fault-replies}
use Rattle.slp_answer.proofs.gathering.begin_asked.Goals as goal

pub returns-in_ok-sent-in-Err-clause-told : goal.returns-in_ok-sent-in-Err-clause-told
returns-in_ok-sent-in-Err-clause-told g c = λ o h fold legal.
    let heard = c.args.heard.now in
    let bytes : List ℕ = heard.call.now.bytes.now in
    let answer = c.fault.new.answer in
    let unread : IsUnread bytes c.in-Err.fault = subst (λ r. MatchResult r (IsAsked heard.call.now.own bytes) (IsUnread bytes)) c.in-Err.is c.requires.read in
    fault-replies o h (call_in heard.call.now) c.in_ok-sent-in-Err.sent answer.bytes.items answer.audit.items (heading_in heard.header) c.in-Err.fault c.rules.result.now (c.rules.ensures ∙ fold.ruled) heard.headed unread
    c.in_ok-sent-in-Err.ensures
