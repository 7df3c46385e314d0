use Rattle.std.proofs.Common.{◌≡◌, ◌==◌, Bool, length, ap}
use Rattle.std.specs.Option.{option_copied}
use Rattle.std.proofs.lemmas.Result.{IfOk-weaker}
use Rattle.slp_headers.specs.Headers.{heading_in}
use Rattle.directory_judge.specs.Judgements.{by_step}
use Rattle.directory_judge.specs.declared.reason.Decider.TheVariants as decider
use Rattle.directory_questions.specs.Outcomes.{Outcome, outcome, sent_of}
use Rattle.slp_replies.proofs.TextFronts.{listed-cut, listed-some}
use Rattle.slp_replies.proofs.replies.Reply.texts.Goals as goal

pub written-requires-clause-written : goal.written-requires-clause-written
written-requires-clause-written g c = listed-some c.args.form (heading_in c.args.self.now.heard.now.header) c.args.self.now.heard.now.call.now.limit (g.T.Texts.texts c.args.texts.now) c.put_listed.new.bytes.items c.in_ok-put_listed.ensures

pub returns : goal.returns
returns g c =
    let head = heading_in c.args.self.now.heard.now.header in
    let texts = g.T.Texts.texts c.args.texts.now in
    let limit = c.args.self.now.heard.now.call.now.limit in
    let whole = c.put_listed.new.bytes.items in
    let empty : (c.number.result == 0) ≡ (length texts == 0) = ap (λ n. n == 0) c.number.ensures in
    let told : Bool → Outcome = λ b. outcome (sent_of head 0 b whole) 0 (by_step decider.Nobody (option_copied c.args.kind)) in
    IfOk-weaker c.written.result _ _
    (λ what tells. (
      told (c.number.result == 0),
      record {
        whole = whole;
        cut = listed-cut c.args.form head limit texts whole c.in_ok-put_listed.ensures;
        sent = ap told empty;
      },
      tells,
    ))
    c.written.ensures
