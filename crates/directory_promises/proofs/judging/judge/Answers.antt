use Rattle.std.proofs.Common.{subst}
use Rattle.std.proofs.lemmas.Result.{IfOk-weaker}
use Rattle.slp_messages.specs.declared.message.Message.{Message}
use Rattle.directory_judge.specs.Judgements.{IsJudgement, judgement, judgement_in}
use Rattle.directory_judge.specs.ReadChanges.{message_read}
use Rattle.directory_promises.proofs.judging.judge.Goals as goal

pub returns : goal.returns
returns g c =
    let on = c.args.grounds.now in
    IfOk-weaker c.judge-told.result (λ j. IsJudgement on.live (judgement_in j) (judgement on (message_read c.in_ok-read.read))) _
    (λ j. subst (λ (m : Message). IsJudgement on.live (judgement_in j) (judgement on m)) c.in_ok-read.ensures.message)
    c.judge-told.ensures
