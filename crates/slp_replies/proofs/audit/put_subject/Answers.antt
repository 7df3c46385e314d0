use Rattle.std.proofs.Common.{◌≡◌, ◌++◌, ap, subst, ◌∙◌, append_assoc}
use Rattle.std.specs.Prelude.{OnOk}
use Rattle.std.specs.Option.{option_copied}
use Rattle.slp_replies.specs.Audits.{ending_text, text_or_dash}
use Rattle.slp_replies.proofs.audit.put_subject.Goals as goal

pub returns-clause-ok : goal.returns-clause-ok
returns-clause-ok g c =
    let start = g.S.Sink.written c.args.sink.now in
    let kind = text_or_dash (option_copied c.args.kind) in
    let ending = ending_text (option_copied c.args.scope) in
    let named = c.in_ok-put.ensures.ok ∙ ap (λ k. start ++ k) (c.as_bytes.ensures.value ∙ c.kind_text.ensures) in
    subst (λ t. OnOk c.put_ending.result (g.S.Sink.written c.put_ending.new.sink ≡ t)) (ap (λ w. w ++ ending) named ∙ append_assoc start kind ending) c.put_ending.ensures.ok
