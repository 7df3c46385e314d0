use Rattle.std.proofs.Common.{◌≡◌, ℕ, List, [], ◌++◌, length, ap, ◌∙◌, arith}
use Rattle.access_rules.specs.declared.rule.Action.{Action}
use Rattle.directory_judge.specs.declared.reason.Because.{Because}
use Rattle.slp_replies.specs.Audits.{audit_text, line_text}
use Rattle.slp_replies.proofs.RefusalLines.{lacking, line_is_short}
use Rattle.slp_replies.proofs.refusals.put_refusal.Goals as goal

-- the line of code 10, by who decided on what
abbrev line_for : Action → ℕ → Because → List ℕ
line_for action asker because = line_text [] (record { code = 10; because = because; action = action; asker = asker })

pub unreachable-requires : goal.unreachable-requires
unreachable-requires c =
    let short = line_is_short c.args.action c.args.asker (omega arith) in
    let same = ap (λ b. length (line_for c.args.action c.args.asker b)) c.deny.ensures.because in
    let empty : length c.args.told.now.items ≡ 0 = ap (λ (items : List ℕ). length items) c.requires in omega (arith, short, same, c.in-Err.ensures.err, empty)

pub returns : goal.returns
unfolding audit_text
returns c =
    c.in-Ok.ensures.ok ∙ ap (λ b. c.args.told.now.items ++ line_for c.args.action c.args.asker b) c.deny.ensures.because
    ∙ ap (λ bytes. bytes ++ line_text [] (lacking c.args.action c.args.asker)) c.requires
