use Rattle.std.proofs.Common.{sym, ap, ap₂, ◌∙◌}
use Rattle.std.proofs.lemmas.Result.{err_from_is_err_and}
use Rattle.directory_judge.specs.Contents.{Stores, Edits, Withdraws, Reloads, content}
use Rattle.directory_judge.specs.declared.change.Withdrawn.{Withdrawn}
use Rattle.directory_judge.proofs.change.Change.share.Goals as goal

pub returns-in_err-share-in-Put : goal.returns-in_err-share-in-Put
returns-in_err-share-in-Put c =
    let p = err_from_is_err_and c.from_residual.result c.from_residual.ensures.1 in
    rw p.1 tt

pub returns-in_err-share-in-Edit : goal.returns-in_err-share-in-Edit
returns-in_err-share-in-Edit c =
    let p = err_from_is_err_and c.from_residual-in_err-share-in-Edit.result c.from_residual-in_err-share-in-Edit.ensures.1 in
    rw p.1 tt

pub returns-in_err-withdrawn-in-Withdraw : goal.returns-in_err-withdrawn-in-Withdraw
returns-in_err-withdrawn-in-Withdraw c =
    let p = err_from_is_err_and c.from_residual-in_err-withdrawn-in-Withdraw.result c.from_residual-in_err-withdrawn-in-Withdraw.ensures.1 in
    rw p.1 tt

pub returns-in_err-rules-in-Reload : goal.returns-in_err-rules-in-Reload
returns-in_err-rules-in-Reload c =
    let p = err_from_is_err_and c.from_residual-in_err-rules-in-Reload.result c.from_residual-in_err-rules-in-Reload.ensures.1 in
    rw p.1 tt

pub returns-in_ok-share-in-Put : goal.returns-in_ok-share-in-Put
returns-in_ok-share-in-Put c =
    ap₂ Stores c.in_ok-share-in-Put.ensures.moment c.in_ok-share-in-Put.ensures.entry ∙ ap content (sym c.in-Put.is)

pub returns-in_ok-share-in-Edit : goal.returns-in_ok-share-in-Edit
returns-in_ok-share-in-Edit c =
    ap₂ Edits c.in_ok-share-in-Edit.ensures.moment c.in_ok-share-in-Edit.ensures.entry ∙ ap content (sym c.in-Edit.is)

pub returns-in_ok-withdrawn-in-Withdraw : goal.returns-in_ok-withdrawn-in-Withdraw
returns-in_ok-withdrawn-in-Withdraw c =
    ap (λ (w : Withdrawn). Withdraws c.in-Withdraw.moment (record { url = w.url; scopes = w.scopes })) c.in_ok-withdrawn-in-Withdraw.ensures ∙ ap content (sym c.in-Withdraw.is)

pub returns-in-Sweep : goal.returns-in-Sweep
returns-in-Sweep c = ap content (sym c.in-Sweep.is)

pub returns-in_ok-rules-in-Reload : goal.returns-in_ok-rules-in-Reload
returns-in_ok-rules-in-Reload c =
    ap (Reloads c.in-Reload.moment) c.in_ok-rules-in-Reload.ensures ∙ ap content (sym c.in-Reload.is)
