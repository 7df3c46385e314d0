use Rattle.std.proofs.Common.{◌≡◌, sym, ap, ◌∙◌}
use Rattle.std.specs.Prelude.{not}
use Rattle.std.specs.Arc.{arc_value}
use Rattle.std.specs.FinMap as fin
use Rattle.registry_core.specs.Entries.{if_kept, passing_entries}
use Rattle.registry_core.proofs.Lists.{passing_entries-is}
use Rattle.directory_judge.specs.History.{Withdrawing}
use Rattle.directory_judge.specs.Contents.{content, Withdraws}
use Rattle.directory_state.specs.State.{State, is_withdrawn, state_changed}
use Rattle.directory_state.proofs.States.{same_state}
use Rattle.directory_state.proofs.directory.Directory.make.Goals as goal

pub returns-in-Withdraw : goal.returns-in-Withdraw
returns-in-Withdraw g c =
    let old = c.args.self.now in
    let w : Withdrawing = record { url = (arc_value c.in-Withdraw.withdrawn).url; scopes = (arc_value c.in-Withdraw.withdrawn).scopes } in
    let here = g.R.Registry.contents c.self.inside.registry in
    let words : ◌≡◌ {A = Withdrawing} (record { url = c.deref-in-Withdraw.result.now.url; scopes = c.deref-in-Withdraw-2.result.now.scopes }) w =
    λ i. record { url = (c.deref-in-Withdraw.ensures i).url; scopes = (c.deref-in-Withdraw-2.ensures i).scopes } in
    let removed = passing_entries-is (λ e. not (is_withdrawn w e)) here (g.R.Registry.contents c.remove_url.new.self) (λ q.
    c.remove_url.ensures.each q ∙ ap (λ v. if_kept (λ e. not (is_withdrawn v e)) (fin.get here q)) words) in
    same_state (state_changed (Withdraws c.in-Withdraw.field-0 w) old) _ _ _ _
    (removed ∙ ap (λ (s : State). passing_entries (λ e. not (is_withdrawn w e)) s.entries) c.self.view_is)
    (ap (λ (s : State). s.rules) c.self.view_is) (ap (λ (s : State). s.site) c.self.view_is) (ap (λ (s : State). s.clock) c.self.view_is)
    ∙ ap (λ x. state_changed (content x) old) (sym c.in-Withdraw.is)
