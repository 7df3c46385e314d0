use Rattle.std.proofs.Common.{◌≡◌, Some, None, true, sym, ap, subst, ◌∙◌}
use Rattle.std.specs.Prelude.{filter, IfSome}
use Rattle.std.specs.List.{list_any}
use Rattle.std.specs.Arc.{arc_value}
use Rattle.std.specs.Option.{option_map}
use Rattle.access_rules.specs.Deciding.{deed}
use Rattle.registry_core.specs.Entries.{is_of_url}
use Rattle.access_rules.specs.declared.rule.Action.TheVariants.{Withdraw}
use Rattle.directory_judge.specs.Contents.{Withdraws}
use Rattle.directory_judge.specs.Judgements.{Grounds, Accepts, entries_in, first_of, concerned_entries, is_kept, release, withdrawal_event}
use Rattle.directory_judge.specs.Walks.{entry_in, IsRuling}
use Rattle.directory_judge.proofs.ConcernedEntries.{none-passes}
use Rattle.directory_judge.proofs.Rulings.{not-kept, ruling-first}
use Rattle.directory_judge.proofs.Steps.{judgement-some}
use Rattle.directory_judge.proofs.grounds.Grounds.judge_stored.Goals as goal

pub returns : goal.returns
returns g c =
    let on = c.args.self.now in
    let url = (arc_value c.args.withdrawn).url in
    let scopes = (arc_value c.args.withdrawn).scopes in
    let f = c.in-Some.first.entry.now in
    let same : c.deref.result.now ≡ arc_value c.args.withdrawn = c.deref.ensures in
    let some : list_any (is_of_url url) (entries_in on.live) ≡ true = sym (rw same at c.walk-walk.ensures.is_live) ∙ c.if-not-walk.false in
    let first_is : first_of (concerned_entries on url scopes) ≡ Some f = sym (rw same at c.walk-walk.ensures.first) ∙ ap (option_map entry_in) c.in-Some.is in
    let kept_is : first_of (filter (is_kept on.rules on.asker) (concerned_entries on url scopes)) ≡ None = sym (rw same at c.walk-walk.ensures.kept) ∙ ap (option_map entry_in) c.in_default-kept.is in
    let ruled : IsRuling on c.in-Some.first = subst (λ o. IfSome o (IsRuling on)) c.in-Some.is c.walk-walk.ensures.ruled.first in
    let because : c.in_ok-because.because ≡ release on f =
    c.in_ok-because.ensures ∙ ruling-first on.rules (deed on.asker Withdraw f.kind f.owner) f.scopes c.in-Some.first.finding ruled
    (not-kept on.rules on.asker f (none-passes (is_kept on.rules on.asker) (concerned_entries on url scopes) f first_is kept_is)) in (
      withdrawal_event on url scopes,
      judgement-some on url scopes (Some f) None some first_is kept_is ∙ ap (Accepts (withdrawal_event on url scopes)) (sym because),
      ap (λ (v : Grounds). Withdraws v.now (record { url = url; scopes = scopes })) c.self.view_is,
    )
