use Rattle.std.proofs.Common.{Some, None, sym, ap, ◌∙◌, subst}
use Rattle.std.specs.Prelude.{not, MatchOption}
use Rattle.access_rules.specs.Deciding.{deed_in}
use Rattle.directory_state.specs.Searches.{IsSight, ShowsAll}
use Rattle.directory_state.proofs.ShownEntries.{hides-about, hides-there, left-all}
use Rattle.directory_state.proofs.asked.Viewer.sight.Goals as goal

pub returns-in_err-tables : goal.returns-in_err-tables
returns-in_err-tables c =
    let v = c.args.self.now in
    let e = c.args.seen.entry.now in
    let first = c.args.seen.first in
    let hides = hides-there v e None (deed_in c.seeing.result) first c.at.result.now c.seeing.ensures c.at.ensures
    (λ tag. c.in_err-tables.ensures tag ∙ hides-about v e (deed_in c.seeing.result) c.at.result.now c.seeing.ensures tag) in
    subst (λ o. MatchOption o (ShowsAll v e) (IsSight v e)) (sym c.from_residual.ensures) (left-all v e first c.requires (λ tag. ap not (sym (hides tag))))

pub returns : goal.returns
returns c =
    let v = c.args.self.now in
    let e = c.args.seen.entry.now in record {
      first = c.requires;
      hidden = hides-there v e (Some c.in_ok-tables.tables) (deed_in c.seeing.result) c.args.seen.first c.at.result.now c.seeing.ensures c.at.ensures
          (λ tag. c.in_ok-tables.ensures tag ∙ hides-about v e (deed_in c.seeing.result) c.at.result.now c.seeing.ensures tag);
    }
