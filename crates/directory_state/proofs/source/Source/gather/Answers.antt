use Rattle.std.proofs.Common.{map, sym, ap, subst, ◌∙◌, filter}
use Rattle.std.specs.Arc.{arc_value}
use Rattle.std.proofs.lemmas.Result.{IfOk-weaker}
use Rattle.directory_questions.specs.Items.{is_target}
use Rattle.directory_state.specs.Searches.{is_seen, HasOneOfEachPair}
use Rattle.directory_state.proofs.OpenEntries.{seen-once}
use Rattle.directory_state.proofs.Sources.{once-filtered}
use Rattle.directory_state.proofs.source.Source.gather.Goals as goal

pub returns-in-Whole-clause-once : goal.returns-in-Whole-clause-once
returns-in-Whole-clause-once g c =
    IfOk-weaker c.gather_about.result _ _
    (λ v f. subst HasOneOfEachPair (sym f.found) (seen-once (is_target c.args.target.now) (g.R.Registry.contents c.registry.result.now) f.all f.listing (is_seen c.args.viewer.now)))
    c.gather_about.ensures.found

pub returns-in-Part-clause-once : goal.returns-in-Part-clause-once
returns-in-Part-clause-once g c =
    let seen = is_seen c.args.viewer.now in
    IfOk-weaker c.gather_shares.result _ _
    (λ v found. subst HasOneOfEachPair (sym (found ∙ ap (λ es. filter seen (map arc_value es)) c.deref.ensures.value)) (once-filtered seen _ c.in-Part.gathered.now.once))
    c.gather_shares.ensures.found
