use Rattle.std.proofs.Common.{◌≡◌, Option, sym, ap, ap₂, ◌∙◌}
use Rattle.std.specs.Arc.{arc_value}
use Rattle.std.specs.Prelude.{unwrap_or}
use Rattle.std.specs.Option.{option_map, option_or}
use Rattle.std.specs.FinMap as fin
use Rattle.registry_core.specs.Entries.{pair_of}
use Rattle.directory_judge.specs.Contents.{Stores, content_on}
use Rattle.directory_judge.specs.Judgements.{Grounds, Judgement, Accepts, because_of, because_of_entry, denial_of_old, denial, denial_of_room, denial_of_template}
use Rattle.directory_judge.specs.NamedEntries.{particulars_named}
use Rattle.directory_judge.proofs.grounds.Grounds.judge_new.Goals as goal

pub returns : goal.returns
returns g c = λ a of.
    let on = c.args.self.now in
    let e = c.args.named in
    let last : (x : Judgement) → unwrap_or (option_or (denial_of_old on (fin.get on.live (pair_of e))) (option_or (denial_of_template on e.kind e.attrs) (denial_of_room on (pair_of e) (particulars_named e)))) x ≡ x = λ x.
    ap (λ (o : Option Judgement). unwrap_or o x) (sym c.objection.ensures ∙ ap (option_map (λ r. denial (because_of r))) c.in_default.is) in
    let made : arc_value c.in_ok-entry.entry ≡ e = c.in_ok-entry.ensures.ok in (
      record { moment = on.now; act = a },
      last _ ∙ ap (λ x. Accepts (record { moment = on.now; act = a }) (because_of_entry c.args.decider x)) (sym made),
      ap₂ Stores (ap (λ (v : Grounds). v.now) c.self.view_is) (made ∙ sym of.2) ∙ ap (λ x. content_on on.live (record { moment = on.now; act = x })) (sym of.1),
    )
