use Rattle.std.proofs.Common.{rules, sym, ◌∙◌}
use Rattle.std.proofs.lemmas.Iterator.{YieldsList-from_slice}
use Rattle.std.proofs.lemmas.Iterator.Search.{all_from_yields_List}
use Rattle.std.proofs.lemmas.List.Folds.{list_all-map}
use Rattle.template_files.specs.Faults.{is_flag}
use Rattle.template_files.proofs.faults.are_flags.Goals as goal

pub returns : goal.returns
returns c =
    all_from_yields_List (λ w. is_flag w.now) _ _ c.all.result c.all.ensures.ran (YieldsList-from_slice c.args.words.now cc) (λ x b q k. (search rules, search rules))
    ∙ sym (list_all-map is_flag (λ w. w.now) c.args.words.now)
