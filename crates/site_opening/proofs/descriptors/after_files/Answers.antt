use Rattle.std.proofs.Common.{◌≡◌, false, refl}
use Rattle.std.specs.Prelude.{nat_eq}
use Rattle.std.specs.List.{starts_with}
use Rattle.site_opening.specs.Descriptors.{files_word}
use Rattle.site_opening.proofs.Fronts.{no_front}
use Rattle.site_opening.proofs.descriptors.after_files.Goals as goal

pub returns-in-None : goal.returns-in-None
returns-in-None c =
    let other : starts_with nat_eq c.args.line.now files_word ≡ false = no_front c.args.line.now files_word c.in-None.ensures.cases in
    rw other refl
