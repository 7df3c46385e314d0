use Rattle.text_patterns.proofs.Plain.{cut-behind}
use Rattle.text_patterns.proofs.characters.behind.Goals as goal

pub range_from-requires : goal.range_from-requires
range_from-requires c = λ some. cut-behind c.args.text.now c.args.count c.utf8.text c.requires.within c.requires.plain
