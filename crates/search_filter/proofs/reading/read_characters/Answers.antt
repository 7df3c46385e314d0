use Rattle.std.proofs.Common.{chars, subst, sym}
use Rattle.std.proofs.lemmas.Str.{IsUtf8-string_bytes}
use Rattle.search_filter.specs.Operands.{characters_in}
use Rattle.search_filter.specs.Outcomes.{IsFault}
use Rattle.search_filter.proofs.ReadTexts.{characters-err, characters-ok}
use Rattle.search_filter.proofs.reading.read_characters.Goals as goal

pub returns-in-Ok : goal.returns-in-Ok
returns-in-Ok c = characters-ok _ _ c.utf8.text (IsUtf8-string_bytes c.in-Ok.read) c.in-Ok.ensures

pub returns-in-Err : goal.returns-in-Err
returns-in-Err c = subst (λ e. IsFault e (characters_in (chars c.args.text.now))) (sym c.from.ensures) (characters-err c.args.text.now c.in-Err.e c.utf8.text c.in-Err.ensures)
