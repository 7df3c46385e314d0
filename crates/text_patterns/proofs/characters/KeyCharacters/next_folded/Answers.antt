use Rattle.std.proofs.Common.{sym, ◌∙◌}
use Rattle.text_patterns.proofs.Folding.{folded-none, folded-plain, folded-same, ascii-below, folded-other}
use Rattle.text_patterns.proofs.characters.KeyCharacters.next_folded.Goals as goal

pub returns-in_err-c-clause-next : goal.returns-in_err-c-clause-next
returns-in_err-c-clause-next c = rw c.from_residual.ensures (folded-none c.args.self.now.folding.now c.args.self.now.rest.now c.in_default.len_below c.in_err-c.ensures)

pub returns-then-is_ascii-clause-next : goal.returns-then-is_ascii-clause-next
returns-then-is_ascii-clause-next c =
    rw c.to_ascii_lowercase.ensures.value
    (folded-plain c.args.self.now.folding.now c.args.self.now.rest.now c.in_ok-c.rest.now c.in_ok-c.c c.in_default.len_below c.in_ok-c.ensures (ascii-below c.in_ok-c.c (sym c.is_ascii.ensures ∙ c.if-is_ascii.true)))

pub returns-in-empty-clause-next : goal.returns-in-empty-clause-next
returns-in-empty-clause-next c =
    folded-same c.args.self.now.folding.now c.args.self.now.rest.now c.in_ok-c.rest.now c.in_ok-c.c c.full_folding.result.now c.in_default.len_below c.in_ok-c.ensures c.full_folding.ensures.value c.in-empty.len_below

pub returns-in-len1-up-full_folding-clause-next : goal.returns-in-len1-up-full_folding-clause-next
returns-in-len1-up-full_folding-clause-next c =
    folded-other c.args.self.now.folding.now c.args.self.now.rest.now c.in_ok-c.rest.now c.in_ok-c.c c.first-item-2.result c.full_folding.result.now c.in_default.len_below c.in_ok-c.ensures c.full_folding.ensures.value
    c.in-len1-up-full_folding.len_at_least c.first-item-2.is
