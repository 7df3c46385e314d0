use Rattle.std.proofs.Common.{sym, ap, ◌∙◌, Ok}
use Rattle.slp_scopes.proofs.PlainScopes.{plain_word, plain_none, plain_one}
use Rattle.slp_scopes.proofs.scopes.single.Goals as goal

pub returns-then-is_empty-clause-value : goal.returns-then-is_empty-clause-value
returns-then-is_empty-clause-value c = plain_none c.args.text.now (sym c.is_empty.ensures ∙ c.if-is_empty.true) ∙ ap Ok (sym c.new.ensures.items)

pub word_key-requires : goal.word_key-requires
word_key-requires c = plain_word c.args.text.now c.requires

pub returns-clause-value : goal.returns-clause-value
returns-clause-value c =
    rw (c.in_ok-push.ensures.items, c.in_ok-keys.ensures.items, c.in_ok-word_key.ensures.value) (plain_one c.args.text.now c.requires (sym c.is_empty.ensures ∙ c.if-is_empty.false))
