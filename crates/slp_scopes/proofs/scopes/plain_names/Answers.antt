use Rattle.std.proofs.Common.{◌++◌, Ok, sym, ap, subst, ◌≡◌, true, ◌∙◌}
use Rattle.std.specs.List.{list_all}
use Rattle.slp_text.specs.Keys.{is_word_byte}
use Rattle.slp_text.proofs.AsciiKeys.{word-utf8}
use Rattle.slp_scopes.proofs.PlainScopes.{list_words, names_in, names-plain, names-last, names-next, words-cut}
use Rattle.slp_scopes.proofs.scopes.plain_names.Goals as goal

pub loop-word-init : goal.loop-word-init
loop-word-init c = (ap (λ ks. ks ++ names_in c.args.text.now) (sym c.in_ok-keys.ensures.items), list_words c.args.text.now c.requires)

pub cut_word-requires-text-text : goal.cut_word-requires-text-text
cut_word-requires-text-text c _ = word-utf8 c.loop-word.rest.now c.loop-word.invariant.1

pub take_word-requires : goal.take_word-requires
take_word-requires c = subst (λ t. list_all is_word_byte t ≡ true) (sym c.in-Some.ensures.1) (words-cut c.loop-word.rest.now c.loop-word.invariant.1).0

pub loop-word-preserved : goal.loop-word-preserved
loop-word-preserved c =
    let now = c.loop-word.invariant in
    let cut = c.in-Some.ensures in (
      names-next (names_in c.args.text.now) c.loop-word.keys.items c.take_word.new.keys.items c.loop-word.rest.now c.in-Some.word.now c.in-Some.more.now cut.0 cut.1 cut.2
          c.in_ok-take_word.ensures.ok now.0,
      subst (λ t. list_all is_word_byte t ≡ true) (sym cut.2) (words-cut c.loop-word.rest.now now.1).1,
    )

pub take_word-requires-2-text-word : goal.take_word-requires-2-text-word
take_word-requires-2-text-word c _ = word-utf8 c.loop-word.rest.now c.loop-word.invariant.1

pub returns-clause-value : goal.returns-clause-value
returns-clause-value c =
    let now = c.loop-word.invariant in
    names-plain c.args.text.now c.requires
    ∙ ap Ok (now.0 ∙ ap (λ ks. c.loop-word.keys.items ++ ks) (names-last c.loop-word.rest.now c.in_default.ensures) ∙ sym c.in_ok-take_word-2.ensures.ok)
