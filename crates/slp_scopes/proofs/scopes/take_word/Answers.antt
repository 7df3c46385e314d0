use Rattle.std.proofs.Common.{◌≡◌, ℕ, true, List, [], ◌∷◌, ◌++◌, cond, sym, ap, ◌∙◌, append-nil}
use Rattle.std.specs.Prelude.{filter}
use Rattle.slp_text.specs.Keys.{key_of}
use Rattle.slp_text.specs.Lists.{is_some_text}
use Rattle.slp_scopes.proofs.PlainScopes.{some-word, no-word}
use Rattle.slp_scopes.proofs.scopes.take_word.Goals as goal

taken : (keys after : List (List ℕ)) (made word : List ℕ) → after ≡ keys ++ made ∷ [] → made ≡ key_of word → is_some_text (key_of word) ≡ true → after ≡ keys ++ filter is_some_text (key_of word ∷ [])
taken keys after made word pushed is some = pushed ∙ ap (λ k. keys ++ k ∷ []) is ∙ ap (λ b. keys ++ cond b (key_of word ∷ []) []) (sym some)

pub returns-in_ok-push-clause-ok : goal.returns-in_ok-push-clause-ok
returns-in_ok-push-clause-ok c = taken c.args.keys.now.items _ _ c.args.word.now c.in_ok-push.ensures.items c.in_ok-word_key.ensures.value (some-word c.args.word.now c.requires (sym c.is_empty.ensures ∙ c.if-not-is_empty.true))

pub returns-else-not-is_empty-clause-ok : goal.returns-else-not-is_empty-clause-ok
returns-else-not-is_empty-clause-ok c =
    let word = c.args.word.now in
    let none = no-word word c.requires (sym c.is_empty.ensures ∙ c.if-not-is_empty.false) in
    sym (append-nil c.args.keys.now.items) ∙ ap (λ b. c.args.keys.now.items ++ cond b (key_of word ∷ []) []) (sym none)
