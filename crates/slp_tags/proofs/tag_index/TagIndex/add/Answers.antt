use Rattle.std.proofs.Common.{◌≡◌, ◌||◌, ◌∙◌, Some, map, sym, subst, ap}
use Rattle.std.specs.List.{list_any}
use Rattle.std.specs.Option.{IfSome}
use Rattle.std.specs.Ordering.{is_eq}
use Rattle.slp_tags.specs.Tags.{is_match}
use Rattle.slp_text.specs.Words.{bytes_cmp}
use Rattle.slp_tags.proofs.TagIndexes.{or-swapped, word-added, word-matches}
use Rattle.slp_tags.proofs.tag_index.TagIndex.add.Goals as goal

pub returns-in_ok-insert-in-Some : goal.returns-in_ok-insert-in-Some
returns-in_ok-insert-in-Some c = λ tag.
    let index = c.args.self.now in
    let word = c.in-Some.word in
    let is = subst (λ found. IfSome found (λ w. c.args.part.now ≡ map Some w.items)) c.in-Some.is c.in_ok-word.ensures in
    let was = list_any (λ k. is_eq (bytes_cmp tag k.items)) index.words.keys in
    let tried = list_any (λ signs. is_match signs tag) index.patterns.items in
    ap (λ keys. list_any (λ k. is_eq (bytes_cmp tag k.items)) keys || tried) c.in_ok-insert-in-Some.ensures.keys
    ∙ ap (λ b. b || tried) (word-added (λ k. k.items) word tag index.words.keys)
    ∙ ap (λ b. (was || b) || tried) (word-matches word.items tag ∙ sym (ap (λ p. is_match p tag) is))
    ∙ or-swapped was (is_match c.args.part.now tag) tried
