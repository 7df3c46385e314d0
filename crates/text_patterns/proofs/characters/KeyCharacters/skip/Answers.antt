use Rattle.std.proofs.Common.{◌≡◌, ℕ, ◌≤◌, List, ◌++◌, ◌∙◌, sym, ap, subst, chars, length, map, take, true, false}
use Rattle.std.specs.Char.{to_ascii_lowercase}
use Rattle.std.specs.List.{list_all}
use Rattle.std.specs.Option.{option_to_list}
use Rattle.caseless.specs.Caseless.{default_case_fold}
use Rattle.slp_text.specs.Keys.{is_word_byte}
use Rattle.slp_text.specs.Squeezing.{squeezed_left}
use Rattle.text_patterns.specs.Characters.{plain_left}
use Rattle.text_patterns.proofs.Plain.{left-behind, lie-bare}
use Rattle.text_patterns.proofs.characters.KeyCharacters.skip.Goals as goal

pub behind-self-requires : goal.behind-self-requires
behind-self-requires c =
    let self = c.args.self.now in
    let bare = lie-bare self.ahead self.folding.now self.rest.now c.args.count c.requires.within c.if-count-gt0.true in
    let lies : List ℕ → Type 0 = λ text. c.args.count ≤ length text in
    let is_plain : List ℕ → Type 0 = λ text. list_all is_word_byte (take c.args.count text) ≡ true in
    record { within = subst lies bare c.requires.within; plain = subst is_plain bare c.requires.plain }

pub returns-then-count-gt0 : goal.returns-then-count-gt0
returns-then-count-gt0 c =
    let self = c.args.self.now in
    left-behind self.begun self.ahead self.folding.now self.rest.now c.args.count c.requires.within c.requires.plain c.if-count-gt0.true
    ∙ ap (λ t. map to_ascii_lowercase (take c.args.count (plain_left self)) ++ (option_to_list self.ahead ++ squeezed_left true false (self.folding.now ++ default_case_fold (chars t)))) (sym c.behind-self.ensures)
