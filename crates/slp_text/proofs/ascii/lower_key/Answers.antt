use Rattle.std.proofs.Common.{sym, subst, ◌∙◌}
use Rattle.std.specs.Prelude.{IsUtf8}
use Rattle.slp_text.proofs.AsciiKeys.{key-word, lower-front, lower-utf8}
use Rattle.slp_text.proofs.ascii.lower_key.Goals as goal

pub unreachable-requires : goal.unreachable-requires
unreachable-requires c =
    let word = c.args.word.now in
    c.in_default.ensures.cases.0 (subst IsUtf8 (sym (lower-front word _ _ _ c.copy_from_slice.ensures.after c.make_ascii_lowercase.ensures.after)) (lower-utf8 word c.requires.word))

pub returns : goal.returns
returns c =
    let word = c.args.word.now in
    c.key_in_place.ensures
    ∙ c.in-Ok.ensures.cases.0
    ∙ lower-front word _ _ _ c.copy_from_slice.ensures.after c.make_ascii_lowercase.ensures.after
    ∙ sym (key-word word c.requires.word)
