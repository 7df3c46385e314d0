use Rattle.std.proofs.Common.{ap, ◌∙◌}
use Rattle.std.specs.List.{slice_split}
use Rattle.slp_text.proofs.KeysOfKeys.{key_of-folded_text}
use Rattle.template_files.specs.Reading.{is_space, kind_and_flags}
use Rattle.template_files.specs.Stops.{texts_of}
use Rattle.template_files.proofs.words.read_words.Goals as goal

pub returns : goal.returns
returns c =
    c.kind_and_flags.ensures ∙ ap (λ ls. kind_and_flags (texts_of ls)) c.deref.ensures.value ∙ ap kind_and_flags c.in_ok-words.ensures
    ∙ ap (λ k. kind_and_flags (slice_split is_space k)) (c.as_str.ensures ∙ c.in_ok-folded.ensures ∙ key_of-folded_text c.args.text.now)
