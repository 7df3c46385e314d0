use Rattle.std.proofs.Common.{◌≡◌, ap, subst, ◌∙◌}
use Rattle.std.specs.Prelude.{chars, IfOk}
use Rattle.std.specs.List.{slice_split}
use Rattle.slp_text.proofs.KeysOfKeys.{key_of-folded_text}
use Rattle.template_files.specs.Faults.{words_fault}
use Rattle.template_files.specs.Reading.{is_space, words_of}
use Rattle.template_files.specs.Stops.{texts_of}
use Rattle.template_files.proofs.faults.text_fault.Goals as goal

pub returns : goal.returns
returns c =
    let words : texts_of c.deref.result.now ≡ words_of (chars c.args.text.now) =
    ap texts_of c.deref.ensures.value ∙ c.in_ok-words.ensures ∙ ap (slice_split is_space) (c.as_str.ensures ∙ c.in_ok-folded.ensures ∙ key_of-folded_text c.args.text.now) in
    subst (λ ws. IfOk c.words_fault.result (λ f. f ≡ words_fault ws (texts_of c.args.body.now))) words c.words_fault.ensures
