use Rattle.std.proofs.Common.{[], ◌++◌, refl, sym, ap, ◌∙◌, chars, encode_utf8_all, append_assoc, append-nil}
use Rattle.std.specs.Prelude.{string_bytes}
use Rattle.std.proofs.lemmas.Str.{encodes-chars, encodes-append}
use Rattle.slp_text.specs.Escapes.{escaped_text, written_character}
use Rattle.slp_text.proofs.Characters.{no_more, one_more}
use Rattle.slp_text.proofs.escapes.append_escaped.Goals as goal

pub loop-c-init : goal.loop-c-init
loop-c-init c = record {
  start = ([], sym (append-nil _));
  text = (chars c.args.text.now, encodes-chars _ c.utf8.text ∙ cc, refl);
}

pub loop-c-preserved : goal.loop-c-preserved
loop-c-preserved c =
    let now = c.loop-c.invariant in
    let cut = one_more now.text.0 _ _ c.in-Some.c now.text.1 c.in-Some.ensures.steps.0 in
    let text = rw cut.1 at now.text.2 in
    let written = written_character c.args.place c.in-Some.c in
    let rest = escaped_text c.args.place cut.0 in
    let more = c.push_written.ensures.err in
    record {
      start = (now.start.0 ++ more.0, more.1 ∙ ap (λ t. t ++ more.0) now.start.1 ∙ append_assoc _ now.start.0 more.0);
      text = (
        cut.0,
        cut.2,
        ap (λ t. t ++ encode_utf8_all rest) c.in_ok-push_written.ensures.ok
            ∙ append_assoc (string_bytes c.loop-c.out) (encode_utf8_all written) (encode_utf8_all rest)
            ∙ ap (λ t. string_bytes c.loop-c.out ++ t) (sym (encodes-append written rest)) ∙ text,
      );
    }

pub returns-clause-ok : goal.returns-clause-ok
returns-clause-ok c =
    let now = c.loop-c.invariant.text in
    let ended = no_more now.0 _ now.1 c.in-None.ensures.steps.0.0 in
    let text = rw ended at now.2 in
    sym (append-nil _) ∙ text

pub returns-clause-err : goal.returns-clause-err
returns-clause-err c = c.loop-c.invariant.start

pub returns-in_err-push_written-clause-err : goal.returns-in_err-push_written-clause-err
returns-in_err-push_written-clause-err c =
    let now = c.loop-c.invariant in
    let more = c.push_written.ensures.err in
    (now.start.0 ++ more.0, more.1 ∙ ap (λ t. t ++ more.0) now.start.1 ∙ append_assoc _ now.start.0 more.0)
