use Rattle.std.proofs.Common.{◌++◌, length, refl, sym, ap, ◌∙◌, arith, chars, encode_utf8_all, append_assoc, append-nil}
use Rattle.std.proofs.lemmas.List.{length-append}
use Rattle.std.proofs.lemmas.Str.{encodes-chars, encodes-append}
use Rattle.slp_text.specs.Escapes.{escaped_text, written_character}
use Rattle.slp_text.specs.declared.escapes.Place.TheVariants.{Scope}
use Rattle.slp_text.proofs.Characters.{no_more, one_more}
use Rattle.slp_replies.proofs.AuditLines.{on_err}
use Rattle.slp_replies.proofs.audit.put_escaped.Goals as goal

pub loop-c-init : goal.loop-c-init
loop-c-init g c = (chars c.args.scope.now, encodes-chars _ c.utf8.scope ∙ cc, refl, omega arith)

pub loop-c-preserved : goal.loop-c-preserved
loop-c-preserved g c =
    let now = c.loop-c.invariant in
    let cut = one_more now.0 _ _ c.in-Some.c now.1 c.in-Some.ensures.steps.0 in
    let before = g.S.Sink.written c.loop-c.sink in
    let written = written_character Scope c.in-Some.c in
    let rest = escaped_text Scope cut.0 in
    let room = rw cut.1 at now.3 in
    let both = ap length (encodes-append written rest) ∙ length-append (encode_utf8_all written) (encode_utf8_all rest) in (
      cut.0,
      cut.2,
      ap (λ w. w ++ encode_utf8_all rest) c.in_ok-put_written.ensures.ok ∙ append_assoc before (encode_utf8_all written) (encode_utf8_all rest)
          ∙ ap (λ t. before ++ t) (sym (encodes-append written rest)) ∙ (rw cut.1 at now.2),
      omega (arith, room, both, c.in_ok-put_written.ensures.room),
    )

pub returns-in_err-put_written-clause-err : goal.returns-in_err-put_written-clause-err
returns-in_err-put_written-clause-err g c =
    let now = c.loop-c.invariant in
    let cut = one_more now.0 _ _ c.in-Some.c now.1 c.in-Some.ensures.steps.0 in
    let written = written_character Scope c.in-Some.c in
    let rest = escaped_text Scope cut.0 in
    let room = rw cut.1 at now.3 in
    let both = ap length (encodes-append written rest) ∙ length-append (encode_utf8_all written) (encode_utf8_all rest) in
    on_err c.from_residual.result _ (omega (arith, room, both, c.in_err-put_written.ensures.err))

pub returns-clause-ok : goal.returns-clause-ok
returns-clause-ok g c =
    let now = c.loop-c.invariant in
    let ended = no_more now.0 _ now.1 c.in-None.ensures.steps.0.0 in
    sym (append-nil _) ∙ (rw ended at now.2)
