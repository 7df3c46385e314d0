use Rattle.std.proofs.Common.{ℕ, List, ◌∷◌, ◌++◌, Ok, refl, sym, ap, ◌∙◌, chars, encode_utf8, encode_utf8_all, append_assoc, append-nil}
use Rattle.std.specs.Prelude.{string_bytes}
use Rattle.std.proofs.lemmas.Result.{err_from_is_err_and}
use Rattle.std.proofs.lemmas.Str.{encodes-chars}
use Rattle.slp_text.specs.Escapes.{is_escapable}
use Rattle.slp_text.specs.Reading.{read_map}
use Rattle.slp_text.specs.Steps.{is_refused_raw, step_of}
use Rattle.slp_text.specs.declared.escapes.Stage.TheVariants.{Plain}
use Rattle.slp_text.proofs.Characters.{no_more, one_more}
use Rattle.slp_text.proofs.Readers.{event_of, Follows-step, Follows-fault, fault_is}
use Rattle.slp_text.proofs.EscapeReaders.{unescapes, unescape_event, unescape_reader, begun_escape}
use Rattle.slp_text.proofs.escapes.unescaped.Goals as goal

abbrev from : List ℕ → List ℕ → List ℕ
from text xs = text ++ encode_utf8_all xs

pub loop-c-init : goal.loop-c-init
loop-c-init c = (chars c.args.text.now, encodes-chars _ c.utf8.text ∙ cc, rw c.new-read.ensures.bytes refl)

pub returns-in_err-next : goal.returns-in_err-next
returns-in_err-next c =
    let now = c.loop-c.invariant in
    let cut = one_more now.0 _ _ c.in-Some.c now.1 c.in-Some.ensures.steps.0 in
    let whole = read_map encode_utf8_all (unescapes is_escapable (is_refused_raw c.args.place) Plain (chars c.args.text.now)) in
    let is = Follows-fault (unescapes is_escapable (is_refused_raw c.args.place)) (unescape_event is_escapable (is_refused_raw c.args.place)) (from (string_bytes c.loop-c.read)) c.loop-c.stage c.in-Some.c cut.0 whole c.in_err-next.field-0.0
    (unescape_reader is_escapable (is_refused_raw c.args.place)) (ap (λ b. event_of (step_of is_escapable b c.loop-c.stage c.in-Some.c)) (sym c.is_refused_raw.ensures) ∙ ap event_of (sym c.in_err-next.ensures)) (rw cut.1 at now.2) in
    let p = err_from_is_err_and c.from_residual.result c.from_residual.ensures.1 in
    rw (p.1, p.2) (fault_is c.in_err-next.field-0.0 whole is)

pub loop-c-preserved-in-Within : goal.loop-c-preserved-in-Within
loop-c-preserved-in-Within c =
    let now = c.loop-c.invariant in
    let cut = one_more now.0 _ _ c.in-Some.c now.1 c.in-Some.ensures.steps.0 in (
      cut.0,
      cut.2,
      Follows-step (unescapes is_escapable (is_refused_raw c.args.place)) (unescape_event is_escapable (is_refused_raw c.args.place)) (from (string_bytes c.loop-c.read)) (from (string_bytes c.loop-c.read)) (λ xs. xs) c.loop-c.stage c.in-Within.next c.in-Some.c cut.0 _
          (unescape_reader is_escapable (is_refused_raw c.args.place)) (ap (λ b. event_of (step_of is_escapable b c.loop-c.stage c.in-Some.c)) (sym c.is_refused_raw.ensures) ∙ ap event_of (sym c.in_ok-next.ensures ∙ ap Ok c.in-Within.is)) (λ xs. refl) (rw cut.1 at now.2),
    )

pub loop-c-preserved : goal.loop-c-preserved
loop-c-preserved c =
    let now = c.loop-c.invariant in
    let cut = one_more now.0 _ _ c.in-Some.c now.1 c.in-Some.ensures.steps.0 in
    let d = c.in-Read.d in (
      cut.0,
      cut.2,
      Follows-step (unescapes is_escapable (is_refused_raw c.args.place)) (unescape_event is_escapable (is_refused_raw c.args.place)) (from (string_bytes c.loop-c.read)) (from (string_bytes c.push.new.self)) (λ xs. d ∷ xs) c.loop-c.stage Plain c.in-Some.c cut.0 _
          (unescape_reader is_escapable (is_refused_raw c.args.place)) (ap (λ b. event_of (step_of is_escapable b c.loop-c.stage c.in-Some.c)) (sym c.is_refused_raw.ensures) ∙ ap event_of (sym c.in_ok-next.ensures ∙ ap Ok c.in-Read.is))
          (λ xs. ap (λ t. t ++ encode_utf8_all xs) c.in_ok-push-in-Read.ensures.bytes ∙ append_assoc (string_bytes c.loop-c.read) (encode_utf8 d) (encode_utf8_all xs)) (rw cut.1 at now.2),
    )

pub returns-in-Plain : goal.returns-in-Plain
returns-in-Plain c =
    let now = c.loop-c.invariant in
    let ended = no_more now.0 _ now.1 c.in-None.ensures.steps.0.0 in
    let text = rw (ended, c.in-Plain.is) at now.2 in
    sym text ∙ ap Ok (append-nil _)

pub returns-in_err-push-in-Read : goal.returns-in_err-push-in-Read
returns-in_err-push-in-Read c =
    let p = err_from_is_err_and c.from_residual-in_err-push-in-Read.result c.from_residual-in_err-push-in-Read.ensures.1 in
    rw (p.1, p.2) tt

pub returns-in_default : goal.returns-in_default
returns-in_default c =
    let now = c.loop-c.invariant in
    let ended = no_more now.0 _ now.1 c.in-None.ensures.steps.0.0 in
    let text = rw ended at now.2 in
    sym text ∙ ap (read_map (from (string_bytes c.loop-c.read))) (begun_escape is_escapable (is_refused_raw c.args.place) c.loop-c.stage c.in_default.not-Plain)
