use Rattle.std.proofs.Common.{ℕ, Bool, true, [], ◌∷◌, ◌++◌, Ok, refl, sym, ap, ◌∙◌, chars, append_assoc, append-nil}
use Rattle.std.proofs.lemmas.Result.{err_from_is_err_and}
use Rattle.std.proofs.lemmas.Str.{encodes-chars}
use Rattle.slp_text.specs.Reading.{read_map}
use Rattle.slp_text.specs.declared.escapes.Stage.TheVariants.{Plain}
use Rattle.slp_text.proofs.Characters.{no_more, one_more}
use Rattle.slp_text.proofs.Readers.{event_of, read_map-same, Follows-step, Follows-fault, fault_is}
use Rattle.slp_text.proofs.EscapeReaders.{unescapes, unescape_event, unescape_reader, begun_escape}
use Rattle.slp_text.proofs.escapes.unescape_all.Goals as goal

abbrev any : ℕ → Bool
any b = true

pub loop-c-init : goal.loop-c-init
loop-c-init c = record {
  stage = tt;
  text = (chars c.args.text.now, encodes-chars _ c.utf8.text ∙ cc, rw c.new-read.ensures.items (read_map-same _));
}

pub returns-in_err-next : goal.returns-in_err-next
returns-in_err-next c =
    let now = c.loop-c.invariant.text in
    let cut = one_more now.0 _ _ c.in-Some.c now.1 c.in-Some.ensures.steps.0 in
    let whole = unescapes any any Plain (chars c.args.text.now) in
    let is = Follows-fault (unescapes any any) (unescape_event any any) (λ xs. c.loop-c.read.items ++ xs) c.loop-c.stage c.in-Some.c cut.0 whole c.in_err-next.field-0.0
    (unescape_reader any any) (ap event_of (sym c.in_err-next.ensures.value)) (rw cut.1 at now.2) in
    let p = err_from_is_err_and c.from_residual.result c.from_residual.ensures.1 in
    rw (p.1, p.2) (fault_is c.in_err-next.field-0.0 whole is)

pub loop-c-preserved-in-Within : goal.loop-c-preserved-in-Within
loop-c-preserved-in-Within c =
    let now = c.loop-c.invariant.text in
    let cut = one_more now.0 _ _ c.in-Some.c now.1 c.in-Some.ensures.steps.0 in
    record {
      stage = rw c.in-Within.is at c.in_ok-next.ensures.stage;
      text = (
        cut.0,
        cut.2,
        Follows-step (unescapes any any) (unescape_event any any) (λ xs. c.loop-c.read.items ++ xs) (λ xs. c.loop-c.read.items ++ xs) (λ xs. xs) c.loop-c.stage c.in-Within.next c.in-Some.c cut.0 _
            (unescape_reader any any) (ap event_of (sym c.in_ok-next.ensures.value ∙ ap Ok c.in-Within.is)) (λ xs. refl) (rw cut.1 at now.2),
      );
    }

pub loop-c-preserved : goal.loop-c-preserved
loop-c-preserved c =
    let now = c.loop-c.invariant.text in
    let cut = one_more now.0 _ _ c.in-Some.c now.1 c.in-Some.ensures.steps.0 in
    let b = c.in-Read.b in
    record {
      stage = tt;
      text = (
        cut.0,
        cut.2,
        Follows-step (unescapes any any) (unescape_event any any) (λ xs. c.loop-c.read.items ++ xs) (λ xs. c.push.new.self.items ++ xs) (λ xs. b ∷ xs) c.loop-c.stage Plain c.in-Some.c cut.0 _
            (unescape_reader any any) (ap event_of (sym c.in_ok-next.ensures.value ∙ ap Ok c.in-Read.is))
            (λ xs. ap (λ t. t ++ xs) c.in_ok-push-in-Read.ensures.items ∙ append_assoc c.loop-c.read.items (b ∷ []) xs) (rw cut.1 at now.2),
      );
    }

pub returns-in-Plain : goal.returns-in-Plain
returns-in-Plain c =
    let now = c.loop-c.invariant.text in
    let ended = no_more now.0 _ now.1 c.in-None.ensures.steps.0.0 in
    let text = rw (ended, c.in-Plain.is) at now.2 in
    sym text ∙ ap Ok (append-nil _)

pub returns-in_err-push-in-Read : goal.returns-in_err-push-in-Read
returns-in_err-push-in-Read c =
    let p = err_from_is_err_and c.from_residual-in_err-push-in-Read.result c.from_residual-in_err-push-in-Read.ensures.1 in
    rw (p.1, p.2) tt

pub read_escape-requires : goal.read_escape-requires
read_escape-requires c = c.loop-c.invariant.stage

pub returns-in_default : goal.returns-in_default
returns-in_default c =
    let now = c.loop-c.invariant.text in
    let ended = no_more now.0 _ now.1 c.in-None.ensures.steps.0.0 in
    let text = rw ended at now.2 in
    sym text ∙ ap (read_map (λ xs. c.loop-c.read.items ++ xs)) (begun_escape any any c.loop-c.stage c.in_default.not-Plain)
