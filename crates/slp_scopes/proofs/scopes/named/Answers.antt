use Rattle.std.proofs.Common.{[], ◌∷◌, ◌++◌, Ok, sym, ap, ◌∙◌, chars}
use Rattle.std.specs.Prelude.{string_bytes, filter}
use Rattle.std.proofs.lemmas.Result.{err_from_is_err_and}
use Rattle.std.proofs.lemmas.Str.{encodes-chars, IsUtf8-string_bytes}
use Rattle.slp_text.specs.Escapes.{is_escapable}
use Rattle.slp_text.specs.Keys.{key_of}
use Rattle.slp_scopes.specs.ScopeNames.{scope_names_of}
use Rattle.slp_text.specs.Lists.{is_some_text}
use Rattle.slp_text.specs.Steps.{step_of}
use Rattle.slp_text.specs.declared.escapes.Place.TheVariants.{Scope}
use Rattle.slp_text.proofs.Characters.{no_more, one_more, encodes-more}
use Rattle.slp_text.proofs.Lists.{characters_at, list-within, list-read, list-fault, list-comma, list-comma-fault, list-end, list-end-fault}
use Rattle.slp_scopes.proofs.ScopeNames.{made, made-more, made-next, named-init}
use Rattle.slp_scopes.proofs.scopes.named.Goals as goal

pub loop-c-init : goal.loop-c-init
loop-c-init c = (chars c.args.text.now, [], encodes-chars _ c.utf8.text ∙ cc, sym c.new-part.ensures.bytes, named-init c.args.text.now _ c.new-keys.ensures.items)

pub returns-in_err-take_part : goal.returns-in_err-take_part
returns-in_err-take_part c =
    let now = c.loop-c.invariant in
    let cut = one_more now.0 _ _ c.in-Some.c now.2 c.in-Some.ensures.steps.0 in
    let p = err_from_is_err_and c.from_residual.result c.from_residual.ensures.1 in
    rw (p.1, p.2) (list-comma-fault (characters_at Scope) (made c.loop-c.keys.items now.1) c.loop-c.stage cut.0 (scope_names_of c.args.text.now) c.in_err-take_part.field-0.0 c.in-Some.c c.if-c-eq44.true c.in_err-take_part.ensures.err (rw cut.1 at now.4))

pub loop-c-preserved-then-c-eq44 : goal.loop-c-preserved-then-c-eq44
loop-c-preserved-then-c-eq44 c =
    let now = c.loop-c.invariant in
    let cut = one_more now.0 _ _ c.in-Some.c now.2 c.in-Some.ensures.steps.0 in
    let ok = c.in_ok-take_part.ensures.ok in
    let keys = c.loop-c.keys.items in
    let after = ok.1 ∙ ap (λ t. keys ++ filter is_some_text (key_of t ∷ [])) c.as_str.ensures.value in (
      cut.0,
      [],
      cut.2,
      sym c.clear.ensures.bytes,
      list-comma (characters_at Scope) (made keys now.1) c.loop-c.stage cut.0 (scope_names_of c.args.text.now) (made c.take_part.new.keys.items []) c.in-Some.c c.if-c-eq44.true ok.0
          (λ ps. made-next keys _ now.1 (string_bytes c.loop-c.part) ps (IsUtf8-string_bytes c.loop-c.part) now.3 after) (rw cut.1 at now.4),
    )

pub returns-in_err-next : goal.returns-in_err-next
returns-in_err-next c =
    let now = c.loop-c.invariant in
    let cut = one_more now.0 _ _ c.in-Some.c now.2 c.in-Some.ensures.steps.0 in
    let p = err_from_is_err_and c.from_residual-in_err-next.result c.from_residual-in_err-next.ensures.1 in
    rw (p.1, p.2) (list-fault (characters_at Scope) (made c.loop-c.keys.items now.1) c.loop-c.stage cut.0 (scope_names_of c.args.text.now) c.in_err-next.field-0.0 c.in-Some.c c.if-c-eq44.false (ap (λ r. step_of is_escapable r c.loop-c.stage c.in-Some.c) (sym c.is_refused.ensures) ∙ sym c.in_err-next.ensures) (rw cut.1 at now.4))

pub loop-c-preserved-in-Within : goal.loop-c-preserved-in-Within
loop-c-preserved-in-Within c =
    let now = c.loop-c.invariant in
    let cut = one_more now.0 _ _ c.in-Some.c now.2 c.in-Some.ensures.steps.0 in (
      cut.0,
      now.1,
      cut.2,
      now.3,
      list-within (characters_at Scope) (made c.loop-c.keys.items now.1) c.loop-c.stage cut.0 (scope_names_of c.args.text.now) c.in-Within.next c.in-Some.c c.if-c-eq44.false (ap (λ r. step_of is_escapable r c.loop-c.stage c.in-Some.c) (sym c.is_refused.ensures) ∙ sym c.in_ok-next.ensures ∙ ap Ok c.in-Within.is) (rw cut.1 at now.4),
    )

pub loop-c-preserved : goal.loop-c-preserved
loop-c-preserved c =
    let now = c.loop-c.invariant in
    let cut = one_more now.0 _ _ c.in-Some.c now.2 c.in-Some.ensures.steps.0 in
    let d = c.in-Read.d in
    let keys = c.loop-c.keys.items in (
      cut.0,
      now.1 ++ d ∷ [],
      cut.2,
      encodes-more now.1 _ _ d now.3 c.in_ok-push-in-Read.ensures.bytes,
      list-read (characters_at Scope) (made keys now.1) c.loop-c.stage cut.0 (scope_names_of c.args.text.now) (made keys (now.1 ++ d ∷ [])) d c.in-Some.c c.if-c-eq44.false (ap (λ r. step_of is_escapable r c.loop-c.stage c.in-Some.c) (sym c.is_refused.ensures) ∙ sym c.in_ok-next.ensures ∙ ap Ok c.in-Read.is) (made-more keys now.1 d) (rw cut.1 at now.4),
    )

pub returns-in_err-take_part-2 : goal.returns-in_err-take_part-2
returns-in_err-take_part-2 c =
    let now = c.loop-c.invariant in
    let ended = no_more now.0 _ now.2 c.in-None.ensures.steps.0.0 in
    let p = err_from_is_err_and c.from_residual-in_err-take_part-2.result c.from_residual-in_err-take_part-2.ensures.1 in
    rw (p.1, p.2) (list-end-fault (characters_at Scope) (made c.loop-c.keys.items now.1) c.loop-c.stage now.0 (scope_names_of c.args.text.now) c.in_err-take_part-2.field-0.0 ended c.in_err-take_part-2.ensures.err now.4)

pub returns : goal.returns
returns c =
    let now = c.loop-c.invariant in
    let ended = no_more now.0 _ now.2 c.in-None.ensures.steps.0.0 in
    let ok = c.in_ok-take_part-2.ensures.ok in
    let keys = c.loop-c.keys.items in
    let after = ok.1 ∙ ap (λ t. keys ++ filter is_some_text (key_of t ∷ [])) c.as_str-2.ensures.value in
    list-end (characters_at Scope) (made keys now.1) c.loop-c.stage now.0 (scope_names_of c.args.text.now) c.take_part-2.new.keys.items ended ok.0
    (made-next keys _ now.1 (string_bytes c.loop-c.part) [] (IsUtf8-string_bytes c.loop-c.part) now.3 after) now.4
