use Rattle.std.proofs.Common.{◌≡◌, ℕ, ◌≤◌, ◌<◌, ◌+◌, ◌++◌, Bool, true, length, sym, ap, subst, ◌∙◌, arith, encode_utf8}
use Rattle.std.specs.Prelude.{OnOk, OnErr}
use Rattle.std.proofs.lemmas.Result.{on_err_weaker, on_ok_weaker}
use Rattle.slp_text.specs.Ascii.{backslash}
use Rattle.slp_text.specs.Escapes.{is_reserved}
use Rattle.slp_text.specs.declared.escapes.Place.TheVariants.{Scope}
use Rattle.slp_text.proofs.EscapedTexts.{reserved_escapable, escapable_small}
use Rattle.slp_replies.proofs.AuditLines.{escape_is_written, parts_length, raw_is_written, three_parts}
use Rattle.slp_replies.proofs.audit.put_written.Goals as goal

small : (c : ℕ) (b : Bool) → b ≡ is_reserved Scope c → b ≡ true → c < 128
small c b is reserved = escapable_small c (reserved_escapable Scope c (sym is ∙ reserved))

pub overflow_cast-number : goal.overflow_cast-number
overflow_cast-number g c = let k = small c.args.c c.is_reserved.result c.is_reserved.ensures c.if-not-is_reserved.false in omega (arith, k)

pub capital_digit-requires : goal.capital_digit-requires
capital_digit-requires g c = let k = small c.args.c c.is_reserved.result c.is_reserved.ensures c.if-not-is_reserved.false in omega (arith, k)

pub returns-then-not-is_reserved-clause-ok : goal.returns-then-not-is_reserved-clause-ok
returns-then-not-is_reserved-clause-ok g c =
    subst (λ t. OnOk c.put_character.result (g.S.Sink.written c.put_character.new.sink ≡ g.S.Sink.written c.args.sink.now ++ t))
    (raw_is_written c.args.c (sym c.is_reserved.ensures ∙ c.if-not-is_reserved.true)) c.put_character.ensures.ok

pub returns-then-not-is_reserved-clause-room : goal.returns-then-not-is_reserved-clause-room
returns-then-not-is_reserved-clause-room g c =
    subst (λ t. OnOk c.put_character.result (g.S.Sink.room c.args.sink.now ≤ g.S.Sink.room c.put_character.new.sink + length t))
    (raw_is_written c.args.c (sym c.is_reserved.ensures ∙ c.if-not-is_reserved.true)) c.put_character.ensures.room

pub returns-then-not-is_reserved-clause-err : goal.returns-then-not-is_reserved-clause-err
returns-then-not-is_reserved-clause-err g c =
    subst (λ t. OnErr c.put_character.result (g.S.Sink.room c.args.sink.now ≤ length t))
    (raw_is_written c.args.c (sym c.is_reserved.ensures ∙ c.if-not-is_reserved.true)) c.put_character.ensures.err

pub returns-clause-ok : goal.returns-clause-ok
returns-clause-ok g c =
    let start = g.S.Sink.written c.args.sink.now in
    let d = c.capital_digit.result in
    let e = c.capital_digit-2.result in
    let is = escape_is_written c.args.c d e (sym c.is_reserved.ensures ∙ c.if-not-is_reserved.false) c.capital_digit.ensures c.capital_digit-2.ensures in
    subst (λ t. OnOk c.put_character-4.result (g.S.Sink.written c.put_character-4.new.sink ≡ t))
    (ap (λ w. w ++ encode_utf8 e) (c.in_ok-put_character-2.ensures.ok ∙ ap (λ w. w ++ encode_utf8 d) c.in_ok-put_character.ensures.ok)
    ∙ three_parts start (encode_utf8 backslash) (encode_utf8 d) (encode_utf8 e) ∙ ap (λ t. start ++ t) is)
    c.put_character-4.ensures.ok

pub returns-clause-room : goal.returns-clause-room
returns-clause-room g c =
    let d = c.capital_digit.result in
    let e = c.capital_digit-2.result in
    let is = escape_is_written c.args.c d e (sym c.is_reserved.ensures ∙ c.if-not-is_reserved.false) c.capital_digit.ensures c.capital_digit-2.ensures in
    let whole = sym (ap length is) ∙ parts_length (encode_utf8 backslash) (encode_utf8 d) (encode_utf8 e) in
    on_ok_weaker c.put_character-4.result (λ room. omega (arith, room, whole, c.in_ok-put_character.ensures.room, c.in_ok-put_character-2.ensures.room)) c.put_character-4.ensures.room

pub returns-clause-err : goal.returns-clause-err
returns-clause-err g c =
    let d = c.capital_digit.result in
    let e = c.capital_digit-2.result in
    let is = escape_is_written c.args.c d e (sym c.is_reserved.ensures ∙ c.if-not-is_reserved.false) c.capital_digit.ensures c.capital_digit-2.ensures in
    let whole = sym (ap length is) ∙ parts_length (encode_utf8 backslash) (encode_utf8 d) (encode_utf8 e) in
    on_err_weaker c.put_character-4.result (λ full. omega (arith, full, whole, c.in_ok-put_character.ensures.room, c.in_ok-put_character-2.ensures.room)) c.put_character-4.ensures.err
