use Rattle.std.proofs.Common.{◌≡◌, ◌/◌, ◌%◌, ◌<◌, ℕ, Bool, true, false, List, [], ◌∷◌, ◌++◌, refl, sym, ap, ◌∙◌, arith, encode_utf8, encode_utf8_all, append-nil, append_assoc}
use Rattle.std.specs.Prelude.{string_bytes}
use Rattle.std.proofs.lemmas.Result.{err_from_is_err_and}
use Rattle.slp_text.specs.Ascii.{backslash}
use Rattle.slp_text.specs.Escapes.{is_reserved, capital_digit, written_character}
use Rattle.slp_text.specs.declared.escapes.Place.{Place}
use Rattle.slp_text.proofs.EscapedTexts.{reserved_escapable, escapable_small}
use Rattle.slp_text.proofs.escapes.push_written.Goals as goal

written_raw : (place : Place) (c : ℕ) → is_reserved place c ≡ false → encode_utf8_all (written_character place c) ≡ encode_utf8 c
written_raw place c h = rw h (append-nil (encode_utf8 c))

written_escape : (place : Place) (c d e : ℕ) → is_reserved place c ≡ true → d ≡ capital_digit (c / 16) → e ≡ capital_digit (c % 16) → backslash ∷ d ∷ e ∷ [] ≡ written_character place c
written_escape place c d e h first second = rw (h, first, second) refl

three_more : (text one two three : List ℕ) (b d e : ℕ) → one ≡ text ++ encode_utf8 b → two ≡ one ++ encode_utf8 d → three ≡ two ++ encode_utf8 e → three ≡ text ++ encode_utf8_all (b ∷ d ∷ e ∷ [])
three_more text one two three b d e p q r = r ∙ ap (λ t. t ++ encode_utf8 e) (q ∙ ap (λ t. t ++ encode_utf8 d) p) ∙ simp (append_assoc, append-nil)

small : (place : Place) (c : ℕ) (b : Bool) → b ≡ is_reserved place c → b ≡ true → c < 128
small place c b is reserved = escapable_small c (reserved_escapable place c (sym is ∙ reserved))

pub overflow_cast-n : goal.overflow_cast-n
overflow_cast-n c = let k = small c.args.place c.args.c c.is_reserved.result c.is_reserved.ensures c.if-is_reserved.true in omega (arith, k)

pub capital_digit-requires : goal.capital_digit-requires
capital_digit-requires c = let k = small c.args.place c.args.c c.is_reserved.result c.is_reserved.ensures c.if-is_reserved.true in omega (arith, k)

pub returns-in_err-push : goal.returns-in_err-push
returns-in_err-push c =
    let p = err_from_is_err_and c.from_residual.result c.from_residual.ensures.1 in
    rw p.1 (record { ok = tt; err = ([], c.in_err-push.ensures.bytes ∙ sym (append-nil _)) })

pub returns-in_err-push-2 : goal.returns-in_err-push-2
returns-in_err-push-2 c =
    let p = err_from_is_err_and c.from_residual-in_err-push-2.result c.from_residual-in_err-push-2.ensures.1 in
    rw p.1 (record { ok = tt; err = (encode_utf8 backslash, c.in_err-push-2.ensures.bytes ∙ c.in_ok-push.ensures.bytes) })

pub returns-in_err-push-3 : goal.returns-in_err-push-3
returns-in_err-push-3 c =
    let p = err_from_is_err_and c.from_residual-in_err-push-3.result c.from_residual-in_err-push-3.ensures.1 in
    let d = encode_utf8 c.capital_digit.result in
    let two = c.in_ok-push-2.ensures.bytes ∙ ap (λ t. t ++ d) c.in_ok-push.ensures.bytes ∙ append_assoc (string_bytes c.args.out.now) (encode_utf8 backslash) d in
    rw p.1 (record { ok = tt; err = (encode_utf8 backslash ++ d, c.in_err-push-3.ensures.bytes ∙ two) })

pub returns-in_err-push-4 : goal.returns-in_err-push-4
returns-in_err-push-4 c =
    let p = err_from_is_err_and c.from_residual-in_err-push-4.result c.from_residual-in_err-push-4.ensures.1 in
    rw p.1 (record { ok = tt; err = ([], c.in_err-push-4.ensures.bytes ∙ sym (append-nil _)) })

pub returns-in_ok-push-3 : goal.returns-in_ok-push-3
returns-in_ok-push-3 c =
    let text = string_bytes c.args.out.now in
    let d = c.capital_digit.result in
    let e = c.capital_digit-then-is_reserved.result in
    let written = three_more text (string_bytes c.push.new.self) (string_bytes c.push-then-is_reserved.new.self) (string_bytes c.push-then-is_reserved-2.new.self) backslash d e
    c.in_ok-push.ensures.bytes c.in_ok-push-2.ensures.bytes c.in_ok-push-3.ensures.bytes in
    let is = written_escape c.args.place c.args.c d e (sym c.is_reserved.ensures ∙ c.if-is_reserved.true) c.capital_digit.ensures c.capital_digit-then-is_reserved.ensures in
    record { ok = written ∙ ap (λ cs. text ++ encode_utf8_all cs) is; err = (encode_utf8_all (backslash ∷ d ∷ e ∷ []), written) }

pub returns-in_ok-push-4 : goal.returns-in_ok-push-4
returns-in_ok-push-4 c =
    let raw = written_raw c.args.place c.args.c (sym c.is_reserved.ensures ∙ c.if-is_reserved.false) in
    record { ok = c.in_ok-push-4.ensures.bytes ∙ ap (λ t. string_bytes c.args.out.now ++ t) (sym raw); err = (encode_utf8 c.args.c, c.in_ok-push-4.ensures.bytes) }
