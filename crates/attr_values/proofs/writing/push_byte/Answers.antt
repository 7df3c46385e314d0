use Rattle.std.proofs.Common.{◌≡◌, ◌/◌, ◌%◌, ◌<◌, ℕ, List, [], ◌∷◌, ◌++◌, ap, ap₂, sym, ◌∙◌, arith, encode_utf8, append-nil, append_assoc}
use Rattle.std.specs.Prelude.{string_bytes}
use Rattle.std.proofs.lemmas.Bool.Decides.{nat_tests}
use Rattle.std.proofs.lemmas.Result.{err_from_is_err_and}
use Rattle.slp_text.specs.Ascii.{backslash}
use Rattle.slp_text.specs.Escapes.{capital_digit}
use Rattle.attr_values.proofs.writing.push_byte.Goals as goal

small : (d : ℕ) → d < 16 → capital_digit d < 128
small d h = grind (arith, nat_tests)

-- a digit that is written is its byte
digit_byte : (d n : ℕ) → d ≡ capital_digit n → n < 16 → (d < 128 → encode_utf8 d ≡ d ∷ []) → encode_utf8 d ≡ capital_digit n ∷ []
digit_byte d n is h own = let k = small n h in own (omega (arith, k, is)) ∙ ap (λ x. x ∷ []) is

three_more : (text one two three d e : List ℕ) → one ≡ text ++ backslash ∷ [] → two ≡ one ++ d → three ≡ two ++ e → three ≡ text ++ backslash ∷ (d ++ e)
three_more text one two three d e p q r = r ∙ ap (λ t. t ++ e) (q ∙ ap (λ t. t ++ d) p) ∙ simp append_assoc

pub returns-in_err-push : goal.returns-in_err-push
returns-in_err-push c =
    let p = err_from_is_err_and c.from_residual.result c.from_residual.ensures.1 in
    rw p.1 (record { ok = tt; err = ([], c.in_err-push.ensures.bytes ∙ sym (append-nil _)) })

pub returns-in_err-push-2 : goal.returns-in_err-push-2
returns-in_err-push-2 c =
    let p = err_from_is_err_and c.from_residual-in_err-push-2.result c.from_residual-in_err-push-2.ensures.1 in
    rw p.1 (record { ok = tt; err = (encode_utf8 backslash, c.in_err-push-2.ensures.bytes ∙ c.in_ok-push.ensures.bytes) })

pub returns-in_err-push-3 : goal.returns-in_err-push-3
returns-in_err-push-3 c =
    let p = err_from_is_err_and c.from_residual-in_err-push-3.result c.from_residual-in_err-push-3.ensures.1 in
    let d = encode_utf8 c.capital_digit.result in
    let two = c.in_ok-push-2.ensures.bytes ∙ ap (λ t. t ++ d) c.in_ok-push.ensures.bytes ∙ append_assoc (string_bytes c.args.out.now) (encode_utf8 backslash) d in
    rw p.1 (record { ok = tt; err = (encode_utf8 backslash ++ d, c.in_err-push-3.ensures.bytes ∙ two) })

pub returns : goal.returns
returns c =
    let text = string_bytes c.args.out.now in
    let d = encode_utf8 c.capital_digit.result in
    let e = encode_utf8 c.capital_digit-2.result in
    let first = digit_byte c.capital_digit.result (c.args.byte / 16) c.capital_digit.ensures (omega (arith, c.ranges.byte.fits)) c.in_ok-push-2.ensures.ascii in
    let second = digit_byte c.capital_digit-2.result (c.args.byte % 16) c.capital_digit-2.ensures (omega arith) c.in_ok-push-3.ensures.ascii in
    let slash = c.in_ok-push.ensures.bytes ∙ ap (λ x. text ++ x) (c.in_ok-push.ensures.ascii (omega arith)) in
    let written = three_more text (string_bytes c.push.new.self) (string_bytes c.push-2.new.self) (string_bytes c.push-3.new.self) d e slash c.in_ok-push-2.ensures.bytes c.in_ok-push-3.ensures.bytes in
    record { ok = written ∙ ap₂ (λ x y. text ++ backslash ∷ (x ++ y)) first second; err = (backslash ∷ (d ++ e), written) }
