-- The line of an audit, written part by part.
use Rattle.std.proofs.Common.{◌≡◌, ℕ, ◌+◌, ◌/◌, ◌%◌, Bool, true, false, length, if◌then◌else◌, List, [], ◌∷◌, ◌++◌, codes, encode_utf8, encode_utf8_all, refl, sym, ap, ◌∙◌, append_assoc, append-nil, arith, Result, Ok, Err}
use Rattle.std.specs.Prelude.{◌==◌, OnErr}
use Rattle.std.specs.Fmt.{decimal, digits}
use Rattle.std.proofs.lemmas.Bool.Decides.{nat_tests}
use Rattle.std.proofs.lemmas.List.{length-append}
use Rattle.access_rules.specs.declared.rule.Action.TheVariants.{See}
use Rattle.addresses.specs.Addresses.{address_text}
use Rattle.directory_judge.specs.declared.reason.Decider.TheVariants.{Nobody}
use Rattle.directory_judge.specs.Judgements.{decider_text}
use Rattle.slp_replies.specs.Audits.{line_text, head_text, tail_text, beginning_text, action_text, text_or_dash, ending_text}
use Rattle.slp_replies.specs.declared.copies.Audit.{Audit}
use Rattle.slp_text.specs.Ascii.{backslash, digit_zero}
use Rattle.slp_text.specs.Escapes.{is_reserved, capital_digit, written_character}
use Rattle.slp_text.specs.declared.escapes.Place.TheVariants.{Scope}

-- what stands between who decided and the asker
abbrev pub action_piece : Audit → List ℕ
action_piece a = codes " action=" ++ action_text a.action ++ codes " asker="

head_of : (w b d a e f : List ℕ) → ((w ++ b) ++ d) ++ (a ++ (e ++ f)) ≡ w ++ (b ++ d ++ a ++ e ++ f)
head_of w b d a e f = simp append_assoc refl

tail_of : (w g p q t : List ℕ) → (w ++ (g ++ p)) ++ (q ++ t) ≡ w ++ (g ++ p ++ q ++ t)
tail_of w g p q t = simp append_assoc refl

pub head_is_written : (w name : List ℕ) (a : Audit) → ((w ++ beginning_text a.code) ++ decider_text name a.because.decider) ++ action_piece a ≡ w ++ head_text name a
head_is_written w name a = head_of w (beginning_text a.code) (decider_text name a.because.decider) (codes " action=") (action_text a.action) (codes " asker=")

pub tail_is_written : (w : List ℕ) (a : Audit) → (w ++ (address_text a.asker ++ codes " type=")) ++ (text_or_dash a.because.kind ++ ending_text a.because.scope) ≡ w ++ tail_text a
tail_is_written w a = tail_of w (address_text a.asker) (codes " type=") (text_or_dash a.because.kind) (ending_text a.because.scope)

pub line_is_written : (w name : List ℕ) (a : Audit) → (w ++ head_text name a) ++ tail_text a ≡ w ++ line_text name a
unfolding line_text
line_is_written w name a = append_assoc w (head_text name a) (tail_text a)

-- a line is as long as its parts
pub head_length : (name : List ℕ) (a : Audit) → length (head_text name a) ≡ length (beginning_text a.code) + (length (decider_text name a.because.decider) + length (action_piece a))
head_length name a =
    let whole = ap length (head_is_written [] name a) in
    let two = length-append (beginning_text a.code) (decider_text name a.because.decider) in
    let three = length-append (beginning_text a.code ++ decider_text name a.because.decider) (action_piece a) in
    omega (arith, whole, two, three)

pub tail_length : (a : Audit) → length (tail_text a) ≡ length (address_text a.asker ++ codes " type=") + length (text_or_dash a.because.kind ++ ending_text a.because.scope)
tail_length a = ap length (sym (tail_is_written [] a)) ∙ length-append (address_text a.asker ++ codes " type=") (text_or_dash a.because.kind ++ ending_text a.because.scope)

pub line_length : (name : List ℕ) (a : Audit) → length (line_text name a) ≡ length (head_text name a) + length (tail_text a)
unfolding line_text
line_length name a = length-append (head_text name a) (tail_text a)

-- ---- how it begins

pub three_parts : (w a d b : List ℕ) → ((w ++ a) ++ d) ++ b ≡ w ++ (a ++ d ++ b)
three_parts w a d b = simp append_assoc refl

not_zero : (code : ℕ) → (code ≡ 0 → ⊥) → (code == 0) ≡ false
not_zero code some = grind (arith, nat_tests, some)

zero_digit : decimal 0 ≡ digit_zero ∷ []
unfolding digits
zero_digit = refl

pub denies : (code : ℕ) → (code ≡ 0 → ⊥) → codes "# deny code=" ++ decimal code ++ codes " by=" ≡ beginning_text code
denies code some =
    ap (λ (b : Bool). (if b then codes "# allow code=" else codes "# deny code=") ++ decimal code ++ codes " by=") (sym (not_zero code some))

pub allows : (code : ℕ) → code ≡ 0 → codes "# allow code=0 by=" ≡ beginning_text code
allows code h = sym (ap beginning_text h ∙ ap (λ (d : List ℕ). codes "# allow code=" ++ d ++ codes " by=") zero_digit)

-- of a question that is answered, where nobody had to decide
pub usual_is : (name : List ℕ) (a : Audit) → a.code ≡ 0 → a.because.decider ≡ Nobody → a.action ≡ See → codes "# allow code=0 by=none action=see asker=" ≡ head_text name a
usual_is name a zero nobody see =
    ap (λ b. b ++ decider_text name Nobody ++ codes " action=" ++ action_text See ++ codes " asker=") (allows a.code zero)
    ∙ ap (λ d. beginning_text a.code ++ decider_text name d ++ codes " action=" ++ action_text See ++ codes " asker=") (sym nobody)
    ∙ ap (λ x. beginning_text a.code ++ decider_text name a.because.decider ++ codes " action=" ++ action_text x ++ codes " asker=") (sym see)

-- ---- a character of a scope

-- as it is, where it is not reserved
pub raw_is_written : (c : ℕ) → is_reserved Scope c ≡ false → encode_utf8 c ≡ encode_utf8_all (written_character Scope c)
raw_is_written c h = rw h (sym (append-nil (encode_utf8 c)))

escape_of : (c d e : ℕ) → is_reserved Scope c ≡ true → d ≡ capital_digit (c / 16) → e ≡ capital_digit (c % 16) → backslash ∷ d ∷ e ∷ [] ≡ written_character Scope c
escape_of c d e h first second = rw (h, first, second) refl

-- and by three characters where it is
pub escape_is_written : (c d e : ℕ) → is_reserved Scope c ≡ true → d ≡ capital_digit (c / 16) → e ≡ capital_digit (c % 16) → (encode_utf8 backslash ++ encode_utf8 d) ++ encode_utf8 e ≡ encode_utf8_all (written_character Scope c)
escape_is_written c d e h first second =
    let b = encode_utf8 backslash in
    append_assoc b (encode_utf8 d) (encode_utf8 e) ∙ ap (λ t. b ++ (encode_utf8 d ++ t)) (sym (append-nil (encode_utf8 e))) ∙ ap encode_utf8_all (escape_of c d e h first second)

pub parts_length : (a b c : List ℕ) → length ((a ++ b) ++ c) ≡ (length a + length b) + length c
parts_length a b c = length-append (a ++ b) c ∙ ap (λ n. n + length c) (length-append a b)

-- what holds anyway holds where there is a fault
pub on_err : {A E : Type 0} (r : Result A E) (P : Type 0) → P → OnErr r P
on_err (Ok x) P p = tt
on_err (Err e) P p = p
