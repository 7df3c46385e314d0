-- The line of a message that found no memory.
use Rattle.std.proofs.Common.{◌≡◌, ℕ, suc, ◌<◌, ◌≤◌, ◌+◌, ◌^◌, ◌/◌, ◌%◌, List, [], ◌∷◌, ◌++◌, length, codes, Option, Some, None, refl, sym, ap, ◌∙◌, arith}
use Rattle.std.specs.Prelude.{IfSome}
use Rattle.std.specs.Fmt.{decimal}
use Rattle.std.specs.Option.{option_map_or}
use Rattle.std.proofs.lemmas.Fmt.{length-decimal-le}
use Rattle.std.proofs.lemmas.List.{length-append}
use Rattle.slp_headers.specs.Headers.{Heading, heading_of, reply_function_of}
use Rattle.access_rules.specs.declared.rule.Action.{Action}
use Rattle.access_rules.specs.declared.rule.Action.TheVariants.{Register, Withdraw, See}
use Rattle.access_rules.specs.Deciding.{no_rules}
use Rattle.directory_judge.specs.declared.reason.Decider.TheVariants.{Memory}
use Rattle.addresses.specs.Addresses.{address_text}
use Rattle.slp_replies.specs.Audits.{action_text, audit_text, line_text}
use Rattle.directory_judge.specs.Judgements.{by_step}
use Rattle.directory_questions.specs.Outcomes.{code_outcome_as, refusal_outcome, silence}
use Rattle.slp_replies.specs.declared.copies.Audit.{Audit}
use Rattle.directory_questions.specs.Requests.{action_of, function_in, IsUnanswered, IsUnheard}
use Rattle.directory_questions.specs.declared.request.Request.{Request}
use Rattle.directory_questions.specs.declared.request.Request.TheVariants as request
use Rattle.directory_questions.proofs.Requests.{unanswered_reply}
use Rattle.slp_replies.specs.Tellings.{line_by, line_of}
use Rattle.slp_replies.proofs.AuditLines.{head_length, line_length, tail_length}
use Rattle.slp_text.specs.Ascii.{dot}

-- what it tells
abbrev pub lacking : Action → ℕ → Audit
lacking a asker = record { code = 10; because = by_step Memory None; action = a; asker = asker }

action_is_short : (a : Action) → length (action_text a) ≤ 8
action_is_short Register = omega arith
action_is_short Withdraw = omega arith
action_is_short See = omega arith

octet_is_short : (n : ℕ) → n < 256 → length (decimal n) ≤ 3
octet_is_short n small = length-decimal-le 3 n (omega arith) (omega (arith, small)) (omega (arith, small))

pub address_is_short : (asker : ℕ) → asker < 2 ^ 32 → length (address_text asker) ≤ 15
address_is_short asker small =
    let a = octet_is_short (asker / 16777216) (omega (arith, small)) in
    let b = octet_is_short (asker / 65536 % 256) (omega arith) in
    let c = octet_is_short (asker / 256 % 256) (omega arith) in
    let d = octet_is_short (asker % 256) (omega arith) in
    let two = decimal (asker / 16777216) ++ dot ∷ decimal (asker / 65536 % 256) in
    let three = two ++ dot ∷ decimal (asker / 256 % 256) in
    let whole : length (address_text asker) ≡ length three + suc (length (decimal (asker % 256))) = length-append three (dot ∷ decimal (asker % 256)) in
    let of_three : length three ≡ length two + suc (length (decimal (asker / 256 % 256))) = length-append two (dot ∷ decimal (asker / 256 % 256)) in
    let of_two : length two ≡ length (decimal (asker / 16777216)) + suc (length (decimal (asker / 65536 % 256))) = length-append (decimal (asker / 16777216)) (dot ∷ decimal (asker / 65536 % 256)) in
    omega (arith, a, b, c, d, whole, of_three, of_two)

pub line_is_short : (a : Action) (asker : ℕ) → asker < 2 ^ 32 → length (line_text [] (lacking a asker)) < 128
line_is_short a asker small =
    let whole = line_length [] (lacking a asker) in
    let head = head_length [] (lacking a asker) in
    let tail = tail_length (lacking a asker) in
    let beginning = length-append (decimal 10) (codes " by=") in
    let asked = length-append (address_text asker) (codes " type=") in
    let word = length-append (action_text a) (codes " asker=") in
    let ten = length-decimal-le 2 10 (omega arith) (omega arith) (omega arith) in
    let short_word = action_is_short a in
    let short_address = address_is_short asker small in
    omega (arith, whole, head, tail, beginning, asked, word, ten, short_word, short_address)

-- what is asked for has a reply
pub answered : (r : Request) → (f : ℕ) × (Some f ≡ reply_function_of (function_in r))
answered request.Services = (2, refl)
answered request.Registration = (5, refl)
answered request.Withdrawal = (5, refl)
answered request.Attributes = (7, refl)
answered request.Types = (10, refl)

pub line_is_refused : (asker : ℕ) (h : Heading) (f : ℕ) (a : Action) (line : List ℕ) → Some f ≡ reply_function_of h.function
    → a ≡ action_of h → line ≡ audit_text no_rules (lacking a asker) → line ≡ line_of no_rules asker (Some h) (refusal_outcome (Some h))
line_is_refused asker h f a line known action written =
    written ∙ ap (λ (x : Action). audit_text no_rules (lacking x asker)) action
    ∙ ap (λ (o : Option ℕ). line_by no_rules asker h (option_map_or (code_outcome_as h 10 (by_step Memory None)) o silence)) known

-- nothing is told of what is unheard
pub unheard_is : (asker : ℕ) (bytes : List ℕ) → IsUnheard bytes → ([] ≡ line_of no_rules asker (heading_of bytes) (refusal_outcome (heading_of bytes))) × ([] ≡ (refusal_outcome (heading_of bytes)).reply)
unheard_is asker bytes unheard =
    elim (heading_of bytes) as (λ x. IfSome x (λ head. IsUnanswered head.function) → ([] ≡ line_of no_rules asker x (refusal_outcome x)) × ([] ≡ (refusal_outcome x).reply)) [
      | None ↦ λ _. (refl, refl)
      | Some head ↦ λ no.
          let none = sym (unanswered_reply head.function no) in (
            ap (λ (o : Option ℕ). line_by no_rules asker head (option_map_or (code_outcome_as head 10 (by_step Memory None)) o silence)) none,
            ap (λ (o : Option ℕ). (option_map_or (code_outcome_as head 10 (by_step Memory None)) o silence).reply) none,
          )
    ] unheard
