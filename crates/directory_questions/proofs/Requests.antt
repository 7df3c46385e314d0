-- What a request asks for, by the function of its messages.
use Rattle.std.proofs.Common.{◌≡◌, ℕ, Bool, List, Option, Some, None, true, false, refl, sym, ap, ◌∙◌, arith, inl, inr}
use Rattle.std.specs.Option.{option_map_or}
use Rattle.std.specs.Prelude.{◌⊎◌, ◌≢◌, IfSome}
use Rattle.std.proofs.lemmas.Bool.Decides.{nat_tests}
use Rattle.slp_headers.specs.Headers.{Heading, heading_of, reply_function_of}
use Rattle.directory_questions.specs.Answers.{is_change_of}
use Rattle.directory_questions.specs.Requests.{function_in, is_change_function, IsUnanswered, IsUnheard}
use Rattle.directory_questions.specs.declared.heard.Heard.{Heard}
use Rattle.directory_questions.specs.declared.request.Request.{Request}
use Rattle.directory_questions.specs.declared.request.Request.TheVariants.{Services, Registration, Withdrawal, Attributes, Types}

pub asks_change : (r : Request) → is_change_function (function_in r) ≡ true → (function_in r ≡ 3) ⊎ (function_in r ≡ 4)
asks_change Registration asks = inl refl
asks_change Withdrawal asks = inr refl
asks_change Services asks = absurd cc
asks_change Attributes asks = absurd cc
asks_change Types asks = absurd cc

pub asks_question : (r : Request) → is_change_function (function_in r) ≡ false → (function_in r ≡ 1) ⊎ ((function_in r ≡ 6) ⊎ (function_in r ≡ 9))
asks_question Services still = inl refl
asks_question Attributes still = inr (inl refl)
asks_question Types still = inr (inr refl)
asks_question Registration still = absurd cc
asks_question Withdrawal still = absurd cc

no_reply : (f : ℕ) → f ≢ 1 → f ≢ 3 → f ≢ 4 → f ≢ 6 → f ≢ 9 → reply_function_of f ≡ None
no_reply f a b c d e = grind (arith, nat_tests)

no_change : (f : ℕ) → f ≢ 3 → f ≢ 4 → is_change_function f ≡ false
no_change f a b = grind (arith, nat_tests)

-- no reply answers a function that is not answered
pub unanswered_reply : (f : ℕ) → IsUnanswered f → reply_function_of f ≡ None
unanswered_reply f other = no_reply f other.0 other.1.0 other.1.1.0 other.1.1.1.0 other.1.1.1.1

-- nor does it ask for a change
pub unanswered_still : (f : ℕ) → IsUnanswered f → is_change_function f ≡ false
unanswered_still f other = no_change f other.1.0 other.1.1.0

-- bytes ask for a change where what is heard of them does
pub heard_asks : (h : Heard) (b : Bool) → is_change_function (function_in h.request) ≡ b → is_change_of h.call.now.bytes.now ≡ b
unfolding is_change_of
heard_asks h b asks = ap (λ (x : Option Heading). option_map_or (λ (y : Heading). is_change_function y.function) x false) h.headed ∙ (ap is_change_function (sym h.asked) ∙ asks)

-- and none where nothing is heard
pub unheard_still : (bytes : List ℕ) → IsUnheard bytes → is_change_of bytes ≡ false
unfolding is_change_of
unheard_still bytes unheard =
    elim (heading_of bytes) as (λ x. IfSome x (λ (h : Heading). IsUnanswered h.function) → option_map_or (λ (h : Heading). is_change_function h.function) x false ≡ false) [
      | None ↦ λ _. refl
      | Some head ↦ λ no. unanswered_still head.function no
    ] unheard

pub asked_by : (h : Heard) (b : Bool) → is_change_of h.call.now.bytes.now ≡ b → is_change_function (function_in h.request) ≡ b
asked_by h b asks = sym (heard_asks h (is_change_function (function_in h.request)) refl) ∙ asks
