-- A message that is read is of the function that its header names.
use Rattle.std.proofs.Common.{◌≡◌, ℕ, cond, eqb, List, Some, Result, Ok, refl, sym, ◌∙◌, inl, inr, arith}
use Rattle.std.proofs.lemmas.Bool.{eqb-true}
use Rattle.slp_headers.specs.Headers.{Heading, heading_of}
use Rattle.slp_messages.specs.Messages.{function_of}
use Rattle.slp_messages.specs.declared.header.Header.{Header}
use Rattle.slp_messages.specs.declared.message.Message.{Message}
use Rattle.slp_messages.specs.declared.message.Message.TheVariants as message
use Rattle.slp_fields.specs.declared.fault.WireFault.{WireFault}
use Rattle.slp_wire.specs.Bodies.{as_message, body_at}
use Rattle.slp_wire.specs.Reading.{tail_of, kept_header, body_part, ends_at, reading_to_end, reading_after, reading}
use Rattle.slp_wire.proofs.Steps.{bind_ok, chosen, from_ok}

-- this function, or another one
or_next : {A : Type 0} (k function : ℕ) (x : Message × List ℕ) (f : A → Message) (read : Result (A × List ℕ) WireFault) (next : Result (Message × List ℕ) WireFault) → ((a : A) → function_of (f a) ≡ k)
    → (next ≡ Ok x → function_of x.0 ≡ function) → cond (eqb function k) (as_message f read) next ≡ Ok x → function_of x.0 ≡ function
or_next k function x f read next of of_next e =
    elim (chosen (eqb function k) (as_message f read) next (Ok x) e) [
      | inl is ↦ let a = bind_ok read _ x is.1 in from_ok (λ (y : Message × List ℕ). function_of y.0 ≡ function) (f a.0.0, a.0.1) x a.2 (of a.0.0 ∙ sym (eqb-true function k is.0))
      | inr not ↦ of_next not.1
    ]

body_function : (function tail : ℕ) (h : Header) (bytes : List ℕ) (x : Message × List ℕ) → body_at function tail h bytes ≡ Ok x → function_of x.0 ≡ function
unfolding body_at
body_function function tail h bytes x =
    or_next 1 function x (message.ServiceRequest h) _ _ (λ a. refl)
    (or_next 2 function x (message.ServiceReply h) _ _ (λ a. refl)
    (or_next 3 function x (message.Registration h) _ _ (λ a. refl)
    (or_next 4 function x (message.Withdrawal h) _ _ (λ a. refl)
    (or_next 5 function x (message.Acknowledgement h) _ _ (λ a. refl)
    (or_next 6 function x (message.AttributeRequest h) _ _ (λ a. refl)
    (or_next 7 function x (message.AttributeReply h) _ _ (λ a. refl)
    (or_next 8 function x (message.DirectoryAdvert h) _ _ (λ a. refl)
    (or_next 9 function x (message.TypeRequest h) _ _ (λ a. refl)
    (or_next 10 function x (message.TypeReply h) _ _ (λ a. refl)
    (or_next 11 function x (message.ServiceAdvert h) _ _ (λ a. refl)
    (λ wrong. absurd cc)))))))))))

ended_function : (h : Heading) (m : Message) (bytes : List ℕ) → reading_to_end h (body_at h.function (tail_of h) (kept_header h) bytes) ≡ Ok m → function_of m ≡ h.function
unfolding reading_to_end
ended_function h m bytes e =
    let d = bind_ok (body_at h.function (tail_of h) (kept_header h) bytes) _ m e in
    let f = bind_ok (ends_at h.extension h.length d.0.1) _ m d.2 in
    from_ok (λ (k : Message). function_of k ≡ h.function) d.0.0 m f.2 (body_function h.function (tail_of h) (kept_header h) bytes d.0 d.1)

after_function : (h : Heading) (bytes : List ℕ) (m : Message) → reading_after h bytes ≡ Ok m → function_of m ≡ h.function
unfolding reading_after
after_function h bytes m e =
    ended_function h m (body_part h bytes) (grind arith)

pub message_function : (bytes : List ℕ) (h : Heading) (m : Message) → heading_of bytes ≡ Some h → reading bytes ≡ Ok m → function_of m ≡ h.function
unfolding reading
message_function bytes h m head e = after_function h bytes m (rw (head, reading) at e)
