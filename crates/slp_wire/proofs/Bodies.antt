-- Bodies by the functions of their messages, as they are read and as they are spelled.
use Rattle.std.proofs.Common.{◌≡◌, ℕ, cond, eqb, List, ◌++◌, length, Result, Ok, refl, sym, ap, subst, inl, inr}
use Rattle.std.proofs.lemmas.Bool.{eqb-true}
use Rattle.slp_messages.specs.Layouts.{Layout, ReplyBody, IsReply, service_request, registration, withdrawal, acknowledgement, attribute_request, type_request, service_agent, services, attributes, directory_agent, types, of_services, of_attributes, of_directory_agent, of_types}
use Rattle.slp_messages.specs.Messages.{header_of, function_of, IsBody}
use Rattle.slp_messages.specs.declared.header.Header.{Header}
use Rattle.slp_messages.specs.declared.message.AttributeReply.TheVariants as attribute_reply
use Rattle.slp_messages.specs.declared.message.DirectoryAdvert.TheVariants as directory_advert
use Rattle.slp_messages.specs.declared.message.Message.{Message}
use Rattle.slp_messages.specs.declared.message.Message.TheVariants as message
use Rattle.slp_messages.specs.declared.message.ServiceReply.TheVariants as service_reply
use Rattle.slp_messages.specs.declared.message.TypeReply.TheVariants as type_reply
use Rattle.slp_fields.specs.declared.fault.WireFault.{WireFault}
use Rattle.slp_bodies.specs.Bodies.{service_request_at, service_reply_at, registration_at, withdrawal_at, attribute_request_at, attribute_reply_at, directory_advert_at, type_request_at, type_reply_at, service_agent_at}
use Rattle.slp_wire.specs.Bodies.{as_message, body_at}
use Rattle.slp_bodies.specs.Replies.{SpellsReply}
use Rattle.slp_wire.specs.Spelling.{SpellsBody, body_of}
use Rattle.slp_wire.proofs.Replies.{reply_takes, found_again, refused_again, reply_is_spelled}
use Rattle.slp_wire.proofs.Layouts.{laid_takes, laid_again, service_request_lawful, registration_lawful, withdrawal_lawful, acknowledgement_lawful, attribute_request_lawful, type_request_lawful, service_agent_lawful, services_lawful, attributes_lawful, directory_agent_lawful, types_lawful}
use Rattle.slp_wire.proofs.Steps.{IsBytes, Takes, bind_ok, chosen, from_ok}
use Rattle.slp_wire.proofs.Values.{values_are_spelled}

-- a body that was read
pub record Body (function : ℕ) (h : Header) (bytes : List ℕ) (m : Message) (rest : List ℕ) : Type 0 where
  pub text : List ℕ
  pub takes : Takes bytes text rest
  pub spells : SpellsBody text m
  pub sound : IsBody m
  pub of : function_of m ≡ function
  pub header : header_of m ≡ h

-- a message that is made of what was read
made : {A : Type 0} (k : ℕ) (h : Header) (bytes : List ℕ) (x : Message × List ℕ) (f : A → Message) (read : Result (A × List ℕ) WireFault)
    → ((a : A) → function_of (f a) ≡ k) → ((a : A) → header_of (f a) ≡ h)
    → ((a : A) (rest : List ℕ) → read ≡ Ok (a, rest) → (text : List ℕ) × Takes bytes text rest × SpellsBody text (f a) × IsBody (f a))
    → as_message f read ≡ Ok x → Body k h bytes x.0 x.1
made k h bytes x f read of header takes e =
    let a = bind_ok read _ x e in
    let t = takes a.0.0 a.0.1 a.1 in
    let body : Body k h bytes (f a.0.0) a.0.1 = record { text = t.0; takes = t.1; spells = t.2; sound = t.3; of = of a.0.0; header = header a.0.0 } in
    from_ok (λ (y : Message × List ℕ). Body k h bytes y.0 y.1) (f a.0.0, a.0.1) x a.2 body

-- this function, or another one
or_next : (k function : ℕ) (h : Header) (bytes : List ℕ) (x : Message × List ℕ) (this next : Result (Message × List ℕ) WireFault)
    → (this ≡ Ok x → Body k h bytes x.0 x.1) → (next ≡ Ok x → Body function h bytes x.0 x.1) → cond (eqb function k) this next ≡ Ok x → Body function h bytes x.0 x.1
or_next k function h bytes x this next of_this of_next e =
    elim (chosen (eqb function k) this next (Ok x) e) [
      | inl is ↦ subst (λ (g : ℕ). Body g h bytes x.0 x.1) (sym (eqb-true function k is.0)) (of_this is.1)
      | inr not ↦ of_next not.1
    ]

-- a reply that was read
abbrev Answer : {A B : Type 0} → Layout A → (B → ReplyBody A) → List ℕ → B → Type 0
Answer layout of text b = SpellsReply layout text (of b) × IsReply layout (of b)

pub body_takes : (function tail : ℕ) (h : Header) (bytes : List ℕ) (x : Message × List ℕ) → IsBytes bytes → body_at function tail h bytes ≡ Ok x → Body function h bytes x.0 x.1
unfolding body_at service_request_at service_reply_at registration_at withdrawal_at attribute_request_at attribute_reply_at directory_advert_at type_request_at type_reply_at service_agent_at
body_takes function tail h bytes x fits =
    or_next 1 function h bytes x _ _ (made 1 h bytes x (message.ServiceRequest h) _ (λ a. refl) (λ a. refl) (λ a rest e. laid_takes service_request service_request_lawful bytes a rest fits e))
    (or_next 2 function h bytes x _ _ (made 2 h bytes x (message.ServiceReply h) _ (λ a. refl) (λ a. refl) (λ a rest e. let t = reply_takes services service_reply.Found service_reply.Refused (Answer services of_services) services_lawful (λ text b s l. (s, l)) (λ text code s l. (s, l)) tail bytes a rest fits e in (t.0, t.1, t.2.0, t.2.1)))
    (or_next 3 function h bytes x _ _ (made 3 h bytes x (message.Registration h) _ (λ a. refl) (λ a. refl) (λ a rest e. laid_takes registration registration_lawful bytes a rest fits e))
    (or_next 4 function h bytes x _ _ (made 4 h bytes x (message.Withdrawal h) _ (λ a. refl) (λ a. refl) (λ a rest e. laid_takes withdrawal withdrawal_lawful bytes a rest fits e))
    (or_next 5 function h bytes x _ _ (made 5 h bytes x (message.Acknowledgement h) _ (λ a. refl) (λ a. refl) (λ a rest e. laid_takes acknowledgement acknowledgement_lawful bytes a rest fits e))
    (or_next 6 function h bytes x _ _ (made 6 h bytes x (message.AttributeRequest h) _ (λ a. refl) (λ a. refl) (λ a rest e. laid_takes attribute_request attribute_request_lawful bytes a rest fits e))
    (or_next 7 function h bytes x _ _ (made 7 h bytes x (message.AttributeReply h) _ (λ a. refl) (λ a. refl) (λ a rest e. let t = reply_takes attributes attribute_reply.Found attribute_reply.Refused (Answer attributes of_attributes) attributes_lawful (λ text b s l. (s, l)) (λ text code s l. (s, l)) tail bytes a rest fits e in (t.0, t.1, t.2.0, t.2.1)))
    (or_next 8 function h bytes x _ _ (made 8 h bytes x (message.DirectoryAdvert h) _ (λ a. refl) (λ a. refl) (λ a rest e. let t = reply_takes directory_agent directory_advert.Present directory_advert.Refused (Answer directory_agent of_directory_agent) directory_agent_lawful (λ text b s l. (s, l)) (λ text code s l. (s, l)) tail bytes a rest fits e in (t.0, t.1, t.2.0, t.2.1)))
    (or_next 9 function h bytes x _ _ (made 9 h bytes x (message.TypeRequest h) _ (λ a. refl) (λ a. refl) (λ a rest e. laid_takes type_request type_request_lawful bytes a rest fits e))
    (or_next 10 function h bytes x _ _ (made 10 h bytes x (message.TypeReply h) _ (λ a. refl) (λ a. refl) (λ a rest e. let t = reply_takes types type_reply.Found type_reply.Refused (Answer types of_types) types_lawful (λ text b s l. (s, l)) (λ text code s l. (s, l)) tail bytes a rest fits e in (t.0, t.1, t.2.0, t.2.1)))
    (or_next 11 function h bytes x _ _ (made 11 h bytes x (message.ServiceAdvert h) _ (λ a. refl) (λ a. refl) (λ a rest e. laid_takes service_agent service_agent_lawful bytes a rest fits e))
    (λ wrong. absurd cc)))))))))))

pub body_again : (m : Message) (body ext : List ℕ) (tail : ℕ) → tail ≡ length ext → SpellsBody body m → IsBody m → body_at (function_of m) tail (header_of m) (body ++ ext) ≡ Ok (m, ext)
unfolding body_at service_request_at service_reply_at registration_at withdrawal_at attribute_request_at attribute_reply_at directory_advert_at type_request_at type_reply_at service_agent_at
body_again (message.ServiceRequest h q) body ext tail size spells sound = ap (as_message (message.ServiceRequest h)) (laid_again service_request service_request_lawful body q ext spells sound)
body_again (message.ServiceReply h (service_reply.Found a)) body ext tail size spells sound = ap (as_message (message.ServiceReply h)) (found_again services service_reply.Found service_reply.Refused services_lawful tail body a ext spells sound)
body_again (message.ServiceReply h (service_reply.Refused code)) body ext tail size spells sound = ap (as_message (message.ServiceReply h)) (refused_again services service_reply.Found service_reply.Refused services_lawful tail body code ext size spells sound)
body_again (message.Registration h r) body ext tail size spells sound = ap (as_message (message.Registration h)) (laid_again registration registration_lawful body r ext spells sound)
body_again (message.Withdrawal h w) body ext tail size spells sound = ap (as_message (message.Withdrawal h)) (laid_again withdrawal withdrawal_lawful body w ext spells sound)
body_again (message.Acknowledgement h code) body ext tail size spells sound = ap (as_message (message.Acknowledgement h)) (laid_again acknowledgement acknowledgement_lawful body code ext spells sound)
body_again (message.AttributeRequest h q) body ext tail size spells sound = ap (as_message (message.AttributeRequest h)) (laid_again attribute_request attribute_request_lawful body q ext spells sound)
body_again (message.AttributeReply h (attribute_reply.Found a)) body ext tail size spells sound = ap (as_message (message.AttributeReply h)) (found_again attributes attribute_reply.Found attribute_reply.Refused attributes_lawful tail body a ext spells sound)
body_again (message.AttributeReply h (attribute_reply.Refused code)) body ext tail size spells sound = ap (as_message (message.AttributeReply h)) (refused_again attributes attribute_reply.Found attribute_reply.Refused attributes_lawful tail body code ext size spells sound)
body_again (message.DirectoryAdvert h (directory_advert.Present a)) body ext tail size spells sound = ap (as_message (message.DirectoryAdvert h)) (found_again directory_agent directory_advert.Present directory_advert.Refused directory_agent_lawful tail body a ext spells sound)
body_again (message.DirectoryAdvert h (directory_advert.Refused code)) body ext tail size spells sound = ap (as_message (message.DirectoryAdvert h)) (refused_again directory_agent directory_advert.Present directory_advert.Refused directory_agent_lawful tail body code ext size spells sound)
body_again (message.TypeRequest h q) body ext tail size spells sound = ap (as_message (message.TypeRequest h)) (laid_again type_request type_request_lawful body q ext spells sound)
body_again (message.TypeReply h (type_reply.Found a)) body ext tail size spells sound = ap (as_message (message.TypeReply h)) (found_again types type_reply.Found type_reply.Refused types_lawful tail body a ext spells sound)
body_again (message.TypeReply h (type_reply.Refused code)) body ext tail size spells sound = ap (as_message (message.TypeReply h)) (refused_again types type_reply.Found type_reply.Refused types_lawful tail body code ext size spells sound)
body_again (message.ServiceAdvert h a) body ext tail size spells sound = ap (as_message (message.ServiceAdvert h)) (laid_again service_agent service_agent_lawful body a ext spells sound)

pub body_is_spelled : (m : Message) → SpellsBody (body_of m) m
body_is_spelled (message.ServiceRequest h a) = values_are_spelled service_request.kinds (service_request.held a)
body_is_spelled (message.ServiceReply h r) = reply_is_spelled services (of_services r)
body_is_spelled (message.Registration h a) = values_are_spelled registration.kinds (registration.held a)
body_is_spelled (message.Withdrawal h a) = values_are_spelled withdrawal.kinds (withdrawal.held a)
body_is_spelled (message.Acknowledgement h a) = values_are_spelled acknowledgement.kinds (acknowledgement.held a)
body_is_spelled (message.AttributeRequest h a) = values_are_spelled attribute_request.kinds (attribute_request.held a)
body_is_spelled (message.AttributeReply h r) = reply_is_spelled attributes (of_attributes r)
body_is_spelled (message.DirectoryAdvert h r) = reply_is_spelled directory_agent (of_directory_agent r)
body_is_spelled (message.TypeRequest h a) = values_are_spelled type_request.kinds (type_request.held a)
body_is_spelled (message.TypeReply h r) = reply_is_spelled types (of_types r)
body_is_spelled (message.ServiceAdvert h a) = values_are_spelled service_agent.kinds (service_agent.held a)
