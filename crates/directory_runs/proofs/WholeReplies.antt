-- A reply of code 0 without the flag holds all that is found.
use Rattle.std.proofs.Common.{◌≡◌, ◌≢◌, ℕ, ◌^◌, ◌<◌, Bool, true, false, cond, List, [], ◌∷◌, length, drop, Option, Some, None, Result, Ok, Err, sym, ap, subst, ◌∙◌, refl, arith, lit<, inl, inr}
use Rattle.std.specs.Prelude.{◌==◌, ◌&&◌, ◌||◌, nat_lt, not}
use Rattle.std.specs.List.{list_any}
use Rattle.std.proofs.lemmas.Bool.Decides.{nat_tests}
use Rattle.std.proofs.lemmas.Option.{none-some, same_Some}
use Rattle.slp_headers.specs.Headers.{Heading, fields_of, flags_of, heading_of, word_of}
use Rattle.slp_fields.specs.declared.fault.WireFault.{WireFault}
use Rattle.slp_fields.specs.declared.fault.WireFault.TheVariants as fault
use Rattle.slp_messages.specs.declared.code.TheConstants.{OK}
use Rattle.slp_messages.specs.declared.function.TheConstants.{DIRECTORY_ADVERT}
use Rattle.slp_messages.specs.declared.message.Message.{Message}
use Rattle.slp_messages.specs.declared.message.Message.TheVariants as message
use Rattle.slp_messages.specs.Messages.{header_of}
use Rattle.slp_wire.specs.Reading.{reading}
use Rattle.slp_wire.specs.Spelling.{plain_bytes}
use Rattle.slp_wire.proofs.Numbers.{two_again}
use Rattle.directory_judge.specs.History.{Event, History}
use Rattle.directory_judge.specs.Judgements.{by_step, code_by, supports}
use Rattle.directory_judge.specs.declared.reason.Because.{Because}
use Rattle.directory_judge.specs.declared.reason.Decider.{Decider}
use Rattle.directory_judge.specs.declared.reason.Decider.TheVariants as decider
use Rattle.directory_questions.specs.Answers.{Sense, Settled, Lists, Describes, Names, Changes, IsAnswer, IsAnswerTo, IsCutReply, advert_code, advert_of, advert_outcome, agents_outcome, is_agent_for, language_outcome, question_of, sense_of, sense_of_message, sense_of_question, sense_of_reading, sense_under, sense_within}
use Rattle.directory_questions.specs.Calls.{Opening, Call}
use Rattle.directory_questions.specs.Cuts.{attributes_with, services_with, types_with}
use Rattle.directory_questions.specs.Items.{attribute_texts, kind_asked}
use Rattle.directory_questions.specs.Outcomes.{Outcome, silence, outcome, code_outcome, code_outcome_as, code_sent, fault_outcome, sent_of, is_to_many}
use Rattle.slp_headers.specs.Headers.{reply_function_of, refusal_bytes}
use Rattle.std.specs.Option.{option_map_or}
use Rattle.directory_questions.specs.declared.question.Question.{Question}
use Rattle.directory_questions.specs.declared.question.Question.TheVariants as question
use Rattle.directory_runs.specs.Promises.{HoldsExactly, IsAdvert, is_overflowed}

-- ---- the flag

-- the flag is read as it was written, in a word of 16 bits
word_keeps : (a b c : Bool) → let w = word_of (record { overflow = a; fresh = b; multicast = c }) in ((flags_of w).overflow ≡ a) × (w < 2 ^ 16)
word_keeps true true true = (refl, lit< tt)
word_keeps true true false = (refl, lit< tt)
word_keeps true false true = (refl, lit< tt)
word_keeps true false false = (refl, lit< tt)
word_keeps false true true = (refl, lit< tt)
word_keeps false true false = (refl, lit< tt)
word_keeps false false true = (refl, lit< tt)
word_keeps false false false = (refl, lit< tt)

overflow_of : (m : Message) → is_overflowed (plain_bytes m) ≡ (header_of m).flags.overflow
overflow_of m =
    let f = (header_of m).flags in
    let kept = word_keeps f.overflow f.fresh f.multicast in
    let word : (fields_of (plain_bytes m)).flags ≡ word_of f = two_again (word_of f) (drop 7 (plain_bytes m)) kept.1 in
    ap (λ (w : ℕ). (flags_of w).overflow) word ∙ kept.0

-- ---- what is cut, and is not

-- what is sent with a code is the whole
sent_whole : (b : Bool) (whole : List ℕ) (because : Because) → code_sent (outcome (cond b [] whole) OK because) ≡ Some OK → cond b [] whole ≡ whole
sent_whole true whole because sent = absurd (none-some OK sent)
sent_whole false whole because sent = refl

module _ {A : Type 0} (listed : List A → ℕ → Message) (flagged : (items : List A) (count : ℕ) → (header_of (listed items count)).flags.overflow ≡ nat_lt count (length items)) where
  whole_reply : (limit : ℕ) (h : Heading) (because : Because) (items : List A) (r : Outcome) → IsCutReply listed limit h because items r
      → code_sent r ≡ Some OK → is_overflowed r.reply ≡ false → r.reply ≡ plain_bytes (listed items (length items))
  whole_reply limit h because items r is sent flag =
      let cut = is.cut in
      let all : r.reply ≡ is.whole =
      ap (λ (x : Outcome). x.reply) is.sent
      ∙ sent_whole (is_to_many h && (not (OK == OK) || (length items == 0))) is.whole because (subst (λ (x : Outcome). code_sent x ≡ Some OK) is.sent sent) in
      let spelled : r.reply ≡ plain_bytes (listed items cut.count) = all ∙ cut.spelled in
      let short : nat_lt cut.count (length items) ≡ false = sym (flagged items cut.count) ∙ sym (overflow_of (listed items cut.count)) ∙ ap is_overflowed (sym spelled) ∙ flag in
      let within = cut.within in
      let same : cut.count ≡ length items = grind (arith, nat_tests) in
      spelled ∙ ap (λ n. plain_bytes (listed items n)) same

-- ---- replies that hold nothing

coded : (reply : List ℕ) (code : ℕ) (because : Because) → code_sent (outcome reply code because) ≡ Some OK → code ≡ OK
coded [] code because sent = absurd (none-some OK sent)
coded (b ∷ bs) code because sent = same_Some code OK sent

refused : (h : Heading) (code : ℕ) (because : Because) (function : Option ℕ) → code_sent (option_map_or (code_outcome_as h code because) function silence) ≡ Some OK → code ≡ OK
refused h code because None sent = absurd (none-some OK sent)
refused h code because (Some f) sent = coded (sent_of h code false (refusal_bytes f code h.xid h.language)) code because sent

no_language : (h : Heading) (kind : Option (List ℕ)) (r : Outcome) → r ≡ language_outcome h kind → code_sent r ≡ Some OK → ⊥
no_language h kind r is sent =
    let wrong : code_by decider.Language ≡ OK = refused h (code_by decider.Language) (by_step decider.Language kind) (reply_function_of h.function) (subst (λ (x : Outcome). code_sent x ≡ Some OK) is sent) in
    omega arith

-- ---- adverts

-- nothing is sent
abbrev IsSilent : Sense → Type 0
IsSilent (Settled it) = code_sent it ≡ None
IsSilent (Lists k q) = Unit {0}
IsSilent (Describes k q) = Unit {0}
IsSilent (Names k q) = Unit {0}
IsSilent (Changes k sent) = Unit {0}

-- what is the same at every history, and has code 0, is the site's advert
abbrev IsAdvertIn : Opening → Call → Heading → Sense → Type 0
IsAdvertIn o c head (Settled it) = code_sent it ≡ Some OK → it.reply ≡ plain_bytes (advert_of o.site c.own head)
IsAdvertIn o c head (Lists k q) = Unit {0}
IsAdvertIn o c head (Describes k q) = Unit {0}
IsAdvertIn o c head (Names k q) = Unit {0}
IsAdvertIn o c head (Changes k sent) = Unit {0}

module _ (o : Opening) (c : Call) (head : Heading) where
  abbrev IsAdvertHere : Sense → Type 0
  IsAdvertHere = IsAdvertIn o c head

  no_step : (d : Decider) (kind : Option (List ℕ)) → code_by d ≢ OK → IsAdvertHere (Settled (code_outcome head (code_by d) (by_step d kind)))
  no_step d kind wrong sent = absurd (wrong (refused head (code_by d) (by_step d kind) (reply_function_of head.function) sent))

  no_fault : (e : WireFault) → IsAdvertHere (Settled (fault_outcome head e))
  no_fault fault.Version = no_step decider.Version None (λ same. omega (arith, same))
  no_fault fault.Parse = no_step decider.Parse None (λ same. omega (arith, same))
  no_fault fault.Auth = no_step decider.Auth None (λ same. omega (arith, same))
  no_fault fault.Option = no_step decider.Option None (λ same. omega (arith, same))
  no_fault fault.NoHeader = λ sent. absurd (none-some OK sent)
  no_fault fault.Unknown = λ sent. absurd (none-some OK sent)
  no_fault fault.NoMemory = λ sent. absurd (none-some OK sent)
  no_fault fault.TooLong = λ sent. absurd (none-some OK sent)

  advert_refused : (d : Decider) (kind : Option (List ℕ)) → code_by d ≢ OK → IsAdvertHere (Settled (advert_code head (code_by d) (by_step d kind)))
  advert_refused d kind wrong sent = absurd (wrong (coded (sent_of head (code_by d) false (refusal_bytes DIRECTORY_ADVERT (code_by d) head.xid head.language)) (code_by d) (by_step d kind) sent))

  advert_agents : (kind : List ℕ) (scopes : Option (List (List ℕ))) → IsAdvertHere (Settled (agents_outcome o.site c.own head kind scopes))
  advert_agents kind None = advert_refused decider.Parse None (λ same. omega (arith, same))
  advert_agents kind (Some scopes) =
      elim (is_agent_for o.site scopes) as (λ b. IsAdvertHere (Settled (cond b (advert_outcome o.site c.own head kind) (advert_code head (code_by decider.Scope) (by_step decider.Scope (Some kind)))))) [
        | true ↦ sent_whole (is_to_many head && (not (OK == OK) || false)) (plain_bytes (advert_of o.site c.own head)) (by_step decider.Nobody (Some kind))
        | false ↦ advert_refused decider.Scope (Some kind) (λ same. omega (arith, same))
      ]

  advert_within : (scopes : List (List ℕ)) (kind : Option (List ℕ)) (sense : Sense) → IsAdvertHere sense → IsAdvertHere (sense_within o.site head scopes kind sense)
  advert_within scopes kind sense is =
      elim (list_any (supports o.site) scopes) as (λ b. IsAdvertHere (cond b sense (Settled (code_outcome head (code_by decider.Scope) (by_step decider.Scope kind))))) [
        | true ↦ is
        | false ↦ no_step decider.Scope kind (λ same. omega (arith, same))
      ]

  advert_question : (asked : Question) → IsAdvertHere (sense_of_question o.site c.own head asked)
  advert_question question.Silent = λ sent. absurd (none-some OK sent)
  advert_question question.Unreadable = no_step decider.Parse None (λ same. omega (arith, same))
  advert_question (question.Services q) = advert_within q.scopes (Some q.kind) (Lists head q) tt
  advert_question (question.Attributes q) = advert_within q.scopes (kind_asked q.target) (Describes head q) tt
  advert_question (question.Types q) = advert_within q.scopes None (Names head q) tt
  advert_question (question.Agents q) = advert_agents q.kind q.scopes

  advert_message : (sent : Message) → IsAdvertHere (sense_of_message o.site c.own head sent)
  advert_message (message.Registration k x) = tt
  advert_message (message.Withdrawal k x) = tt
  advert_message (message.ServiceRequest k q) = advert_question (question_of c.own (message.ServiceRequest k q))
  advert_message (message.AttributeRequest k q) = advert_question (question_of c.own (message.AttributeRequest k q))
  advert_message (message.TypeRequest k q) = advert_question (question_of c.own (message.TypeRequest k q))
  advert_message (message.ServiceReply k x) = λ sent. absurd (none-some OK sent)
  advert_message (message.Acknowledgement k code) = λ sent. absurd (none-some OK sent)
  advert_message (message.AttributeReply k x) = λ sent. absurd (none-some OK sent)
  advert_message (message.DirectoryAdvert k a) = λ sent. absurd (none-some OK sent)
  advert_message (message.TypeReply k x) = λ sent. absurd (none-some OK sent)
  advert_message (message.ServiceAdvert k a) = λ sent. absurd (none-some OK sent)

  advert_reading : (read : Result Message WireFault) → IsAdvertHere (sense_of_reading o.site c.own head read)
  advert_reading (Ok sent) = advert_message sent
  advert_reading (Err e) = no_fault e

module _ (o : Opening) (c : Call) where
  settled_advert : (heading : Option Heading) (it : Outcome) → heading_of c.bytes ≡ heading → sense_under o.site c.own heading (reading c.bytes) ≡ Settled it → code_sent it ≡ Some OK → IsAdvert o c it.reply
  settled_advert None it headed is sent = absurd (none-some OK (sym (subst (λ (x : Sense). IsSilent x) is refl) ∙ sent))
  settled_advert (Some head) it headed is sent = (head, headed, subst (IsAdvertIn o c head) is (advert_reading o c head (reading c.bytes)) sent)

-- ---- replies

module _ (o : Opening) (h : History) (c : Call) where
  answered_wholly : (sense : Sense) (r : Outcome) (change : Option Event) → sense_of o.site c ≡ sense → IsAnswerTo o h c sense r change → code_sent r ≡ Some OK → is_overflowed r.reply ≡ false → HoldsExactly o h c sense r.reply
  answered_wholly (Settled it) r change same is sent flag =
      subst (λ (x : Outcome). IsAdvert o c x.reply) (sym is.0) (settled_advert o c (heading_of c.bytes) it refl same (subst (λ (x : Outcome). code_sent x ≡ Some OK) is.0 sent))
  answered_wholly (Changes head m) r change same is sent flag = tt
  answered_wholly (Lists head q) r change same is sent flag = elim is.0 [
    | inl none ↦ absurd (no_language head (Some q.kind) r none.1 sent)
    | inr some ↦ (some.1.items, some.1.are, whole_reply (services_with head) (λ items count. refl) c.limit head (by_step decider.Nobody (Some q.kind)) some.1.items r some.1.reply sent flag)
  ]
  answered_wholly (Describes head q) r change same is sent flag = elim is.0 [
    | inl none ↦ absurd (no_language head (kind_asked q.target) r none.1 sent)
    | inr some ↦ (some.1.attributes, some.1.are, whole_reply (attributes_with head) (λ items count. refl) c.limit head (by_step decider.Nobody (kind_asked q.target)) (attribute_texts some.1.attributes) r some.1.reply sent flag)
  ]
  answered_wholly (Names head q) r change same is sent flag =
      let some = is.0 in
      (some.types, some.are, whole_reply (types_with head) (λ items count. refl) c.limit head (by_step decider.Nobody None) some.types r some.reply sent flag)

  pub holds_exactly : (r : Outcome) (change : Option Event) → IsAnswer o h c r change → code_sent r ≡ Some OK → is_overflowed r.reply ≡ false → HoldsExactly o h c (sense_of o.site c) r.reply
  unfolding IsAnswer
  holds_exactly r change is sent flag = answered_wholly (sense_of o.site c) r change refl is sent flag
