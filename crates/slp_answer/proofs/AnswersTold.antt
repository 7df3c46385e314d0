-- What is told of bytes, by what they are read as.
use Rattle.std.proofs.Common.{◌≡◌, ℕ, Bool, true, false, cond, List, [], ◌∷◌, length, Option, Some, None, Result, Ok, Err, refl, sym, ap, ap₂, subst, ◌∙◌, inl, inr}
use Rattle.std.specs.Prelude.{◌==◌, ◌&&◌, ◌+◌, ◌↔◌, ◌⊎◌, ◌≢◌, not, IfOk, IfSome, IsErrOf, OnOk}
use Rattle.std.specs.List.{list_any}
use Rattle.std.proofs.lemmas.Result.{IfOk-weaker}
use Rattle.slp_text.specs.declared.faults.NoMemory.{NoMemory}
use Rattle.slp_headers.specs.Headers.{Heading, heading_in, heading_of}
use Rattle.slp_messages.specs.declared.message.Message.{Message}
use Rattle.slp_messages.specs.declared.message.Message.TheVariants as message
use Rattle.slp_fields.specs.declared.fault.WireFault.{WireFault}
use Rattle.slp_wire.specs.Reading.{reading}
use Rattle.slp_wire.proofs.Functions.{message_function}
use Rattle.slp_wire.specs.Spelling.{plain_bytes}
use Rattle.slp_messages.specs.declared.message.UrlEntry.{UrlEntry}
use Rattle.access_rules.specs.Deciding.{SiteRules}
use Rattle.directory_judge.specs.History.{History, Event, now}
use Rattle.directory_judge.specs.Judgements.{Judgement, IsChange, by_step, change_of, code_by, supports, finding_in}
use Rattle.directory_judge.specs.declared.reason.Decider.TheVariants as decider
use Rattle.directory_judge.specs.Meaning.{rules}
use Rattle.directory_judge.specs.Sites.{Site}
use Rattle.slp_messages.specs.Messages.{IsMessage, function_of}
use Rattle.directory_judge.specs.declared.reason.Because.{Because}
use Rattle.directory_judge.specs.declared.change.Change.{Change}
use Rattle.directory_judge.specs.declared.copies.Judged.{Judged}
use Rattle.directory_judge.specs.declared.copies.Judged.TheVariants as judged
use Rattle.directory_questions.specs.Answers.{Sense, Settled, Lists, Describes, Names, IsCutReply, IsListed, advert_code, advert_outcome, agents_outcome, is_agent_for, language_outcome, question_of, sense_of_reading, sense_under, sense_within, sense_of_message, sense_of_question, IsAnswerTo, IsAnswer}
use Rattle.directory_questions.specs.Calls.{Opening, Call, call_in, standpoint, standpoint_of}
use Rattle.directory_questions.specs.Cuts.{attributes_with, types_with}
use Rattle.directory_questions.specs.Outcomes.{Outcome, silence, outcome, sent_of, code_outcome, code_outcome_as, decider_of_fault, denial_outcome, fault_outcome, acknowledgement_of}
use Rattle.attr_list.specs.Lists.{Attributes}
use Rattle.std.specs.Option.{option_map_or}
use Rattle.slp_headers.specs.Headers.{reply_function_of}
use Rattle.directory_questions.specs.Items.{attribute_texts, kind_asked, AreAttributesOf, AreServices, AreTypesOf, IsAskedAbout, IsElsewhere, IsForeign, IsOpenNow}
use Rattle.directory_questions.specs.declared.query.QueryFault.{QueryFault}
use Rattle.directory_questions.specs.declared.query.QueryFault.TheVariants as query_fault
use Rattle.directory_questions.specs.declared.query.AgentQuery.{AgentQuery}
use Rattle.directory_questions.specs.declared.query.AttrQuery.{AttrQuery}
use Rattle.directory_questions.specs.declared.query.ServiceQuery.{ServiceQuery}
use Rattle.directory_questions.specs.declared.query.TypeQuery.{TypeQuery}
use Rattle.directory_questions.specs.declared.question.Question.{Question}
use Rattle.directory_questions.specs.declared.question.Question.TheVariants as question
use Rattle.directory_questions.specs.Readings.{may_change, IsAsked}
use Rattle.directory_questions.specs.Requests.{is_change_function, IsUnanswered, IsUnheard}
use Rattle.directory_questions.specs.Verdicts.{IsLegal, IsVerdict, change_in, history_with}
use Rattle.directory_judge.specs.Contents.{content}
use Rattle.directory_questions.proofs.Requests.{unanswered_reply, unanswered_still}
use Rattle.directory_state.specs.Fronts.{IsFront}
use Rattle.directory_state.specs.Folds.{Fold, StandsFor, IsJudgedAs, HandsOut}
use Rattle.directory_state.specs.State.{State}
use Rattle.directory_state.specs.declared.search.Room.{Room}
use Rattle.directory_state.proofs.Histories.{legal_next}
use Rattle.slp_answer.specs.ServiceReplies.{service_reply}
use Rattle.slp_answer.specs.Answers.{Replies, Acknowledges, IsQuestionAnswered, Steps}
use Rattle.slp_replies.specs.Tellings.{Tells, TellsOf, outcome_of_finding, query_fault_outcome}
use Rattle.slp_answer.proofs.Sizes.{front-cut, front-empty}
use Rattle.slp_replies.specs.declared.answer.Answer.{Answer}
use Rattle.slp_replies.specs.declared.answer.Sent.{Sent}
use Rattle.slp_replies.specs.declared.replies.Reply.{Reply}
use Rattle.slp_replies.specs.declared.answer.Sent.TheVariants as sent

pub silence-tells : (rs : SiteRules) (asker : ℕ) (heading : Option Heading) (reply line : List ℕ) → reply ≡ [] → line ≡ [] → Tells rs asker heading silence sent.Silence reply line
silence-tells rs asker None reply line r l = record { replied = r; lined = l; sent = refl }
silence-tells rs asker (Some h) reply line r l = record { replied = r; lined = l; sent = refl }

pub may-change : (m : Message) → may_change m ≡ true → IsChange m
may-change (message.Registration h r) is = tt
may-change (message.ServiceRequest h q) is = absurd cc
may-change (message.ServiceReply h r) is = absurd cc
may-change (message.Acknowledgement h code) is = absurd cc
may-change (message.Withdrawal h w) is = tt
may-change (message.AttributeRequest h q) is = absurd cc
may-change (message.AttributeReply h r) is = absurd cc
may-change (message.DirectoryAdvert h a) is = absurd cc
may-change (message.TypeRequest h q) is = absurd cc
may-change (message.TypeReply h r) is = absurd cc
may-change (message.ServiceAdvert h a) is = absurd cc

-- with the rules of the history
pub ruled-tells : (rs other : SiteRules) (asker : ℕ) (heading head : Option Heading) (r : Outcome) (what : Sent) (reply line : List ℕ) → rs ≡ other → heading ≡ head → Tells rs asker heading r what reply line → Tells other asker head r what reply line
ruled-tells rs other asker heading head r what reply line ruled same t =
    subst (λ (x : SiteRules). Tells x asker head r what reply line) ruled (subst (λ (x : Option Heading). Tells rs asker x r what reply line) same t)

module _ (o : Opening) (h : History) (c : Call) where
  -- what comes of bytes is what comes of what they are read as
  pub headed-answer : (heading : Option Heading) (read : Result Message WireFault) (r : Outcome) (change : Option Event) → heading_of c.bytes ≡ heading → reading c.bytes ≡ read
      → IsAnswerTo o h c (sense_under o.site c.own heading read) r change → IsAnswer o h c r change
  unfolding IsAnswer
  headed-answer heading read r change head is answer =
      subst (λ (s : Sense). IsAnswerTo o h c s r change) (sym (ap₂ (sense_under o.site c.own) head is)) answer

  -- nothing is told where no header is readable
  unheaded-answer : heading_of c.bytes ≡ None → IsAnswer o h c silence None
  unheaded-answer none = headed-answer None (reading c.bytes) silence None none refl (refl, refl)

  pub fault-answer : (head : Heading) (e : WireFault) → heading_of c.bytes ≡ Some head → reading c.bytes ≡ Err e → IsAnswer o h c (fault_outcome head e) None
  fault-answer head e is read = headed-answer (Some head) (Err e) (fault_outcome head e) None is read (refl, refl)

  pub change-answer : (head : Heading) (x : Message) (v : Judgement) → IsChange x → IsVerdict (standpoint_of o h c) x v → IsAnswerTo o h c (sense_of_message o.site c.own head x) (acknowledgement_of head v) (change_in v)
  change-answer head (message.Registration header r) v is verdict = (v, verdict, refl, refl)
  change-answer head (message.ServiceRequest header q) v is verdict = absurd is
  change-answer head (message.ServiceReply header r) v is verdict = absurd is
  change-answer head (message.Acknowledgement header code) v is verdict = absurd is
  change-answer head (message.Withdrawal header w) v is verdict = (v, verdict, refl, refl)
  change-answer head (message.AttributeRequest header q) v is verdict = absurd is
  change-answer head (message.AttributeReply header r) v is verdict = absurd is
  change-answer head (message.DirectoryAdvert header a) v is verdict = absurd is
  change-answer head (message.TypeRequest header q) v is verdict = absurd is
  change-answer head (message.TypeReply header r) v is verdict = absurd is
  change-answer head (message.ServiceAdvert header a) v is verdict = absurd is

-- ---- questions

-- what comes of a message that asks for no change is what comes of its question
still-question : (site : Site) (own : ℕ) (head : Heading) (m : Message) → may_change m ≡ false → sense_of_message site own head m ≡ sense_of_question site own head (question_of own m)
still-question site own head (message.Registration h r) still = absurd cc
still-question site own head (message.Withdrawal h w) still = absurd cc
still-question site own head (message.ServiceRequest h q) still = refl
still-question site own head (message.ServiceReply h r) still = refl
still-question site own head (message.Acknowledgement h code) still = refl
still-question site own head (message.AttributeRequest h q) still = refl
still-question site own head (message.AttributeReply h r) still = refl
still-question site own head (message.DirectoryAdvert h a) still = refl
still-question site own head (message.TypeRequest h q) still = refl
still-question site own head (message.TypeReply h r) still = refl
still-question site own head (message.ServiceAdvert h a) still = refl

module _ (o : Opening) (h : History) (c : Call) (head : Heading) where
  -- what is asked where a scope is supported, and where none is
  within-answer : (scopes : List (List ℕ)) (kind : Option (List ℕ)) (sense : Sense) (r : Outcome) → list_any (supports o.site) scopes ≡ true
      → IsAnswerTo o h c sense r None → IsAnswerTo o h c (sense_within o.site head scopes kind sense) r None
  within-answer scopes kind sense r supported answer =
      subst (λ b. IsAnswerTo o h c (cond b sense (Settled (code_outcome head 4 (by_step decider.Scope kind)))) r None) (sym supported) answer

  unsupported-answer : (scopes : List (List ℕ)) (kind : Option (List ℕ)) (sense : Sense) → list_any (supports o.site) scopes ≡ false
      → IsAnswerTo o h c (sense_within o.site head scopes kind sense) (code_outcome head 4 (by_step decider.Scope kind)) None
  unsupported-answer scopes kind sense none =
      let it = code_outcome head 4 (by_step decider.Scope kind) in
      subst (λ b. IsAnswerTo o h c (cond b sense (Settled it)) it None) (sym none) (refl, refl)

  listing-answer : (query : ServiceQuery) (r : Outcome) → list_any (supports o.site) query.scopes ≡ true
      → IsListed (IsOpenNow (standpoint_of o h c) query.scopes) (now h c.moment) c.limit head query r → IsAnswerTo o h c (sense_of_question o.site c.own head (question.Services query)) r None
  listing-answer query r supported listed = within-answer query.scopes (Some query.kind) (Lists head query) r supported (listed, refl)

  pub listed-answer : (rs : SiteRules) (query : ServiceQuery) (all items : List UrlEntry) (is_cut : Bool) (room : Room) (what : Sent) (reply line : List ℕ) → room.bytes + 18 + length head.language ≡ c.limit → room.each ≡ 6
      → list_any (supports o.site) query.scopes ≡ true → ¬ IsForeign (IsOpenNow (standpoint_of o h c) query.scopes) query → AreServices (standpoint_of o h c) query all → IsFront room all items is_cut
      → Tells rs c.asker (Some head) (outcome (sent_of head 0 (length items == 0 && not is_cut) (plain_bytes (service_reply head is_cut items))) 0 (by_step decider.Nobody (Some query.kind))) what reply line
      → (r : Outcome) × IsAnswerTo o h c (sense_of_question o.site c.own head (question.Services query)) r None × Tells rs c.asker (Some head) r what reply line
  listed-answer rs query all items is_cut room what reply line whole six supported spoken are front tells =
      let sending = plain_bytes (service_reply head is_cut items) in
      let told : Bool → Outcome = λ b. outcome (sent_of head 0 b sending) 0 (by_step decider.Nobody (Some query.kind)) in (
        told (length items == 0 && not is_cut),
        listing-answer query (told (length items == 0 && not is_cut)) supported (inr (
          spoken,
          record {
            items = all;
            are = are;
            reply = record {
              whole = sending;
              cut = front-cut head room all items is_cut c.limit whole six front;
              sent = ap told (front-empty head room all items is_cut c.limit whole six front);
            };
          },
        )),
        tells,
      )

  -- nothing is in the language that is asked for
  foreign-answer : (query : ServiceQuery) → list_any (supports o.site) query.scopes ≡ true → IsForeign (IsOpenNow (standpoint_of o h c) query.scopes) query
      → IsAnswerTo o h c (sense_of_question o.site c.own head (question.Services query)) (language_outcome head (Some query.kind)) None
  foreign-answer query supported foreign = listing-answer query (language_outcome head (Some query.kind)) supported (inl (foreign, refl))

  pub described-answer : (query : AttrQuery) (a : Attributes) (r : Outcome) → list_any (supports o.site) query.scopes ≡ true
      → (IsElsewhere (IsAskedAbout (IsOpenNow (standpoint_of o h c) query.scopes) query) query.language → ⊥) → AreAttributesOf (standpoint_of o h c) query a
      → IsCutReply (attributes_with head) c.limit head (by_step decider.Nobody (kind_asked query.target)) (attribute_texts a) r
      → IsAnswerTo o h c (sense_of_question o.site c.own head (question.Attributes query)) r None
  described-answer query a r supported spoken are cut =
      within-answer query.scopes (kind_asked query.target) (Describes head query) r supported (inr (spoken, record { attributes = a; are = are; reply = cut }), refl)

  elsewhere-answer : (query : AttrQuery) → list_any (supports o.site) query.scopes ≡ true
      → IsElsewhere (IsAskedAbout (IsOpenNow (standpoint_of o h c) query.scopes) query) query.language
      → IsAnswerTo o h c (sense_of_question o.site c.own head (question.Attributes query)) (language_outcome head (kind_asked query.target)) None
  elsewhere-answer query supported elsewhere =
      within-answer query.scopes (kind_asked query.target) (Describes head query) (language_outcome head (kind_asked query.target)) supported (inl (elsewhere, refl), refl)

  pub named-answer : (query : TypeQuery) (types : List (List ℕ)) (r : Outcome) → list_any (supports o.site) query.scopes ≡ true → AreTypesOf (standpoint_of o h c) query types
      → IsCutReply (types_with head) c.limit head (by_step decider.Nobody None) types r
      → IsAnswerTo o h c (sense_of_question o.site c.own head (question.Types query)) r None
  named-answer query types r supported are cut =
      within-answer query.scopes None (Names head query) r supported (record { types = types; are = are; reply = cut }, refl)

  -- the advert of the site, or the code that stands for it
  pub agents-answer : (query : AgentQuery) (scopes : List (List ℕ)) (b : Bool) → query.scopes ≡ Some scopes → is_agent_for o.site scopes ≡ b
      → IsAnswerTo o h c (sense_of_question o.site c.own head (question.Agents query)) (cond b (advert_outcome o.site c.own head query.kind) (advert_code head 4 (by_step decider.Scope (Some query.kind)))) None
  agents-answer query scopes b named is =
      (sym (ap (agents_outcome o.site c.own head query.kind) named ∙ ap (λ x. cond x (advert_outcome o.site c.own head query.kind) (advert_code head 4 (by_step decider.Scope (Some query.kind)))) is), refl)

-- no scope is named, or some is supported
pub agent-for : (site : Site) (scopes : List (List ℕ)) → (scopes ≡ []) ⊎ (list_any (supports site) scopes ≡ true) → is_agent_for site scopes ≡ true
agent-for site [] h = refl
agent-for site (s ∷ scopes) h = elim h [ inl none ↦ absurd cc | inr some ↦ some ]

-- ---- changes

module _ (o : Opening) (h : History) (m asker : ℕ) (head : Heading) (x : Message) (rs : SiteRules) (what : Sent) (reply line : List ℕ) where
  -- what was judged, and told of it
  abbrev pub IsTold : Option Change → Type 0
  IsTold change = (v : Judgement) × IsVerdict (standpoint o h m asker) x v × Tells rs asker (Some head) (acknowledgement_of head v) what reply line × HandsOut o h change (change_in v)

  -- what is told of what was judged is what is told of the verdict
  same-told : (j : Judged) (v : Judgement) → IsJudgedAs h j v → acknowledgement_of head v ≡ outcome_of_finding head (finding_in j)
  same-told (judged.Accept change because) v is = ap (acknowledgement_of head) is.1
  same-told judged.Nothing v is = ap (acknowledgement_of head) is
  same-told (judged.Deny code because) v is = ap (acknowledgement_of head) is

  hands-out : (j : Judged) (v : Judgement) → IsMessage x → IsLegal o h → IsVerdict (standpoint o h m asker) x v → IsJudgedAs h j v → HandsOut o h (change_of j) (change_in v)
  hands-out (judged.Accept change because) v sound legal verdict is =
      (is.0, ap change_in is.1, is.2, subst (λ (u : Judgement). IsLegal o (history_with (change_in u) h)) is.1 (legal_next o h m asker x v legal sound verdict))
  hands-out judged.Nothing v sound legal verdict is = ap change_in is
  hands-out (judged.Deny code because) v sound legal verdict is = ap change_in is

  -- it is told by its code and who decided on what, and its change is handed out
  pub judged-told : (j : Judged) (found : ℕ × Because) (change : Option Change) → IsMessage x → IsLegal o h → (v : Judgement) × IsVerdict (standpoint o h m asker) x v × IsJudgedAs h j v
      → found ≡ finding_in j → change ≡ change_of j → Tells rs asker (Some head) (outcome_of_finding head found) what reply line → IsTold change
  judged-told j found change sound legal verdict finds makes tells = (
    verdict.0,
    verdict.1,
    subst (λ (r : Outcome). Tells rs asker (Some head) r what reply line) (ap (outcome_of_finding head) finds ∙ sym (same-told j verdict.0 verdict.2)) tells,
    subst (λ (c : Option Change). HandsOut o h c (change_in verdict.0)) (sym makes) (hands-out j verdict.0 sound legal verdict.1 verdict.2),
  )

  pub told-acknowledges : (bytes : List ℕ) (change : Option Change) → rs ≡ rules o.rules h → heading_of bytes ≡ Some head → reading bytes ≡ Ok x → IsChange x → IsTold change
      → Acknowledges o h m asker bytes what change reply line
  told-acknowledges bytes change ruled is read asks told = record {
    outcome = acknowledgement_of head told.0;
    event = change_in told.0;
    is = λ own limit.
        let c : Call = record { own = own; moment = m; asker = asker; bytes = bytes; limit = limit } in
        headed-answer o h c (Some head) (Ok x) (acknowledgement_of head told.0) (change_in told.0) is read (change-answer o h c head x told.0 asks told.1);
    told = ruled-tells rs (rules o.rules h) asker (Some head) (heading_of bytes) (acknowledgement_of head told.0) what reply line ruled (sym is) told.2;
    handed = told.3;
  }

pub fault-acknowledges : (o : Opening) (h : History) (m asker : ℕ) (bytes : List ℕ) (head : Heading) (e : WireFault) (rs : SiteRules) (what : Sent) (reply line : List ℕ) → rs ≡ rules o.rules h → heading_of bytes ≡ Some head → reading bytes ≡ Err e
    → Tells rs asker (Some head) (fault_outcome head e) what reply line → Acknowledges o h m asker bytes what None reply line
fault-acknowledges o h m asker bytes head e rs what reply line ruled is read tells = record {
  outcome = fault_outcome head e;
  event = None;
  is = λ own limit. fault-answer o h (record { own = own; moment = m; asker = asker; bytes = bytes; limit = limit }) head e is read;
  told = ruled-tells rs (rules o.rules h) asker (Some head) (heading_of bytes) (fault_outcome head e) what reply line ruled (sym is) tells;
  handed = refl;
}

-- ---- replies

module _ (o : Opening) (h : History) (c : Call) (what : Sent) (reply line : List ℕ) where
  pub answered-replies : (head : Heading) (x : Message) (rs : SiteRules) → rs ≡ rules o.rules h → heading_of c.bytes ≡ Some head → reading c.bytes ≡ Ok x
      → (r : Outcome) × IsAnswerTo o h c (sense_of_message o.site c.own head x) r None × Tells rs c.asker (Some head) r what reply line → Replies o h c what reply line
  answered-replies head x rs ruled is read told = record {
    outcome = told.0;
    is = headed-answer o h c (Some head) (Ok x) told.0 None is read told.1;
    told = ruled-tells rs (rules o.rules h) c.asker (Some head) (heading_of c.bytes) told.0 what reply line ruled (sym is) told.2;
  }

  pub fault-replies : (head : Heading) (e : WireFault) (rs : SiteRules) → rs ≡ rules o.rules h → heading_of c.bytes ≡ Some head → reading c.bytes ≡ Err e → Tells rs c.asker (Some head) (fault_outcome head e) what reply line → Replies o h c what reply line
  fault-replies head e rs ruled is read tells = record {
    outcome = fault_outcome head e;
    is = fault-answer o h c head e is read;
    told = ruled-tells rs (rules o.rules h) c.asker (Some head) (heading_of c.bytes) (fault_outcome head e) what reply line ruled (sym is) tells;
  }

-- a message that asks for no change is answered as its question is
pub asked-replies : (o : Opening) (h : History) (c : Call) (what : Sent) (reply line : List ℕ) (head : Heading) (q : Question) (rs : SiteRules) → rs ≡ rules o.rules h → heading_of c.bytes ≡ Some head → IsAsked c.own c.bytes q
    → (r : Outcome) × IsAnswerTo o h c (sense_of_question o.site c.own head q) r None × Tells rs c.asker (Some head) r what reply line → Replies o h c what reply line
asked-replies o h c what reply line head q rs ruled is asked told =
    answered-replies o h c what reply line head asked.sent rs ruled is asked.read (
      told.0,
      subst (λ (s : Sense). IsAnswerTo o h c s told.0 None) (sym (still-question o.site c.own head asked.sent asked.still ∙ ap (sense_of_question o.site c.own head) (sym asked.asks))) told.1,
      told.2,
    )

-- ---- functions that nothing is answered to

-- a message of a function that is neither a question nor a change
quiet-message : (site : Site) (own : ℕ) (head : Heading) (m : Message) → (function_of m ≡ 1 → ⊥) → (function_of m ≡ 6 → ⊥) → (function_of m ≡ 9 → ⊥) → may_change m ≡ false → sense_of_message site own head m ≡ Settled silence
quiet-message site own head (message.ServiceRequest h q) a b c still = absurd (a refl)
quiet-message site own head (message.AttributeRequest h q) a b c still = absurd (b refl)
quiet-message site own head (message.TypeRequest h q) a b c still = absurd (c refl)
quiet-message site own head (message.Registration h r) a b c still = absurd cc
quiet-message site own head (message.Withdrawal h w) a b c still = absurd cc
quiet-message site own head (message.ServiceReply h r) a b c still = refl
quiet-message site own head (message.Acknowledgement h code) a b c still = refl
quiet-message site own head (message.AttributeReply h r) a b c still = refl
quiet-message site own head (message.DirectoryAdvert h x) a b c still = refl
quiet-message site own head (message.TypeReply h r) a b c still = refl
quiet-message site own head (message.ServiceAdvert h x) a b c still = refl

-- a fault of a function to which no reply is known
quiet-fault : (head : Heading) (e : WireFault) → reply_function_of head.function ≡ None → fault_outcome head e ≡ silence
quiet-fault head e none = elim (decider_of_fault e) as (λ d. option_map_or (denial_outcome head) d silence ≡ silence) [
  | None ↦ refl
  | Some d ↦ ap (λ f. option_map_or (code_outcome_as head (code_by d) (by_step d None)) f silence) none
]

quiet-answer : (o : Opening) (h : History) (c : Call) (head : Heading) → heading_of c.bytes ≡ Some head → IsUnanswered head.function → IsAnswer o h c silence None
quiet-answer o h c head is other =
    let sense : (read : Result Message WireFault) → reading c.bytes ≡ read → sense_of_reading o.site c.own head read ≡ Settled silence =
    λ read. elim read as (λ x. reading c.bytes ≡ x → sense_of_reading o.site c.own head x ≡ Settled silence) [
      | Ok m ↦ λ same.
          let f : head.function ≡ function_of m = sym (message_function c.bytes head m is same) in
          quiet-message o.site c.own head m (λ e. other.0 (f ∙ e)) (λ e. other.1.1.1.0 (f ∙ e)) (λ e. other.1.1.1.1 (f ∙ e)) (ap is_change_function (sym f) ∙ unanswered_still head.function other)
      | Err e ↦ λ _. ap Settled (quiet-fault head e (unanswered_reply head.function other))
    ] in
    headed-answer o h c (Some head) (reading c.bytes) silence None is refl (subst (λ (s : Sense). IsAnswerTo o h c s silence None) (sym (sense (reading c.bytes) refl)) (refl, refl))

-- ---- what is heard, and what is not

-- nothing is answered to what is unheard
pub unheard-answer : (o : Opening) (h : History) (c : Call) → IsUnheard c.bytes → IsAnswer o h c silence None
unheard-answer o h c unheard =
    elim (heading_of c.bytes) as (λ x. heading_of c.bytes ≡ x → IfSome x (λ head. IsUnanswered head.function) → IsAnswer o h c silence None) [
      | None ↦ λ is _. unheaded-answer o h c is
      | Some head ↦ λ is no. quiet-answer o h c head is no
    ] refl unheard

module _ (o : Opening) (h : History) (c : Call) (reply line : List ℕ) where
  pub unheard-replies : IsUnheard c.bytes → reply ≡ [] → line ≡ [] → Replies o h c sent.Silence reply line
  unheard-replies unheard r l = record {
    outcome = silence;
    is = unheard-answer o h c unheard;
    told = silence-tells (rules o.rules h) c.asker (heading_of c.bytes) reply line r l;
  }

  module _ (what : Sent) (after : State) where
    -- a question changes nothing
    pub replied-steps : Replies o h c what reply line → IsLegal o h → Fold o h after → Steps o h c what reply line after
    replied-steps a legal fold = record {
      outcome = a.outcome;
      event = None;
      is = a.is;
      told = a.told;
      legal = legal;
      fold = fold;
    }

    -- the change that is handed out is made
    pub changed-steps : (change : Change) → Acknowledges o h c.moment c.asker c.bytes what (Some change) reply line
        → ((event : Event) → IsLegal o (event ∷ h) → StandsFor h (content change) event → Fold o (event ∷ h) after) → Steps o h c what reply line after
    changed-steps change a folds =
        let out = a.handed in record {
          outcome = a.outcome;
          event = a.event;
          is = a.is c.own c.limit;
          told = a.told;
          legal = subst (λ (x : Option Event). IsLegal o (history_with x h)) (sym out.1) out.3;
          fold = subst (λ (x : Option Event). Fold o (history_with x h) after) (sym out.1) (folds out.0 out.3 out.2);
        }

    -- and none is made where none is
    pub still-steps : Acknowledges o h c.moment c.asker c.bytes what None reply line → IsLegal o h → Fold o h after → Steps o h c what reply line after
    still-steps a legal fold = record {
      outcome = a.outcome;
      event = a.event;
      is = a.is c.own c.limit;
      told = a.told;
      legal = subst (λ (x : Option Event). IsLegal o (history_with x h)) (sym a.handed) legal;
      fold = subst (λ (x : Option Event). Fold o (history_with x h) after) (sym a.handed) fold;
    }

not-false : (b : Bool) → (b ≡ false → ⊥) → b ≡ true
not-false true h = refl
not-false false h = absurd (h refl)

ok_err : {A E : Type 0} (x : A) (e : E) → ◌≡◌ {A = Result A E} (Ok x) (Err e) → ⊥
ok_err x e h = cc

-- what was found is not refused
pub found-supported : {A E : Type 0} (x : A) (e : E) (b : Bool) → IsErrOf (Ok x) e ↔ (b ≡ false) → b ≡ true
found-supported x e b h = not-false b (λ f. ok_err x e (h.1 f))

other_fault : {A : Type 0} → ◌≡◌ {A = Result A QueryFault} (Err query_fault.Language) (Err query_fault.Scope) → ⊥
other_fault h = cc

-- what was told into an answer that is whole holds of it
pub whole-told : {A : Type 0} (told r : Result A NoMemory) (x : A) (P : A → Answer → Type 0) (a b : Answer) → IfOk told (λ y. P y a) → r ≡ told → r ≡ Ok x → OnOk r (b ≡ a) → P x b
whole-told {A = A} told r x P a b holds is was same =
    subst (P x) (sym (subst (λ (q : Result A NoMemory). OnOk q (b ≡ a)) was same)) (subst (λ (q : Result A NoMemory). IfOk q (λ y. P y a)) (sym is ∙ was) holds)

-- ---- questions that are refused

-- what is refused for its language is not refused for its scopes
language_alone : {A : Type 0} (b : Bool) → IsErrOf {T = A} (Err query_fault.Language) query_fault.Scope ↔ (b ≡ false) → b ≡ true
language_alone b scope = not-false b (λ f. other_fault (scope.1 f))

module _ (o : Opening) (site : Site) (placed : site ≡ o.site) (scopes : List (List ℕ)) where
  -- a scope is supported, or none
  none_here : list_any (supports site) scopes ≡ false → list_any (supports o.site) scopes ≡ false
  none_here none = subst (λ (s : Site). list_any (supports s) scopes ≡ false) placed none

  some_here : list_any (supports site) scopes ≡ true → list_any (supports o.site) scopes ≡ true
  some_here some = subst (λ (s : Site). list_any (supports s) scopes ≡ true) placed some

module _ {A : Type 0} (o : Opening) (h : History) (c : Call) (head : Heading) (site : Site) (placed : site ≡ o.site) where
  pub refused-services : (query : ServiceQuery) (fault : QueryFault) → fault ≢ query_fault.NoMemory → IsErrOf {T = A} (Err fault) query_fault.Scope ↔ (list_any (supports site) query.scopes ≡ false)
      → (IsErrOf {T = A} (Err fault) query_fault.Language → IsForeign (IsOpenNow (standpoint_of o h c) query.scopes) query) → IsAnswerTo o h c (sense_of_question o.site c.own head (question.Services query)) (query_fault_outcome head (Some query.kind) fault) None
  refused-services query query_fault.Scope some scope foreign = unsupported-answer o h c head query.scopes (Some query.kind) (Lists head query) (none_here o site placed query.scopes (scope.0 refl))
  refused-services query query_fault.Language some scope foreign = foreign-answer o h c head query (some_here o site placed query.scopes (language_alone (list_any (supports site) query.scopes) scope)) (foreign refl)
  refused-services query query_fault.NoMemory some scope foreign = absurd (some refl)

  pub refused-attributes : (query : AttrQuery) (fault : QueryFault) → fault ≢ query_fault.NoMemory → IsErrOf {T = A} (Err fault) query_fault.Scope ↔ (list_any (supports site) query.scopes ≡ false)
      → (IsErrOf {T = A} (Err fault) query_fault.Language → IsElsewhere (IsAskedAbout (IsOpenNow (standpoint_of o h c) query.scopes) query) query.language)
      → IsAnswerTo o h c (sense_of_question o.site c.own head (question.Attributes query)) (query_fault_outcome head (kind_asked query.target) fault) None
  refused-attributes query query_fault.Scope some scope elsewhere = unsupported-answer o h c head query.scopes (kind_asked query.target) (Describes head query) (none_here o site placed query.scopes (scope.0 refl))
  refused-attributes query query_fault.Language some scope elsewhere = elsewhere-answer o h c head query (some_here o site placed query.scopes (language_alone (list_any (supports site) query.scopes) scope)) (elsewhere refl)
  refused-attributes query query_fault.NoMemory some scope elsewhere = absurd (some refl)

  pub refused-types : (query : TypeQuery) (fault : QueryFault) → fault ≢ query_fault.NoMemory → IsErrOf {T = A} (Err fault) query_fault.Scope ↔ (list_any (supports site) query.scopes ≡ false)
      → (IsErrOf {T = A} (Err fault) query_fault.Language → ⊥) → IsAnswerTo o h c (sense_of_question o.site c.own head (question.Types query)) (query_fault_outcome head None fault) None
  refused-types query query_fault.Scope some scope never = unsupported-answer o h c head query.scopes None (Names head query) (none_here o site placed query.scopes (scope.0 refl))
  refused-types query query_fault.Language some scope never = absurd (never refl)
  refused-types query query_fault.NoMemory some scope never = absurd (some refl)

-- what is told of a question that is refused is an answer to it
pub refusal-answered : {E : Type 0} (o : Opening) (h : History) (to : Reply) (posed : Question) (kind : Option (List ℕ)) (fault : QueryFault) (reply line : List ℕ) (r : Result Sent E)
    → (fault ≢ query_fault.NoMemory → IsAnswerTo o h (call_in to.heard.now.call.now) (sense_of_question o.site to.heard.now.call.now.own (heading_in to.heard.now.header) posed) (query_fault_outcome (heading_in to.heard.now.header) kind fault) None)
    → IfOk r (λ what. (fault ≢ query_fault.NoMemory) × TellsOf to (query_fault_outcome (heading_in to.heard.now.header) kind fault) what reply line)
    → IfOk r (λ what. IsQuestionAnswered o h to posed what reply line)
refusal-answered o h to posed kind fault reply line r answers told = IfOk-weaker r _ _ (λ what t. (query_fault_outcome (heading_in to.heard.now.header) kind fault, answers t.0, t.1)) told
