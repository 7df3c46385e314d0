-- The event that bytes bring about is the one that is computed from the state.
use Rattle.std.proofs.Common.{◌≡◌, ℕ, max, true, false, cond, List, Option, Some, None, Result, Ok, Err, refl, sym, ap, ◌∙◌}
use Rattle.std.specs.List.{list_any}
use Rattle.slp_headers.specs.Headers.{Heading, heading_of}
use Rattle.slp_messages.specs.declared.message.Message.{Message}
use Rattle.slp_messages.specs.declared.message.Message.TheVariants as message
use Rattle.slp_fields.specs.declared.fault.WireFault.{WireFault}
use Rattle.slp_wire.specs.Reading.{reading}
use Rattle.access_rules.specs.Deciding.{SiteRules}
use Rattle.registry_core.specs.Entries.{Entries, outlives, passing_entries}
use Rattle.directory_judge.specs.History.{Event, History, now}
use Rattle.directory_judge.specs.Judgements.{Grounds, by_step, judgement, supports}
use Rattle.directory_judge.specs.declared.reason.Decider.TheVariants as decider
use Rattle.directory_judge.specs.Meaning.{rules}
use Rattle.directory_judge.specs.Sites.{Site}
use Rattle.directory_questions.specs.Answers.{IsAnswer, IsAnswerTo, Sense, Settled, Lists, Describes, Names, Changes, question_of, sense_of, sense_of_message, sense_of_question, sense_under, sense_within}
use Rattle.directory_questions.specs.Calls.{Opening, Call, standpoint_of}
use Rattle.directory_questions.specs.Items.{kind_asked}
use Rattle.directory_questions.specs.Outcomes.{Outcome, code_outcome}
use Rattle.directory_questions.specs.declared.question.Question.{Question}
use Rattle.directory_questions.specs.declared.question.Question.TheVariants as question
use Rattle.directory_questions.specs.Verdicts.{change_in, grounds}
use Rattle.directory_state.specs.Events.{event_asked, event_of_sense, grounds_in}
use Rattle.directory_state.specs.Folds.{Fold}
use Rattle.directory_state.specs.State.{State}
use Rattle.directory_state.proofs.Folds.{AreLive-unique}
use Rattle.directory_state.proofs.Judgements.{AreLive-state}

same_grounds : (a b : SiteRules) (site other : Site) (live lives : Entries) (m n asker : ℕ) → a ≡ b → site ≡ other → live ≡ lives → m ≡ n
    → ◌≡◌ {A = Grounds} (record { rules = a; site = site; live = live; now = m; asker = asker }) (record { rules = b; site = other; live = lives; now = n; asker = asker })
same_grounds a b site other live lives m n asker e p l f = λ i. record { rules = e i; site = p i; live = l i; now = f i; asker = asker }

-- ---- a question brings none about, so that the own address does not matter

module _ (s : State) (m asker : ℕ) (site : Site) where
  within-none : (head : Heading) (scopes : List (List ℕ)) (kind : Option (List ℕ)) (sense : Sense) → event_of_sense s m asker sense ≡ None → event_of_sense s m asker (sense_within site head scopes kind sense) ≡ None
  within-none head scopes kind sense is =
      elim (list_any (supports site) scopes) as (λ b. event_of_sense s m asker (cond b sense (Settled (code_outcome head 4 (by_step decider.Scope kind)))) ≡ None) [ true ↦ is | false ↦ refl ]

  question-none : (own : ℕ) (head : Heading) (q : Question) → event_of_sense s m asker (sense_of_question site own head q) ≡ None
  question-none own head question.Silent = refl
  question-none own head question.Unreadable = refl
  question-none own head (question.Services q) = within-none head q.scopes (Some q.kind) (Lists head q) refl
  question-none own head (question.Attributes q) = within-none head q.scopes (kind_asked q.target) (Describes head q) refl
  question-none own head (question.Types q) = within-none head q.scopes None (Names head q) refl
  question-none own head (question.Agents q) = refl

  any-own-message : (a b : ℕ) (head : Heading) (sent : Message) → event_of_sense s m asker (sense_of_message site a head sent) ≡ event_of_sense s m asker (sense_of_message site b head sent)
  any-own-message a b head (message.Registration h r) = refl
  any-own-message a b head (message.Withdrawal h w) = refl
  any-own-message a b head (message.ServiceRequest h q) = question-none a head (question_of a (message.ServiceRequest h q)) ∙ sym (question-none b head (question_of b (message.ServiceRequest h q)))
  any-own-message a b head (message.AttributeRequest h q) = question-none a head (question_of a (message.AttributeRequest h q)) ∙ sym (question-none b head (question_of b (message.AttributeRequest h q)))
  any-own-message a b head (message.TypeRequest h q) = question-none a head (question_of a (message.TypeRequest h q)) ∙ sym (question-none b head (question_of b (message.TypeRequest h q)))
  any-own-message a b head (message.ServiceReply h r) = refl
  any-own-message a b head (message.Acknowledgement h code) = refl
  any-own-message a b head (message.AttributeReply h r) = refl
  any-own-message a b head (message.DirectoryAdvert h x) = refl
  any-own-message a b head (message.TypeReply h r) = refl
  any-own-message a b head (message.ServiceAdvert h x) = refl

  any-own : (a b : ℕ) (heading : Option Heading) (read : Result Message WireFault) → event_of_sense s m asker (sense_under site a heading read) ≡ event_of_sense s m asker (sense_under site b heading read)
  any-own a b None read = refl
  any-own a b (Some head) (Ok sent) = any-own-message a b head sent
  any-own a b (Some head) (Err e) = refl

-- ---- the event

module _ (o : Opening) (h : History) (s : State) (fold : Fold o h s) where
  event_by : (c : Call) (sense : Sense) (r : Outcome) (change : Option Event) → IsAnswerTo o h c sense r change → change ≡ event_of_sense s c.moment c.asker sense
  event_by c (Settled it) r change is = is.1
  event_by c (Lists head q) r change is = is.1
  event_by c (Describes head q) r change is = is.1
  event_by c (Names head q) r change is = is.1
  event_by c (Changes head sent) r change is =
      let verdict = is.1 in
      let live = AreLive-unique h c.moment verdict.live (passing_entries (outlives (max c.moment s.clock)) s.entries) verdict.are_live (AreLive-state o h c.moment s fold) in
      let same : grounds (standpoint_of o h c) verdict.live ≡ grounds_in s c.moment c.asker =
      same_grounds (rules o.rules h) s.rules o.site s.site verdict.live (passing_entries (outlives (max c.moment s.clock)) s.entries) (now h c.moment) (max c.moment s.clock) c.asker
      (sym fold.ruled) (sym fold.placed) live (ap (max c.moment) (sym fold.clocks)) in
      is.3 ∙ (ap change_in verdict.is ∙ ap (λ (g : Grounds). change_in (judgement g sent)) same)

  pub event_is_asked : (c : Call) (r : Outcome) (change : Option Event) → IsAnswer o h c r change → change ≡ event_asked s c.moment c.asker c.bytes
  unfolding IsAnswer event_asked
  event_is_asked c r change is =
      event_by c (sense_of o.site c) r change is ∙ ap (λ (p : Site). event_of_sense s c.moment c.asker (sense_of p c)) (sym fold.placed)
      ∙ any-own s c.moment c.asker s.site c.own 0 (heading_of c.bytes) (reading c.bytes)
