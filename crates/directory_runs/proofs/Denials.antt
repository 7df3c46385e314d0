-- Every denial carries its code, and its line names who decided.
use Rattle.std.proofs.Common.{◌≡◌, ◌≢◌, ℕ, Bool, true, false, cond, not, List, [], ◌∷◌, ◌++◌, codes, length, Option, Some, None, Result, Ok, Err, refl, sym, ap, subst, ◌∙◌, append_assoc, arith, inl, inr}
use Rattle.std.specs.Prelude.{◌==◌, ◌&&◌, ◌||◌, filter, find, is_none, is_some, nat_le, unwrap_or, if◌then◌else◌}
use Rattle.std.specs.Fmt.{decimal}
use Rattle.std.specs.FinMap as fin
use Rattle.std.specs.List.{list_any}
use Rattle.std.specs.Option.{option_map, option_map_or, option_or}
use Rattle.std.specs.Result.{result_ok}
use Rattle.std.proofs.lemmas.Bool.Decides.{nat_tests}
use Rattle.std.proofs.lemmas.Option.{none-some, same_Some}
use Rattle.slp_text.specs.Keys.{key_of}
use Rattle.slp_scopes.specs.Scopes.{scopes_of}
use Rattle.slp_text.specs.Sets.{common_keys}
use Rattle.slp_tags.specs.Tags.{Part, tags_of}
use Rattle.slp_text.specs.Words.{bytes_eq, texts_eq}
use Rattle.slp_headers.specs.Headers.{Heading, heading_of, refusal_bytes, reply_function_of}
use Rattle.slp_messages.specs.Messages.{function_of}
use Rattle.slp_messages.specs.declared.code.TheConstants.{OK}
use Rattle.slp_messages.specs.declared.function.TheConstants.{DIRECTORY_ADVERT, REGISTRATION, WITHDRAWAL}
use Rattle.slp_messages.specs.declared.header.Header.{Header}
use Rattle.slp_messages.specs.declared.message.Message.{Message}
use Rattle.slp_messages.specs.declared.message.Message.TheVariants as message
use Rattle.slp_messages.specs.declared.message.Registration.{Registration}
use Rattle.slp_fields.specs.declared.fault.WireFault.{WireFault}
use Rattle.slp_fields.specs.declared.fault.WireFault.TheVariants as fault
use Rattle.slp_wire.specs.Reading.{reading}
use Rattle.slp_wire.specs.Spelling.{plain_bytes}
use Rattle.slp_wire.proofs.Functions.{message_function}
use Rattle.service_url.specs.Types.{type_of}
use Rattle.service_url.specs.Urls.{url_of}
use Rattle.access_rules.specs.Deciding.{Deed, SiteRules, deciding, deed}
use Rattle.access_rules.specs.declared.rule.Action.{Action}
use Rattle.access_rules.specs.declared.rule.Action.TheVariants as action
use Rattle.attr_list.specs.Lists.{Attributes}
use Rattle.attr_list.specs.Maps.{attributes_without}
use Rattle.attr_list.specs.Reading.{attributes_in}
use Rattle.srv_template.specs.Conformity.{template_fault}
use Rattle.registry_core.specs.declared.entry.Entry.{Entry}
use Rattle.registry_core.specs.Entries.{Pair, is_of_url}
use Rattle.directory_judge.specs.History.{Event, History}
use Rattle.directory_judge.specs.Judgements.{Grounds, Judgement, Accepts, Ignores, Waits, Denies, act_of, allowance, by_rule, by_step, code_by, concerned_entries, decider_text, denial, denial_by, denial_in, denial_of_kept, denial_of_live, denial_of_new, denial_of_old, denial_of_room, denial_of_scopes, denial_of_template, denial_of_update, entries_in, first_of, is_denied, is_kept, judgement, judgement_in_scopes, judgement_of_entries, judgement_of_particulars, judgement_of_reading, judgement_of_tagged, judgement_of_tags, judgement_of_texts, judgement_of_url, pair_in, particulars, particulars_of_texts, release, removal_event, resulting_attributes, supports, withdrawal_event}
use Rattle.directory_judge.specs.Meaning.{rules}
use Rattle.directory_judge.specs.Sites.{Site}
use Rattle.directory_judge.specs.declared.particulars.Particulars.{Particulars}
use Rattle.directory_judge.specs.declared.reason.Because.{Because}
use Rattle.directory_judge.specs.declared.reason.Decider.{Decider}
use Rattle.directory_judge.specs.declared.reason.Decider.TheVariants as decider
use Rattle.directory_questions.specs.Answers.{Sense, Settled, Lists, Describes, Names, Changes, IsAnswer, IsAnswerTo, IsCutReply, advert_code, advert_of, advert_outcome, agents_outcome, is_agent_for, language_outcome, question_of, sense_of_message, sense_of_question, sense_of_reading, sense_under, sense_within}
use Rattle.directory_questions.specs.Calls.{Opening, Call, standpoint_of}
use Rattle.directory_questions.specs.Cuts.{attributes_with, services_with, types_with}
use Rattle.directory_questions.specs.Items.{attribute_texts, kind_asked}
use Rattle.directory_questions.specs.Outcomes.{Outcome, acknowledgement_of, code_outcome, code_outcome_as, denial_outcome, fault_outcome, outcome, sent_of, silence}
use Rattle.directory_questions.specs.Requests.{action_of}
use Rattle.directory_questions.specs.Verdicts.{grounds}
use Rattle.directory_questions.specs.declared.question.Question.{Question}
use Rattle.directory_questions.specs.declared.question.Question.TheVariants as question
use Rattle.slp_replies.specs.Tellings.{audit_in}
use Rattle.slp_replies.specs.Audits.{action_text, audit_text, line_text, rule_named, tail_text}
use Rattle.slp_replies.specs.declared.copies.Audit.{Audit}
use Rattle.directory_runs.specs.Promises.{DenialsAreKept, IsDenial, IsRuledOut, answering_function, asks_for_agents, is_for_agents}

-- ---- who denies

-- a rule that is named is one that decided, and so is the default
record IsAccounted (rs : SiteRules) (asker : ℕ) (did : Action) (because : Because) : Type 0 where
  by_rule : (index : ℕ) → because.decider ≡ decider.Rule index → IsRuledOut rs asker did because
  by_default : because.decider ≡ decider.Default → IsRuledOut rs asker did because

-- neither a rule nor the default
abbrev IsStep : Decider → Type 0
IsStep (decider.Rule index) = ⊥
IsStep decider.Default = ⊥
IsStep _ = Unit {0}

step_accounted : (rs : SiteRules) (asker : ℕ) (did : Action) (because : Because) → IsStep because.decider → IsAccounted rs asker did because
step_accounted rs asker did because step = record { by_rule = λ index is. absurd (subst IsStep is step); by_default = λ is. absurd (subst IsStep is step) }

-- ---- what is judged

module _ (rs : SiteRules) (asker : ℕ) (did : Action) where
  -- a denial has the code of who decided
  abbrev IsJust : Judgement → Type 0
  IsJust (Accepts event because) = Unit {0}
  IsJust Ignores = Unit {0}
  IsJust Waits = Unit {0}
  IsJust (Denies code because) = (code ≡ code_by because.decider) × IsAccounted rs asker did because

  abbrev AreJust : Option Judgement → Type 0
  AreJust None = Unit {0}
  AreJust (Some j) = IsJust j

  just-or : (a b : Option Judgement) → AreJust a → AreJust b → AreJust (option_or a b)
  just-or None b x y = y
  just-or (Some j) b x y = x

  just-else : (a : Option Judgement) (j : Judgement) → AreJust a → IsJust j → IsJust (unwrap_or a j)
  just-else None j x y = y
  just-else (Some k) j x y = x

  just-denial : (because : Because) → IsStep because.decider → IsJust (denial because)
  just-denial because step = (refl, step_accounted rs asker did because step)

  just-test : (b : Bool) (because : Because) → IsStep because.decider → AreJust (cond b (Some (denial because)) None)
  just-test true because step = just-denial because step
  just-test false because step = tt

-- the first of some scopes in which it is denied
module _ (rs : SiteRules) (d : Deed) where
  found-denied : (scopes : List (List ℕ)) (s : List ℕ) → find (is_denied rs d) scopes ≡ Some s → (deciding rs d s).allow ≡ false
  found-denied [] s = λ h. absurd (none-some s h)
  found-denied (x ∷ xs) s =
      elim ((deciding rs d x).allow) as (λ b. (deciding rs d x).allow ≡ b → cond (not b) (Some x) (find (is_denied rs d) xs) ≡ Some s → (deciding rs d s).allow ≡ false) [
        | true ↦ λ t h. found-denied xs s h
        | false ↦ λ f h. subst (λ z. (deciding rs d z).allow ≡ false) (same_Some x s h) f
      ] refl

module _ (g : Grounds) (did : Action) (kind : List ℕ) (registrant : ℕ) (scopes : List (List ℕ)) where
  abbrev asked : Deed
  asked = deed g.asker did kind registrant

  ruled_out : (s : List ℕ) → (deciding g.rules asked s).allow ≡ false → IsRuledOut g.rules g.asker did (by_rule g.rules asked s)
  ruled_out s denied = record { kind = kind; registrant = registrant; scope = s; of_kind = refl; in_scope = refl; denied = denied; by = refl }

  just-found : (o : Option (List ℕ)) → find (is_denied g.rules asked) scopes ≡ o → AreJust g.rules g.asker did (option_map denial (option_map (by_rule g.rules asked) o))
  just-found None is = tt
  just-found (Some s) is =
      let out = ruled_out s (found-denied g.rules asked scopes s is) in
      (refl, record { by_rule = λ index by. out; by_default = λ by. out })

  just-in : AreJust g.rules g.asker did (denial_in g did kind registrant scopes)
  just-in = just-found (find (is_denied g.rules asked) scopes) refl

-- ---- a registration

just-old : (g : Grounds) (o : Option Entry) → AreJust g.rules g.asker action.Register (denial_of_old g o)
just-old g None = tt
just-old g (Some e) = just-in g action.Register e.kind e.owner e.scopes

module _ (g : Grounds) where
  abbrev JustRegistered : Judgement → Type 0
  JustRegistered = IsJust g.rules g.asker action.Register

  abbrev AreRegistered : Option Judgement → Type 0
  AreRegistered = AreJust g.rules g.asker action.Register

  just-tests : (a b : Bool) (t : Particulars) → AreRegistered (cond (not a) (Some (denial (by_step decider.Update (Some t.kind)))) (cond (not b) (Some (denial (by_step decider.Scope (Some t.kind)))) None))
  just-tests true true t = tt
  just-tests true false t = just-denial g.rules g.asker action.Register (by_step decider.Scope (Some t.kind)) tt
  just-tests false b t = just-denial g.rules g.asker action.Register (by_step decider.Update (Some t.kind)) tt

  just-update : (t : Particulars) (o : Option Entry) → AreRegistered (denial_of_update t o)
  just-update t None = just-denial g.rules g.asker action.Register (by_step decider.Update (Some t.kind)) tt
  just-update t (Some e) = just-tests (bytes_eq e.kind t.kind) (texts_eq e.scopes t.scopes) t

  just-live : (fresh : Bool) (t : Particulars) (o : Option Entry) → AreRegistered (denial_of_live g fresh t o)
  just-live true t o = just-old g o
  just-live false t o = just-or g.rules g.asker action.Register (denial_of_update t o) (denial_of_old g o) (just-update t o) (just-old g o)

  just-particulars : (h : Header) (r : Registration) (t : Particulars) → JustRegistered (judgement_of_particulars g h r t)
  just-particulars h r t =
      let live = fin.get g.live (pair_in h r) in
      let attrs = resulting_attributes h.flags.fresh t live in
      let accepts : Judgement = Accepts (record { moment = g.now; act = act_of g h r t }) (allowance g t) in
      let by_room = denial_of_room g (pair_in h r) t in
      let by_template = denial_of_template g t.kind attrs in
      let by_live = denial_of_live g h.flags.fresh t live in
      let by_rules = denial_of_new g t in
      just-else g.rules g.asker action.Register (option_or (denial_of_scopes t) (option_or by_rules (option_or by_live (option_or by_template by_room)))) accepts
      (just-or g.rules g.asker action.Register (denial_of_scopes t) (option_or by_rules (option_or by_live (option_or by_template by_room))) (just-test g.rules g.asker action.Register (length t.scopes == 0) (by_step decider.Scope (Some t.kind)) tt)
      (just-or g.rules g.asker action.Register by_rules (option_or by_live (option_or by_template by_room)) (just-in g action.Register t.kind g.asker t.scopes)
      (just-or g.rules g.asker action.Register by_live (option_or by_template by_room) (just-live h.flags.fresh t live)
      (just-or g.rules g.asker action.Register by_template by_room (just-test g.rules g.asker action.Register (is_some (template_fault g.site.templates t.kind attrs)) (by_step decider.Template (Some t.kind)) tt)
      (just-test g.rules g.asker action.Register (is_none live && nat_le g.site.capacity (fin.len g.live)) (by_step decider.Full (Some t.kind)) tt)))))
      tt

  abbrev IsJustlyRead : Result Particulars Judgement → Type 0
  IsJustlyRead (Ok t) = Unit {0}
  IsJustlyRead (Err j) = JustRegistered j

  just-texts : (kind url : Option (List ℕ)) (attrs : Option Attributes) (scopes : Option (List (List ℕ))) → IsJustlyRead (particulars_of_texts g.site kind url attrs scopes)
  just-texts (Some kind) (Some url) (Some attrs) (Some scopes) = tt
  just-texts (Some kind) (Some url) (Some attrs) None = just-denial g.rules g.asker action.Register (by_step decider.Parse None) tt
  just-texts (Some kind) (Some url) None scopes = just-denial g.rules g.asker action.Register (by_step decider.Attributes (Some kind)) tt
  just-texts (Some kind) None attrs scopes = just-denial g.rules g.asker action.Register (by_step decider.Registration None) tt
  just-texts None url attrs scopes = just-denial g.rules g.asker action.Register (by_step decider.Registration None) tt

  just-if : (b : Bool) (x : Result Particulars Judgement) → IsJustlyRead x → IsJustlyRead (cond b (Err (denial_by decider.Registration)) x)
  just-if true x is = just-denial g.rules g.asker action.Register (by_step decider.Registration None) tt
  just-if false x is = is

  just-reading : (h : Header) (r : Registration) (x : Result Particulars Judgement) → IsJustlyRead x → JustRegistered (judgement_of_reading g h r x)
  just-reading h r (Ok t) is = just-particulars h r t
  just-reading h r (Err j) is = is

  just-registration : (h : Header) (r : Registration) → JustRegistered (judgement_of_reading g h r (particulars g.site h r))
  just-registration h r =
      just-reading h r (particulars g.site h r)
      (just-if (length h.language == 0 || r.entry.lifetime == 0) _
      (just-texts (result_ok (type_of r.kind)) (result_ok (url_of r.entry.url)) (result_ok (attributes_in r.attributes)) (result_ok (scopes_of r.scopes))))

-- ---- a withdrawal

module _ (g : Grounds) where
  abbrev JustWithdrawn : Judgement → Type 0
  JustWithdrawn = IsJust g.rules g.asker action.Withdraw

  just-by : (d : Decider) → IsStep d → JustWithdrawn (denial_by d)
  just-by d step = just-denial g.rules g.asker action.Withdraw (by_step d None) step

  just-kept : (o : Option Entry) → AreJust g.rules g.asker action.Withdraw (denial_of_kept g o)
  just-kept None = tt
  just-kept (Some e) = just-in g action.Withdraw e.kind e.owner e.scopes

  just-entries : (url : List ℕ) (scopes : List (List ℕ)) (first kept : Option Entry) → JustWithdrawn (judgement_of_entries g url scopes first kept)
  just-entries url scopes None kept = just-by decider.Scope tt
  just-entries url scopes (Some f) kept = just-else g.rules g.asker action.Withdraw (denial_of_kept g kept) (Accepts (withdrawal_event g url scopes) (release g f)) (just-kept kept) tt

  just-url : (url : List ℕ) (scopes : List (List ℕ)) → JustWithdrawn (judgement_of_url g url scopes)
  just-url url scopes =
      let first = first_of (concerned_entries g url scopes) in
      let kept = first_of (filter (is_kept g.rules g.asker) (concerned_entries g url scopes)) in
      elim (list_any (is_of_url url) (entries_in g.live)) as (λ b. JustWithdrawn (cond b (judgement_of_entries g url scopes first kept) Ignores)) [ true ↦ just-entries url scopes first kept | false ↦ tt ]

  just-tagged : (q : Pair) (tags : List Part) (scopes : List (List ℕ)) (o : Option Entry) → JustWithdrawn (judgement_of_tagged g q tags scopes o)
  just-tagged q tags scopes None = tt
  just-tagged q tags scopes (Some e) =
      let attrs = attributes_without e.attrs tags in
      let by_rules = denial_in g action.Withdraw e.kind e.owner e.scopes in
      let by_template = denial_of_template g e.kind attrs in
      let accepts : Judgement = Accepts (removal_event g q tags) (release g e) in
      elim (texts_eq e.scopes scopes) as (λ b. JustWithdrawn (cond b (unwrap_or (option_or by_rules by_template) accepts) (denial_by decider.Scope))) [
        | true ↦ just-else g.rules g.asker action.Withdraw (option_or by_rules by_template) accepts
            (just-or g.rules g.asker action.Withdraw by_rules by_template (just-in g action.Withdraw e.kind e.owner e.scopes) (just-test g.rules g.asker action.Withdraw (is_some (template_fault g.site.templates e.kind attrs)) (by_step decider.Template (Some e.kind)) tt)) tt
        | false ↦ just-by decider.Scope tt
      ]

  just-tags : (q : Pair) (tags : List Part) (scopes : List (List ℕ)) → JustWithdrawn (judgement_of_tags g q tags scopes)
  just-tags q [] scopes = just-url q.0 scopes
  just-tags q (p ∷ ps) scopes = just-tagged q (p ∷ ps) scopes (fin.get g.live q)

  just-scopes : (q : Pair) (tags : List Part) (scopes : List (List ℕ)) → JustWithdrawn (judgement_in_scopes g q tags scopes)
  just-scopes q tags [] = just-by decider.Scope tt
  just-scopes q tags (s ∷ ss) = just-tags q tags (s ∷ ss)

  just-withdrawal : (language : List ℕ) (url : Option (List ℕ)) (tags : Option (List Part)) (scopes : Option (List (List ℕ))) → JustWithdrawn (judgement_of_texts g language url tags scopes)
  just-withdrawal language (Some url) (Some tags) (Some scopes) = just-scopes (url, language) tags (common_keys g.site.scopes scopes)
  just-withdrawal language (Some url) (Some tags) None = just-by decider.Parse tt
  just-withdrawal language (Some url) None scopes = just-by decider.Parse tt
  just-withdrawal language None tags scopes = just-by decider.Parse tt

abbrev action_by : ℕ → Action
action_by function = if function == REGISTRATION then action.Register else (if function == WITHDRAWAL then action.Withdraw else action.See)

just : (g : Grounds) (head : Heading) (sent : Message) → function_of sent ≡ head.function → IsJust g.rules g.asker (action_of head) (judgement g sent)
just g head (message.Registration h r) is = subst (λ (f : ℕ). IsJust g.rules g.asker (action_by f) (judgement g (message.Registration h r))) is (just-registration g h r)
just g head (message.Withdrawal h w) is =
    subst (λ (f : ℕ). IsJust g.rules g.asker (action_by f) (judgement g (message.Withdrawal h w))) is (just-withdrawal g (key_of h.language) (result_ok (url_of w.entry.url)) (result_ok (tags_of w.tags)) (result_ok (scopes_of w.scopes)))
just g head (message.ServiceRequest h q) is = tt
just g head (message.ServiceReply h r) is = tt
just g head (message.Acknowledgement h code) is = tt
just g head (message.AttributeRequest h q) is = tt
just g head (message.AttributeReply h r) is = tt
just g head (message.DirectoryAdvert h a) is = tt
just g head (message.TypeRequest h q) is = tt
just g head (message.TypeReply h r) is = tt
just g head (message.ServiceAdvert h a) is = tt

-- ---- the line

in_parts : (a b c d : List ℕ) → a ++ b ++ c ++ d ≡ a ++ (b ++ (c ++ d))
in_parts a b c d = simp append_assoc

denial_line : (rs : SiteRules) (a : Audit) → a.code ≢ OK
    → (rest : List ℕ) × (audit_text rs a ≡ codes "# deny code=" ++ decimal a.code ++ codes " by=" ++ decider_text (rule_named rs a.because.decider) a.because.decider ++ codes " action=" ++ rest)
unfolding audit_text line_text
denial_line rs a not_ok =
    let nonzero : (a.code == 0) ≡ false = grind (arith, nat_tests) in
    let who = decider_text (rule_named rs a.because.decider) a.because.decider in (
      action_text a.action ++ (codes " asker=" ++ tail_text a),
      ap (λ b. cond b (codes "# allow code=") (codes "# deny code=") ++ decimal a.code ++ codes " by=" ++ who ++ codes " action=" ++ action_text a.action ++ codes " asker=" ++ tail_text a) nonzero
          ∙ in_parts (codes "# deny code=" ++ decimal a.code ++ codes " by=" ++ who ++ codes " action=") (action_text a.action) (codes " asker=") (tail_text a),
    )

-- ---- what comes of bytes

module _ (rs : SiteRules) (c : Call) (head : Heading) where
  abbrev KeepsDenials : Outcome → Type 0
  KeepsDenials r = (code : ℕ) (because : Because) → r.verdict ≡ Some (code, because) → code ≢ OK → IsDenial rs c head r code because

  kept-silence : KeepsDenials silence
  kept-silence code because is not_ok = absurd (none-some _ is)

  kept-ok : (reply : List ℕ) (because : Because) → KeepsDenials (outcome reply OK because)
  kept-ok reply because code other is not_ok = let same : (OK, because) ≡ (code, other) = same_Some (OK, because) (code, other) is in absurd (not_ok (sym (ap (λ (p : ℕ × Because). p.0) same)))

  module _ (code : ℕ) (because : Because) (coded : code ≡ code_by because.decider) (accounted : IsAccounted rs c.asker (action_of head) because) where
    denied : (function : ℕ) → answering_function c head ≡ Some function → code ≢ OK → IsDenial rs c head (code_outcome_as head code because function) code because
    denied function by not_ok = record {
      coded = coded;
      carried = (function, by, refl);
      line = denial_line rs (audit_in c.asker head (code, because)) not_ok;
      by_rule = accounted.by_rule;
      by_default = accounted.by_default;
    }

    kept-as : (function : ℕ) → answering_function c head ≡ Some function → KeepsDenials (code_outcome_as head code because function)
    kept-as function by other b is not_ok =
        let same : (code, because) ≡ (other, b) = same_Some (code, because) (other, b) is in
        subst (λ (p : ℕ × Because). p.0 ≢ OK → IsDenial rs c head (code_outcome_as head code because function) p.0 p.1) same (denied function by) not_ok

    kept-by : (function : Option ℕ) → answering_function c head ≡ function → KeepsDenials (option_map_or (code_outcome_as head code because) function silence)
    kept-by None by = kept-silence
    kept-by (Some f) by = kept-as f by

    kept-code : answering_function c head ≡ reply_function_of head.function → KeepsDenials (code_outcome head code because)
    kept-code plain = kept-by (reply_function_of head.function) plain

  kept-ok_by : (because : Because) (function : Option ℕ) → KeepsDenials (option_map_or (code_outcome_as head OK because) function silence)
  kept-ok_by because None = kept-silence
  kept-ok_by because (Some f) = kept-ok (sent_of head OK false (refusal_bytes f OK head.xid head.language)) because

  -- a step that is not a rule
  kept-step : answering_function c head ≡ reply_function_of head.function → (d : Decider) (kind : Option (List ℕ)) → IsStep d → KeepsDenials (code_outcome head (code_by d) (by_step d kind))
  kept-step plain d kind step = kept-code (code_by d) (by_step d kind) refl (step_accounted rs c.asker (action_of head) (by_step d kind) step) plain

  kept-fault : answering_function c head ≡ reply_function_of head.function → (e : WireFault) → KeepsDenials (fault_outcome head e)
  kept-fault plain fault.Version = kept-step plain decider.Version None tt
  kept-fault plain fault.Parse = kept-step plain decider.Parse None tt
  kept-fault plain fault.Auth = kept-step plain decider.Auth None tt
  kept-fault plain fault.Option = kept-step plain decider.Option None tt
  kept-fault plain fault.NoHeader = kept-silence
  kept-fault plain fault.Unknown = kept-silence
  kept-fault plain fault.NoMemory = kept-silence
  kept-fault plain fault.TooLong = kept-silence

  kept-agents : answering_function c head ≡ Some DIRECTORY_ADVERT → (site : Site) (own : ℕ) (kind : List ℕ) (scopes : Option (List (List ℕ))) → KeepsDenials (agents_outcome site own head kind scopes)
  kept-agents advert site own kind None = kept-as (code_by decider.Parse) (by_step decider.Parse None) refl (step_accounted rs c.asker (action_of head) (by_step decider.Parse None) tt) DIRECTORY_ADVERT advert
  kept-agents advert site own kind (Some scopes) =
      elim (is_agent_for site scopes) as (λ b. KeepsDenials (cond b (advert_outcome site own head kind) (advert_code head (code_by decider.Scope) (by_step decider.Scope (Some kind))))) [
        | true ↦ kept-ok (sent_of head OK false (plain_bytes (advert_of site own head))) (by_step decider.Nobody (Some kind))
        | false ↦ kept-as (code_by decider.Scope) (by_step decider.Scope (Some kind)) refl (step_accounted rs c.asker (action_of head) (by_step decider.Scope (Some kind)) tt) DIRECTORY_ADVERT advert
      ]

  kept-same : (r it : Outcome) → r ≡ it → KeepsDenials it → KeepsDenials r
  kept-same r it is kept = subst KeepsDenials (sym is) kept

  kept-cut : {A : Type 0} (listed : List A → ℕ → Message) (limit : ℕ) (because : Because) (items : List A) (r : Outcome) → IsCutReply listed limit head because items r → KeepsDenials r
  kept-cut listed limit because items r is = kept-same r (outcome (sent_of head OK (length items == 0) is.whole) OK because) is.sent (kept-ok (sent_of head OK (length items == 0) is.whole) because)

  kept-judged : answering_function c head ≡ reply_function_of head.function → (v : Judgement) → IsJust rs c.asker (action_of head) v → KeepsDenials (acknowledgement_of head v)
  kept-judged plain (Accepts event because) is = kept-ok_by because (reply_function_of head.function)
  kept-judged plain Ignores is = kept-ok_by (by_step decider.Nobody None) (reply_function_of head.function)
  kept-judged plain Waits is = kept-silence
  kept-judged plain (Denies code because) is = kept-code code because is.0 is.1 plain

module _ (o : Opening) (h : History) (c : Call) (head : Heading) where
  abbrev KeepsDenialsHere : Outcome → Type 0
  KeepsDenialsHere = KeepsDenials (rules o.rules h) c head

  -- the reply's function is that of what was asked
  abbrev IsPlain : Type 0
  IsPlain = answering_function c head ≡ reply_function_of head.function

  answering : (agents : Bool) → asks_for_agents c.own (reading c.bytes) ≡ agents → answering_function c head ≡ cond agents (Some DIRECTORY_ADVERT) (reply_function_of head.function)
  answering agents is = ap (λ (b : Bool). cond b (Some DIRECTORY_ADVERT) (reply_function_of head.function)) is

  kept-change : IsPlain → (sent : Message) (r : Outcome) (change : Option Event) → function_of sent ≡ head.function → IsAnswerTo o h c (Changes head sent) r change → KeepsDenialsHere r
  kept-change plain sent r change function is =
      let v = is.1 in
      let g = grounds (standpoint_of o h c) v.live in
      let here : IsJust g.rules g.asker (action_of head) is.0 = subst (IsJust g.rules g.asker (action_of head)) (sym v.is) (just g head sent function) in
      kept-same (rules o.rules h) c head r (acknowledgement_of head is.0) is.2 (kept-judged (rules o.rules h) c head plain is.0 here)

  kept-within : IsPlain → (scopes : List (List ℕ)) (kind : Option (List ℕ)) (sense : Sense) (r : Outcome) (change : Option Event) → (IsAnswerTo o h c sense r change → KeepsDenialsHere r)
      → IsAnswerTo o h c (sense_within o.site head scopes kind sense) r change → KeepsDenialsHere r
  kept-within plain scopes kind sense r change kept =
      elim (list_any (supports o.site) scopes) as (λ b. IsAnswerTo o h c (cond b sense (Settled (code_outcome head (code_by decider.Scope) (by_step decider.Scope kind)))) r change → KeepsDenialsHere r) [
        | true ↦ kept
        | false ↦ λ is. kept-same (rules o.rules h) c head r (code_outcome head (code_by decider.Scope) (by_step decider.Scope kind)) is.0 (kept-step (rules o.rules h) c head plain decider.Scope kind tt)
      ]

  kept-language : IsPlain → (kind : Option (List ℕ)) (r : Outcome) → r ≡ language_outcome head kind → KeepsDenialsHere r
  kept-language plain kind r is = kept-same (rules o.rules h) c head r (language_outcome head kind) is (kept-step (rules o.rules h) c head plain decider.Language kind tt)

  kept-question : (asked : Question) (r : Outcome) (change : Option Event) → asks_for_agents c.own (reading c.bytes) ≡ is_for_agents asked → IsAnswerTo o h c (sense_of_question o.site c.own head asked) r change → KeepsDenialsHere r
  kept-question question.Silent r change asks = λ is. kept-same (rules o.rules h) c head r silence is.0 (kept-silence (rules o.rules h) c head)
  kept-question question.Unreadable r change asks = λ is. kept-same (rules o.rules h) c head r (denial_outcome head decider.Parse) is.0 (kept-step (rules o.rules h) c head (answering false asks) decider.Parse None tt)
  kept-question (question.Services q) r change asks = kept-within (answering false asks) q.scopes (Some q.kind) (Lists head q) r change (λ is. elim is.0 [
    | inl none ↦ kept-language (answering false asks) (Some q.kind) r none.1
    | inr some ↦ kept-cut (rules o.rules h) c head (services_with head) c.limit (by_step decider.Nobody (Some q.kind)) some.1.items r some.1.reply
  ])
  kept-question (question.Attributes q) r change asks = kept-within (answering false asks) q.scopes (kind_asked q.target) (Describes head q) r change (λ is. elim is.0 [
    | inl none ↦ kept-language (answering false asks) (kind_asked q.target) r none.1
    | inr some ↦ kept-cut (rules o.rules h) c head (attributes_with head) c.limit (by_step decider.Nobody (kind_asked q.target)) (attribute_texts some.1.attributes) r some.1.reply
  ])
  kept-question (question.Types q) r change asks = kept-within (answering false asks) q.scopes None (Names head q) r change
      (λ is. let some = is.0 in kept-cut (rules o.rules h) c head (types_with head) c.limit (by_step decider.Nobody None) some.types r some.reply)
  kept-question (question.Agents q) r change asks = λ is. kept-same (rules o.rules h) c head r (agents_outcome o.site c.own head q.kind q.scopes) is.0 (kept-agents (rules o.rules h) c head (answering true asks) o.site c.own q.kind q.scopes)

  kept-settled : (r : Outcome) (change : Option Event) → IsAnswerTo o h c (Settled silence) r change → KeepsDenialsHere r
  kept-settled r change is = kept-same (rules o.rules h) c head r silence is.0 (kept-silence (rules o.rules h) c head)

  kept-message : (sent : Message) (r : Outcome) (change : Option Event) → asks_for_agents c.own (reading c.bytes) ≡ is_for_agents (question_of c.own sent) → function_of sent ≡ head.function → IsAnswerTo o h c (sense_of_message o.site c.own head sent) r change → KeepsDenialsHere r
  kept-message (message.Registration k x) r change asks function is = kept-change (answering false asks) (message.Registration k x) r change function is
  kept-message (message.Withdrawal k x) r change asks function is = kept-change (answering false asks) (message.Withdrawal k x) r change function is
  kept-message (message.ServiceRequest k q) r change asks function is = kept-question (question_of c.own (message.ServiceRequest k q)) r change asks is
  kept-message (message.AttributeRequest k q) r change asks function is = kept-question (question_of c.own (message.AttributeRequest k q)) r change asks is
  kept-message (message.TypeRequest k q) r change asks function is = kept-question (question_of c.own (message.TypeRequest k q)) r change asks is
  kept-message (message.ServiceReply k x) r change asks function is = kept-settled r change is
  kept-message (message.Acknowledgement k code) r change asks function is = kept-settled r change is
  kept-message (message.AttributeReply k x) r change asks function is = kept-settled r change is
  kept-message (message.DirectoryAdvert k a) r change asks function is = kept-settled r change is
  kept-message (message.TypeReply k x) r change asks function is = kept-settled r change is
  kept-message (message.ServiceAdvert k a) r change asks function is = kept-settled r change is

  kept-reading : (read : Result Message WireFault) (r : Outcome) (change : Option Event) → heading_of c.bytes ≡ Some head → reading c.bytes ≡ read → IsAnswerTo o h c (sense_of_reading o.site c.own head read) r change → KeepsDenialsHere r
  kept-reading (Ok sent) r change headed read is = kept-message sent r change (ap (asks_for_agents c.own) read) (message_function c.bytes head sent headed read) is
  kept-reading (Err e) r change headed read is = kept-same (rules o.rules h) c head r (fault_outcome head e) is.0 (kept-fault (rules o.rules h) c head (answering false (ap (asks_for_agents c.own) read)) e)

module _ (o : Opening) (h : History) (c : Call) where
  kept-under : (heading : Option Heading) (r : Outcome) (change : Option Event) → heading_of c.bytes ≡ heading → IsAnswerTo o h c (sense_under o.site c.own heading (reading c.bytes)) r change → DenialsAreKept (rules o.rules h) c r
  kept-under None r change headed is code because verdict not_ok = absurd (none-some _ (sym (ap (λ (x : Outcome). x.verdict) is.0) ∙ verdict))
  kept-under (Some head) r change headed is code because verdict not_ok = (head, headed, kept-reading o h c head (reading c.bytes) r change headed refl is code because verdict not_ok)

  pub denials_are_kept : (r : Outcome) (change : Option Event) → IsAnswer o h c r change → DenialsAreKept (rules o.rules h) c r
  unfolding IsAnswer
  denials_are_kept r change is = kept-under (heading_of c.bytes) r change refl is
