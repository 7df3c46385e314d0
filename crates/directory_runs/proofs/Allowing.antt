-- What is accepted is what is allowed.
use Rattle.std.proofs.Common.{◌≡◌, ℕ, ◌<◌, Bool, true, false, cond, not, List, [], ◌∷◌, length, Option, Some, None, Result, Ok, Err, refl, sym, ap, ap₂, subst, ◌∙◌, arith}
use Rattle.std.specs.Prelude.{◌==◌, ◌&&◌, ◌||◌, Contains, IsTrue, filter, find, is_none, is_some, nat_le, unwrap_or}
use Rattle.std.specs.FinMap as fin
use Rattle.std.specs.List.{All, list_any}
use Rattle.std.specs.Option.{option_map, option_or}
use Rattle.std.specs.Result.{result_ok}
use Rattle.std.proofs.lemmas.Bool.Decides.{nat_tests}
use Rattle.std.proofs.lemmas.List.Elements.{All-nil, All-cons, All-head, All-tail, All-weaker, All-contains, All-contains_itself, filter_passes}
use Rattle.std.proofs.lemmas.Option.{none-some, same_Some}
use Rattle.slp_text.specs.Keys.{key_of}
use Rattle.slp_scopes.specs.Scopes.{scopes_of}
use Rattle.slp_text.specs.Sets.{common_keys}
use Rattle.slp_tags.specs.Tags.{Part, tags_of}
use Rattle.slp_text.specs.Words.{bytes_eq, texts_eq}
use Rattle.slp_text.proofs.KeySets.{bytes_same}
use Rattle.slp_messages.specs.declared.header.Header.{Header}
use Rattle.slp_messages.specs.declared.message.Message.{Message}
use Rattle.slp_messages.specs.declared.message.Message.TheVariants as message
use Rattle.slp_messages.specs.declared.message.Registration.{Registration}
use Rattle.slp_messages.specs.declared.message.Withdrawal.{Withdrawal}
use Rattle.service_url.specs.Types.{type_of}
use Rattle.service_url.specs.Urls.{url_of}
use Rattle.access_rules.specs.Deciding.{Deed, SiteRules, deciding, deed}
use Rattle.access_rules.specs.declared.rule.Action.{Action}
use Rattle.access_rules.specs.declared.rule.Action.TheVariants as action
use Rattle.attr_list.specs.Lists.{Attributes}
use Rattle.attr_list.specs.Maps.{attributes_without}
use Rattle.attr_list.specs.Reading.{attributes_in}
use Rattle.srv_template.specs.Conformity.{ConformsTo, template_fault}
use Rattle.srv_template.specs.declared.fault.TemplateFault.{TemplateFault}
use Rattle.srv_template.proofs.Conformities.{no_template_fault}
use Rattle.registry_core.specs.declared.entry.Entry.{Entry}
use Rattle.registry_core.specs.Entries.{Pair, is_of_url}
use Rattle.directory_judge.specs.History.{Event}
use Rattle.directory_judge.specs.Judgements.{Grounds, Judgement, Accepts, Ignores, Waits, Denies, act_of, allowance, by_rule, by_step, concerned_entries, denial, denial_by, denial_in, denial_of, denial_of_kept, denial_of_live, denial_of_new, denial_of_old, denial_of_room, denial_of_scopes, denial_of_template, denial_of_update, entries_in, first_of, is_denied, is_kept, judgement, judgement_in_scopes, judgement_of_entries, judgement_of_particulars, judgement_of_reading, judgement_of_registration, judgement_of_removal, judgement_of_tagged, judgement_of_tags, judgement_of_texts, judgement_of_url, judgement_of_withdrawal, pair_in, particulars, particulars_of_texts, release, removal_event, resulting_attributes, withdrawal_event}
use Rattle.directory_judge.specs.declared.particulars.Particulars.{Particulars}
use Rattle.directory_judge.specs.declared.reason.Because.{Because}
use Rattle.directory_judge.specs.declared.reason.Decider.TheVariants as decider
use Rattle.directory_judge.specs.Sites.{Site}
use Rattle.directory_judge.proofs.Rulings.{is_kept-denial, not-kept}
use Rattle.registry_core.proofs.SameTexts.{texts_same, texts_itself, bytes_itself}
use Rattle.directory_questions.specs.Verdicts.{change_in}
use Rattle.directory_runs.specs.Allowing.{HasRoom, IsAllowedOn, IsReleased, IsRuledIn, MayFollow, MayReplace, MayUpdate, RegistrationIsAllowed, TagsAreReleased, UrlIsReleased, WithdrawalIsAllowed}
use Rattle.directory_runs.proofs.FirstEntries.{false_true, first-has, first-none, filter-none, none-filter, unlisted, nothing-in}

-- ---- scopes in which nothing is denied

module _ (rs : SiteRules) (d : Deed) where
  abbrev IsAllowing : List ℕ → Type 0
  IsAllowing s = IsTrue (deciding rs d s).allow

  all-allow : (scopes : List (List ℕ)) → find (is_denied rs d) scopes ≡ None → All IsAllowing scopes
  all-allow [] = λ h. All-nil IsAllowing
  all-allow (s ∷ ss) =
      elim ((deciding rs d s).allow) as (λ b. (deciding rs d s).allow ≡ b → cond (not b) (Some s) (find (is_denied rs d) ss) ≡ None → All IsAllowing (s ∷ ss)) [
        | true ↦ λ t h. All-cons IsAllowing s ss t (all-allow ss h)
        | false ↦ λ t h. absurd (none-some s (sym h))
      ] refl

  none-denies : (scopes : List (List ℕ)) → All IsAllowing scopes → find (is_denied rs d) scopes ≡ None
  none-denies [] all = refl
  none-denies (s ∷ ss) all =
      ap (λ b. cond (not b) (Some s) (find (is_denied rs d) ss)) (All-head IsAllowing s ss all) ∙ none-denies ss (All-tail IsAllowing s ss all)

no-map : {A B : Type 0} (f : A → B) (o : Option A) → option_map f o ≡ None → o ≡ None
no-map f None h = refl
no-map f (Some x) h = absurd (none-some (f x) (sym h))

module _ (g : Grounds) (a : Action) (kind : List ℕ) (registrant : ℕ) (scopes : List (List ℕ)) where
  ruled-in : denial_of g.rules (deed g.asker a kind registrant) scopes ≡ None → IsRuledIn g a kind registrant scopes
  ruled-in none s has =
      All-contains (IsAllowing g.rules (deed g.asker a kind registrant)) scopes s
      (all-allow g.rules (deed g.asker a kind registrant) scopes (no-map (by_rule g.rules (deed g.asker a kind registrant)) (find (is_denied g.rules (deed g.asker a kind registrant)) scopes) none)) has

  ruled-out_of : IsRuledIn g a kind registrant scopes → denial_of g.rules (deed g.asker a kind registrant) scopes ≡ None
  ruled-out_of ruled =
      ap (option_map (by_rule g.rules (deed g.asker a kind registrant)))
      (none-denies g.rules (deed g.asker a kind registrant) scopes (All-weaker (Contains scopes) (IsAllowing g.rules (deed g.asker a kind registrant)) ruled scopes (All-contains_itself scopes)))

  undenied : denial_in g a kind registrant scopes ≡ None → IsRuledIn g a kind registrant scopes
  undenied none = ruled-in (no-map denial (denial_of g.rules (deed g.asker a kind registrant) scopes) none)

  no_denial : IsRuledIn g a kind registrant scopes → denial_in g a kind registrant scopes ≡ None
  no_denial ruled = ap (option_map denial) (ruled-out_of ruled)

-- ---- steps that deny, one after the other

-- nothing is accepted there
abbrev IsDenying : Option Judgement → Type 0
IsDenying None = Unit {0}
IsDenying (Some (Accepts event because)) = ⊥
IsDenying (Some Ignores) = Unit {0}
IsDenying (Some Waits) = Unit {0}
IsDenying (Some (Denies code because)) = Unit {0}

denying-map : (o : Option Because) → IsDenying (option_map denial o)
denying-map None = tt
denying-map (Some b) = tt

denying-test : (b : Bool) (because : Because) → IsDenying (cond b (Some (denial because)) None)
denying-test true because = tt
denying-test false because = tt

test-none : (b : Bool) (j : Judgement) → cond b (Some j) None ≡ None → b ≡ false
test-none true j h = absurd (none-some j (sym h))
test-none false j h = refl

step-none : (a b : Option Judgement) (x : Judgement) (event : Event) (because : Because) → IsDenying a → unwrap_or (option_or a b) x ≡ Accepts event because → (a ≡ None) × (unwrap_or b x ≡ Accepts event because)
step-none None b x event because denying h = (refl, h)
step-none (Some (Accepts e c)) b x event because denying h = absurd denying
step-none (Some Ignores) b x event because denying h = cc
step-none (Some Waits) b x event because denying h = cc
step-none (Some (Denies code c)) b x event because denying h = cc

last-none : (a : Option Judgement) (x : Judgement) (event : Event) (because : Because) → IsDenying a → unwrap_or a x ≡ Accepts event because → (a ≡ None) × (x ≡ Accepts event because)
last-none None x event because denying h = (refl, h)
last-none (Some (Accepts e c)) x event because denying h = absurd denying
last-none (Some Ignores) x event because denying h = cc
last-none (Some Waits) x event because denying h = cc
last-none (Some (Denies code c)) x event because denying h = cc

same_event : (a b : Event) (x y : Because) → Accepts a x ≡ Accepts b y → a ≡ b
same_event a b x y h = same_Some a b (ap change_in h)

-- ---- the steps of a registration

in_scope-some : (t : Particulars) → denial_of_scopes t ≡ None → 0 < length t.scopes
in_scope-some t none = let k : (length t.scopes == 0) ≡ false = test-none (length t.scopes == 0) (denial (by_step decider.Scope (Some t.kind))) none in grind (arith, nat_tests)

some-in_scope : (t : Particulars) → 0 < length t.scopes → denial_of_scopes t ≡ None
some-in_scope t some =
    let k : (length t.scopes == 0) ≡ false = grind (arith, nat_tests) in
    ap (λ b. cond b (Some (denial (by_step decider.Scope (Some t.kind)))) None) k

old-none : (g : Grounds) (q : Pair) (o : Option Entry) → fin.get g.live q ≡ o → denial_of_old g o ≡ None → MayReplace g q
old-none g q None is none e found = absurd (none-some e (sym is ∙ found))
old-none g q (Some x) is none e found =
    let same = same_Some x e (sym is ∙ found) in
    subst (λ (y : Entry). IsRuledIn g action.Register y.kind y.owner y.scopes) same (undenied g action.Register x.kind x.owner x.scopes none)

none-old : (g : Grounds) (q : Pair) (o : Option Entry) → fin.get g.live q ≡ o → MayReplace g q → denial_of_old g o ≡ None
none-old g q None is may = refl
none-old g q (Some x) is may = no_denial g action.Register x.kind x.owner x.scopes (may x is)

update-tests : (a b : Bool) (j k : Judgement) → cond (not a) (Some j) (cond (not b) (Some k) None) ≡ None → (a ≡ true) × (b ≡ true)
update-tests true true j k h = (refl, refl)
update-tests true false j k h = absurd (none-some k (sym h))
update-tests false b j k h = absurd (none-some j (sym h))

both-none : (a b : Option Judgement) → option_or a b ≡ None → (a ≡ None) × (b ≡ None)
both-none None b h = (refl, h)
both-none (Some j) b h = absurd (none-some j (sym h))

update-none : (g : Grounds) (q : Pair) (t : Particulars) (o : Option Entry) → fin.get g.live q ≡ o → option_or (denial_of_update t o) (denial_of_old g o) ≡ None → MayUpdate g q t
update-none g q t None is none = absurd (none-some _ (sym none))
update-none g q t (Some e) is none =
    let both = both-none (denial_of_update t (Some e)) (denial_of_old g (Some e)) none in
    let k = update-tests (bytes_eq e.kind t.kind) (texts_eq e.scopes t.scopes) (denial (by_step decider.Update (Some t.kind))) (denial (by_step decider.Scope (Some t.kind))) both.0 in
    record { entry = e; live = is; kind = bytes_same e.kind t.kind k.0; scopes = texts_same e.scopes t.scopes k.1; ruled = undenied g action.Register e.kind e.owner e.scopes both.1 }

none-update : (g : Grounds) (q : Pair) (t : Particulars) → MayUpdate g q t → option_or (denial_of_update t (fin.get g.live q)) (denial_of_old g (fin.get g.live q)) ≡ None
none-update g q t may =
    let e = may.entry in
    let update : Judgement = denial (by_step decider.Update (Some t.kind)) in
    let other : Judgement = denial (by_step decider.Scope (Some t.kind)) in
    ap (λ o. option_or (denial_of_update t o) (denial_of_old g o)) may.live
    ∙ ap₂ (λ a b. option_or (cond (not a) (Some update) (cond (not b) (Some other) None)) (denial_of_old g (Some e))) (ap (λ k. bytes_eq k t.kind) may.kind ∙ bytes_itself t.kind) (ap (λ s. texts_eq s t.scopes) may.scopes ∙ texts_itself t.scopes)
    ∙ no_denial g action.Register e.kind e.owner e.scopes may.ruled

live-none : (g : Grounds) (fresh : Bool) (q : Pair) (t : Particulars) → denial_of_live g fresh t (fin.get g.live q) ≡ None → MayFollow fresh g q t
live-none g true q t none = old-none g q (fin.get g.live q) refl none
live-none g false q t none = update-none g q t (fin.get g.live q) refl none

none-live : (g : Grounds) (fresh : Bool) (q : Pair) (t : Particulars) → MayFollow fresh g q t → denial_of_live g fresh t (fin.get g.live q) ≡ None
none-live g true q t may = none-old g q (fin.get g.live q) refl may
none-live g false q t may = none-update g q t may

no_fault : (o : Option TemplateFault) → is_some o ≡ false → o ≡ None
no_fault None h = refl
no_fault (Some f) h = absurd (false_true (sym h))

module _ (g : Grounds) (kind : List ℕ) (a : Attributes) where
  template-none : denial_of_template g kind a ≡ None → ConformsTo g.site.templates kind a
  template-none none =
      (no_template_fault g.site.templates kind a).0
      (no_fault (template_fault g.site.templates kind a) (test-none (is_some (template_fault g.site.templates kind a)) (denial (by_step decider.Template (Some kind))) none))

  none-template : ConformsTo g.site.templates kind a → denial_of_template g kind a ≡ None
  none-template conforms = ap (λ (o : Option TemplateFault). cond (is_some o) (Some (denial (by_step decider.Template (Some kind)))) None) ((no_template_fault g.site.templates kind a).1 conforms)

room-test : (o : Option Entry) (capacity size : ℕ) → (is_none o && nat_le capacity size) ≡ false → o ≡ None → size < capacity
room-test None capacity size h none = grind (arith, nat_tests)
room-test (Some e) capacity size h none = absurd (none-some e (sym none))

test-room : (o : Option Entry) (capacity size : ℕ) → (o ≡ None → size < capacity) → (is_none o && nat_le capacity size) ≡ false
test-room None capacity size may = let k : size < capacity = may refl in grind (arith, nat_tests)
test-room (Some e) capacity size may = refl

module _ (g : Grounds) (q : Pair) (t : Particulars) where
  room-none : denial_of_room g q t ≡ None → HasRoom g q
  room-none none =
      room-test (fin.get g.live q) g.site.capacity (fin.len g.live) (test-none (is_none (fin.get g.live q) && nat_le g.site.capacity (fin.len g.live)) (denial (by_step decider.Full (Some t.kind))) none)

  none-room : HasRoom g q → denial_of_room g q t ≡ None
  none-room may = ap (λ b. cond b (Some (denial (by_step decider.Full (Some t.kind)))) None) (test-room (fin.get g.live q) g.site.capacity (fin.len g.live) may)

denying-old : (g : Grounds) (o : Option Entry) → IsDenying (denial_of_old g o)
denying-old g None = tt
denying-old g (Some e) = denying-map (denial_of g.rules (deed g.asker action.Register e.kind e.owner) e.scopes)

update-denies : (a b : Bool) (x y : Because) → IsDenying (cond (not a) (Some (denial x)) (cond (not b) (Some (denial y)) None))
update-denies true true x y = tt
update-denies true false x y = tt
update-denies false b x y = tt

denying-update : (t : Particulars) (o : Option Entry) → IsDenying (denial_of_update t o)
denying-update t None = tt
denying-update t (Some e) = update-denies (bytes_eq e.kind t.kind) (texts_eq e.scopes t.scopes) (by_step decider.Update (Some t.kind)) (by_step decider.Scope (Some t.kind))

denying-or : (a b : Option Judgement) → IsDenying a → IsDenying b → IsDenying (option_or a b)
denying-or None b first second = second
denying-or (Some j) b first second = first

denying-live : (g : Grounds) (fresh : Bool) (t : Particulars) (o : Option Entry) → IsDenying (denial_of_live g fresh t o)
denying-live g true t o = denying-old g o
denying-live g false t o = denying-or (denial_of_update t o) (denial_of_old g o) (denying-update t o) (denying-old g o)

module _ (g : Grounds) (h : Header) (r : Registration) where
  named-allowed : (t : Particulars) (event : Event) (because : Because) → particulars g.site h r ≡ Ok t → judgement_of_particulars g h r t ≡ Accepts event because → RegistrationIsAllowed g h r event
  named-allowed t event because reads is =
      let q = pair_in h r in
      let live = fin.get g.live q in
      let attrs = resulting_attributes h.flags.fresh t live in
      let accepts : Judgement = Accepts (record { moment = g.now; act = act_of g h r t }) (allowance g t) in
      let by_room = denial_of_room g q t in
      let by_template = denial_of_template g t.kind attrs in
      let by_live = denial_of_live g h.flags.fresh t live in
      let by_rules = denial_of_new g t in
      let s = step-none (denial_of_scopes t) (option_or by_rules (option_or by_live (option_or by_template by_room))) accepts event because (denying-test (length t.scopes == 0) (by_step decider.Scope (Some t.kind))) is in
      let n = step-none by_rules (option_or by_live (option_or by_template by_room)) accepts event because (denying-map (denial_of g.rules (deed g.asker action.Register t.kind g.asker) t.scopes)) s.1 in
      let l = step-none by_live (option_or by_template by_room) accepts event because (denying-live g h.flags.fresh t live) n.1 in
      let c = step-none by_template by_room accepts event because (denying-test (is_some (template_fault g.site.templates t.kind attrs)) (by_step decider.Template (Some t.kind))) l.1 in
      let m = last-none by_room accepts event because (denying-test (is_none live && nat_le g.site.capacity (fin.len g.live)) (by_step decider.Full (Some t.kind))) c.1 in
      record {
        named = t;
        reads = reads;
        in_scope = in_scope-some t s.0;
        ruled = undenied g action.Register t.kind g.asker t.scopes n.0;
        follows = live-none g h.flags.fresh q t l.0;
        conforms = template-none g t.kind attrs c.0;
        room = room-none g q t m.0;
        is = sym (same_event _ event (allowance g t) because m.1);
      }

  allowed-registration : (event : Event) → RegistrationIsAllowed g h r event → (because : Because) × (judgement_of_registration g h r ≡ Accepts event because)
  allowed-registration event may =
      let t = may.named in
      let q = pair_in h r in
      let live = fin.get g.live q in
      let attrs = resulting_attributes h.flags.fresh t live in
      let accepts : Judgement = Accepts (record { moment = g.now; act = act_of g h r t }) (allowance g t) in
      let by_room = denial_of_room g q t in
      let by_template = denial_of_template g t.kind attrs in
      let by_live = denial_of_live g h.flags.fresh t live in
      let by_rules = denial_of_new g t in (
        allowance g t,
        ap (judgement_of_reading g h r) may.reads
            ∙ ap (λ o. unwrap_or (option_or o (option_or by_rules (option_or by_live (option_or by_template by_room)))) accepts) (some-in_scope t may.in_scope)
            ∙ ap (λ o. unwrap_or (option_or o (option_or by_live (option_or by_template by_room))) accepts) (no_denial g action.Register t.kind g.asker t.scopes may.ruled)
            ∙ ap (λ o. unwrap_or (option_or o (option_or by_template by_room)) accepts) (none-live g h.flags.fresh q t may.follows)
            ∙ ap (λ o. unwrap_or (option_or o by_room) accepts) (none-template g t.kind attrs may.conforms)
            ∙ ap (λ o. unwrap_or o accepts) (none-room g q t may.room)
            ∙ ap (λ e. Accepts e (allowance g t)) (sym may.is),
      )

-- what is not read is denied
abbrev IsRead : Result Particulars Judgement → Type 0
IsRead (Ok t) = Unit {0}
IsRead (Err j) = IsDenying (Some j)

texts-read : (site : Site) (kind url : Option (List ℕ)) (attrs : Option Attributes) (scopes : Option (List (List ℕ))) → IsRead (particulars_of_texts site kind url attrs scopes)
texts-read site (Some kind) (Some url) (Some attrs) (Some scopes) = tt
texts-read site (Some kind) (Some url) (Some attrs) None = tt
texts-read site (Some kind) (Some url) None scopes = tt
texts-read site (Some kind) None attrs scopes = tt
texts-read site None url attrs scopes = tt

read-if : (b : Bool) (x : Result Particulars Judgement) → IsRead x → IsRead (cond b (Err (denial_by decider.Registration)) x)
read-if true x is = tt
read-if false x is = is

particulars-read : (site : Site) (h : Header) (r : Registration) → IsRead (particulars site h r)
particulars-read site h r =
    read-if (length h.language == 0 || r.entry.lifetime == 0) _
    (texts-read site (result_ok (type_of r.kind)) (result_ok (url_of r.entry.url)) (result_ok (attributes_in r.attributes)) (result_ok (scopes_of r.scopes)))

denying-no : (j : Judgement) (event : Event) (because : Because) → IsDenying (Some j) → j ≡ Accepts event because → ⊥
denying-no j event because is same = subst (λ x. IsDenying (Some x)) same is

module _ (g : Grounds) (h : Header) (r : Registration) (event : Event) (because : Because) where
  read-allowed : (x : Result Particulars Judgement) → particulars g.site h r ≡ x → IsRead x → judgement_of_reading g h r x ≡ Accepts event because → RegistrationIsAllowed g h r event
  read-allowed (Ok t) reads read is = named-allowed g h r t event because reads is
  read-allowed (Err j) reads read is = absurd (denying-no j event because read is)

  registration-allowed : judgement_of_registration g h r ≡ Accepts event because → RegistrationIsAllowed g h r event
  registration-allowed is = read-allowed (particulars g.site h r) refl (particulars-read g.site h r) is

-- ---- the withdrawal of a URL

some_or_none : {A : Type 0} (o : Option A) → is_some o ≡ true → o ≡ None → ⊥
some_or_none None is none = false_true is
some_or_none (Some x) is none = none-some x (sym none)

module _ (g : Grounds) (url : List ℕ) (scopes : List (List ℕ)) where
  -- the first that may not be withdrawn is denied
  kept-none : (kept : Option Entry) → first_of (filter (is_kept g.rules g.asker) (concerned_entries g url scopes)) ≡ kept → denial_of_kept g kept ≡ None → kept ≡ None
  kept-none None is none = refl
  kept-none (Some e) is none =
      let es = concerned_entries g url scopes in
      let stays = first-has (λ x. is_kept g.rules g.asker x ≡ true) None (filter (is_kept g.rules g.asker) es) e tt (filter_passes (is_kept g.rules g.asker) es) is in
      absurd (some_or_none (denial_of g.rules (deed g.asker action.Withdraw e.kind e.owner) e.scopes) (sym (is_kept-denial g.rules g.asker e) ∙ stays)
      (no-map denial (denial_of g.rules (deed g.asker action.Withdraw e.kind e.owner) e.scopes) none))

  denying-kept : (kept : Option Entry) → IsDenying (denial_of_kept g kept)
  denying-kept None = tt
  denying-kept (Some e) = denying-map (denial_of g.rules (deed g.asker action.Withdraw e.kind e.owner) e.scopes)

  entries-allowed : (first kept : Option Entry) (event : Event) (because : Because) → first_of (concerned_entries g url scopes) ≡ first → first_of (filter (is_kept g.rules g.asker) (concerned_entries g url scopes)) ≡ kept
      → judgement_of_entries g url scopes first kept ≡ Accepts event because → UrlIsReleased g url scopes event
  entries-allowed None kept event because first_is kept_is is = cc
  entries-allowed (Some f) kept event because first_is kept_is is =
      let es = concerned_entries g url scopes in
      let k = last-none (denial_of_kept g kept) (Accepts (withdrawal_event g url scopes) (release g f)) event because (denying-kept kept) is in
      let none = kept-none kept kept_is k.0 in
      let all = filter-none (is_kept g.rules g.asker) es (first-none (filter (is_kept g.rules g.asker) es) (kept_is ∙ none)) in
      record {
        entry = f;
        concerned = first-has (Contains es) None es f tt (All-contains_itself es) first_is;
        ruled = λ e has. ruled-in g action.Withdraw e.kind e.owner e.scopes (not-kept g.rules g.asker e (All-contains (λ x. is_kept g.rules g.asker x ≡ false) es e all has));
        is = sym (same_event (withdrawal_event g url scopes) event (release g f) because k.1);
      }

  url-allowed : (event : Event) (because : Because) → judgement_of_url g url scopes ≡ Accepts event because → UrlIsReleased g url scopes event
  url-allowed event because =
      let es = concerned_entries g url scopes in
      let kept = first_of (filter (is_kept g.rules g.asker) es) in
      elim (list_any (is_of_url url) (entries_in g.live)) as (λ b. cond b (judgement_of_entries g url scopes (first_of es) kept) Ignores ≡ Accepts event because → UrlIsReleased g url scopes event) [
        | true ↦ λ is. entries-allowed (first_of es) kept event because refl refl is
        | false ↦ λ is. cc
      ]

  is_kept-ruled : (e : Entry) → IsRuledIn g action.Withdraw e.kind e.owner e.scopes → is_kept g.rules g.asker e ≡ false
  is_kept-ruled e ruled = is_kept-denial g.rules g.asker e ∙ ap (λ (o : Option Because). is_some o) (ruled-out_of g action.Withdraw e.kind e.owner e.scopes ruled)

  first-accepts : (first : Option Entry) (event : Event) → first_of (concerned_entries g url scopes) ≡ first → UrlIsReleased g url scopes event → (because : Because) × (judgement_of_entries g url scopes first None ≡ Accepts event because)
  first-accepts None event is may = absurd (nothing-in may.entry (concerned_entries g url scopes) (first-none (concerned_entries g url scopes) is) may.concerned)
  first-accepts (Some f) event is may = (release g f, ap (λ e. Accepts e (release g f)) (sym may.is))

  allowed-url : (event : Event) → UrlIsReleased g url scopes event → (because : Because) × (judgement_of_url g url scopes ≡ Accepts event because)
  allowed-url event may =
      let es = concerned_entries g url scopes in
      let keeps = is_kept g.rules g.asker in
      let free : All (λ x. keeps x ≡ false) es = All-weaker (Contains es) (λ x. keeps x ≡ false) (λ x has. is_kept-ruled x (may.ruled x has)) es (All-contains_itself es) in
      let none : first_of (filter keeps es) ≡ None = ap first_of (none-filter keeps es free) in
      let first = first-accepts (first_of es) event refl may in
      elim (list_any (is_of_url url) (entries_in g.live)) as (λ b. list_any (is_of_url url) (entries_in g.live) ≡ b → (because : Because) × (cond b (judgement_of_entries g url scopes (first_of es) (first_of (filter keeps es))) Ignores ≡ Accepts event because)) [
        | true ↦ λ t. (first.0, ap (judgement_of_entries g url scopes (first_of es)) none ∙ first.1)
        | false ↦ λ f. absurd (nothing-in may.entry es (unlisted url scopes (entries_in g.live) f) may.concerned)
      ] refl

-- ---- the withdrawal of tags

module _ (g : Grounds) (q : Pair) (tags : List Part) (scopes : List (List ℕ)) where
  tagged-allowed : (o : Option Entry) (event : Event) (because : Because) → fin.get g.live q ≡ o → judgement_of_tagged g q tags scopes o ≡ Accepts event because → TagsAreReleased g q tags scopes event
  tagged-allowed None event because found = λ is. cc
  tagged-allowed (Some e) event because found =
      let attrs = attributes_without e.attrs tags in
      let by_rules = denial_in g action.Withdraw e.kind e.owner e.scopes in
      let by_template = denial_of_template g e.kind attrs in
      let accepts : Judgement = Accepts (removal_event g q tags) (release g e) in
      elim (texts_eq e.scopes scopes) as (λ b. texts_eq e.scopes scopes ≡ b → cond b (unwrap_or (option_or by_rules by_template) accepts) (denial_by decider.Scope) ≡ Accepts event because → TagsAreReleased g q tags scopes event) [
        | true ↦ λ t is.
            let r = step-none by_rules by_template accepts event because (denying-map (denial_of g.rules (deed g.asker action.Withdraw e.kind e.owner) e.scopes)) is in
            let c = last-none by_template accepts event because (denying-test (is_some (template_fault g.site.templates e.kind attrs)) (by_step decider.Template (Some e.kind))) r.1 in
            record {
              entry = e;
              live = found;
              same = texts_same e.scopes scopes t;
              ruled = undenied g action.Withdraw e.kind e.owner e.scopes r.0;
              conforms = template-none g e.kind attrs c.0;
              is = sym (same_event (removal_event g q tags) event (release g e) because c.1);
            }
        | false ↦ λ t is. cc
      ] refl

  allowed-tagged : (event : Event) → TagsAreReleased g q tags scopes event → (because : Because) × (judgement_of_removal g q tags scopes ≡ Accepts event because)
  allowed-tagged event may =
      let e = may.entry in
      let attrs = attributes_without e.attrs tags in
      let by_template = denial_of_template g e.kind attrs in
      let by_rules = denial_in g action.Withdraw e.kind e.owner e.scopes in
      let accepts : Judgement = Accepts (removal_event g q tags) (release g e) in (
        release g e,
        ap (judgement_of_tagged g q tags scopes) may.live
            ∙ ap (λ b. cond b (unwrap_or (option_or by_rules by_template) accepts) (denial_by decider.Scope)) (ap (λ ss. texts_eq ss scopes) may.same ∙ texts_itself scopes)
            ∙ ap (λ o. unwrap_or (option_or o by_template) accepts) (no_denial g action.Withdraw e.kind e.owner e.scopes may.ruled)
            ∙ ap (λ o. unwrap_or o accepts) (none-template g e.kind attrs may.conforms)
            ∙ ap (λ x. Accepts x (release g e)) (sym may.is),
      )

-- ---- withdrawals of either kind

of_ok : {A E : Type 0} (r : Result A E) (x : A) → result_ok r ≡ Some x → r ≡ Ok x
of_ok (Ok y) x h = ap Ok (same_Some y x h)
of_ok (Err e) x h = absurd (none-some x h)

tags-allowed : (g : Grounds) (q : Pair) (tags : List Part) (scopes : List (List ℕ)) (event : Event) (because : Because) → judgement_of_tags g q tags scopes ≡ Accepts event because → IsReleased g q tags scopes event
tags-allowed g q [] scopes event because is = url-allowed g q.0 scopes event because is
tags-allowed g q (p ∷ ps) scopes event because is = tagged-allowed g q (p ∷ ps) scopes (fin.get g.live q) event because refl is

allowed-tags : (g : Grounds) (q : Pair) (tags : List Part) (scopes : List (List ℕ)) (event : Event) → IsReleased g q tags scopes event → (because : Because) × (judgement_of_tags g q tags scopes ≡ Accepts event because)
allowed-tags g q [] scopes event may = allowed-url g q.0 scopes event may
allowed-tags g q (p ∷ ps) scopes event may = allowed-tagged g q (p ∷ ps) scopes event may

scopes-allowed : (g : Grounds) (q : Pair) (tags : List Part) (scopes : List (List ℕ)) (event : Event) (because : Because) → judgement_in_scopes g q tags scopes ≡ Accepts event because
    → (0 < length scopes) × IsReleased g q tags scopes event
scopes-allowed g q tags [] event because is = cc
scopes-allowed g q tags (s ∷ ss) event because is = (omega arith, tags-allowed g q tags (s ∷ ss) event because is)

allowed-scopes : (g : Grounds) (q : Pair) (tags : List Part) (scopes : List (List ℕ)) (event : Event) → 0 < length scopes → IsReleased g q tags scopes event
    → (because : Because) × (judgement_in_scopes g q tags scopes ≡ Accepts event because)
allowed-scopes g q tags [] event some may = absurd (omega arith)
allowed-scopes g q tags (s ∷ ss) event some may = allowed-tags g q tags (s ∷ ss) event may

module _ (g : Grounds) (h : Header) (w : Withdrawal) (event : Event) where
  texts-allowed : (because : Because) (url : Option (List ℕ)) (tags : Option (List Part)) (scopes : Option (List (List ℕ))) → result_ok (url_of w.entry.url) ≡ url → result_ok (tags_of w.tags) ≡ tags → result_ok (scopes_of w.scopes) ≡ scopes
      → judgement_of_texts g (key_of h.language) url tags scopes ≡ Accepts event because → WithdrawalIsAllowed g h w event
  texts-allowed because (Some url) (Some tags) (Some scopes) u t s is =
      let k = scopes-allowed g (url, key_of h.language) tags (common_keys g.site.scopes scopes) event because is in
      record {
        url = url;
        tags = tags;
        scopes = scopes;
        reads_url = of_ok (url_of w.entry.url) url u;
        reads_tags = of_ok (tags_of w.tags) tags t;
        reads_scopes = of_ok (scopes_of w.scopes) scopes s;
        in_scope = k.0;
        released = k.1;
      }
  texts-allowed because (Some url) (Some tags) None u t s is = cc
  texts-allowed because (Some url) None scopes u t s is = cc
  texts-allowed because None tags scopes u t s is = cc

  withdrawal-allowed : (because : Because) → judgement_of_withdrawal g h w ≡ Accepts event because → WithdrawalIsAllowed g h w event
  withdrawal-allowed because is = texts-allowed because (result_ok (url_of w.entry.url)) (result_ok (tags_of w.tags)) (result_ok (scopes_of w.scopes)) refl refl refl is

  allowed-withdrawal : WithdrawalIsAllowed g h w event → (because : Because) × (judgement_of_withdrawal g h w ≡ Accepts event because)
  allowed-withdrawal may =
      let k = allowed-scopes g (may.url, key_of h.language) may.tags (common_keys g.site.scopes may.scopes) event may.in_scope may.released in (
        k.0,
        ap (λ x. judgement_of_texts g (key_of h.language) (result_ok x) (result_ok (tags_of w.tags)) (result_ok (scopes_of w.scopes))) may.reads_url
            ∙ ap (λ x. judgement_of_texts g (key_of h.language) (Some may.url) (result_ok x) (result_ok (scopes_of w.scopes))) may.reads_tags
            ∙ ap (λ x. judgement_of_texts g (key_of h.language) (Some may.url) (Some may.tags) (result_ok x)) may.reads_scopes
            ∙ k.1,
      )

-- ---- messages

pub accepted_is_allowed : (g : Grounds) (sent : Message) (event : Event) (because : Because) → judgement g sent ≡ Accepts event because → IsAllowedOn g sent event
accepted_is_allowed g (message.Registration h r) event because is = registration-allowed g h r event because is
accepted_is_allowed g (message.Withdrawal h w) event because is = withdrawal-allowed g h w event because is
accepted_is_allowed g (message.ServiceRequest h q) event because is = cc
accepted_is_allowed g (message.ServiceReply h r) event because is = cc
accepted_is_allowed g (message.Acknowledgement h code) event because is = cc
accepted_is_allowed g (message.AttributeRequest h q) event because is = cc
accepted_is_allowed g (message.AttributeReply h r) event because is = cc
accepted_is_allowed g (message.DirectoryAdvert h a) event because is = cc
accepted_is_allowed g (message.TypeRequest h q) event because is = cc
accepted_is_allowed g (message.TypeReply h r) event because is = cc
accepted_is_allowed g (message.ServiceAdvert h a) event because is = cc

pub allowed_is_accepted : (g : Grounds) (sent : Message) (event : Event) → IsAllowedOn g sent event → (because : Because) × (judgement g sent ≡ Accepts event because)
allowed_is_accepted g (message.Registration h r) event may = allowed-registration g h r event may
allowed_is_accepted g (message.Withdrawal h w) event may = allowed-withdrawal g h w event may
allowed_is_accepted g (message.ServiceRequest h q) event may = absurd may
allowed_is_accepted g (message.ServiceReply h r) event may = absurd may
allowed_is_accepted g (message.Acknowledgement h code) event may = absurd may
allowed_is_accepted g (message.AttributeRequest h q) event may = absurd may
allowed_is_accepted g (message.AttributeReply h r) event may = absurd may
allowed_is_accepted g (message.DirectoryAdvert h a) event may = absurd may
allowed_is_accepted g (message.TypeRequest h q) event may = absurd may
allowed_is_accepted g (message.TypeReply h r) event may = absurd may
allowed_is_accepted g (message.ServiceAdvert h a) event may = absurd may
