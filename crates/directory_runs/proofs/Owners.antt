-- What another registered is changed and seen only where some rule is not about owners.
use Rattle.std.proofs.Common.{◌≡◌, ℕ, Bool, true, false, cond, ◌==◌, List, [], ◌∷◌, Option, Some, None, map, refl, sym, ap, subst, ◌∙◌, eqb-true}
use Rattle.std.specs.Prelude.{Contains, IsTrue, unwrap_or}
use Rattle.std.specs.List.{list_all, AllByRecursion}
use Rattle.std.specs.Option.{option_or}
use Rattle.std.specs.FinMap as fin
use Rattle.std.specs.Ordering.{is_eq}
use Rattle.std.proofs.lemmas.Option.{none-some, same_Some}
use Rattle.slp_text.proofs.KeySets.{here, there}
use Rattle.slp_tags.specs.Tags.{Part}
use Rattle.slp_messages.specs.declared.header.Header.{Header}
use Rattle.slp_messages.specs.declared.message.Message.{Message}
use Rattle.slp_messages.specs.declared.message.Message.TheVariants as message
use Rattle.slp_messages.specs.declared.message.Registration.{Registration}
use Rattle.access_rules.specs.Deciding.{SiteRules, deciding, deed, is_owners, is_without_owners, rules_in}
use Rattle.access_rules.specs.declared.rule.Action.{Action}
use Rattle.access_rules.specs.declared.rule.Action.TheVariants as action
use Rattle.access_rules.proofs.Owners.{owners-alone, whoever-registered}
use Rattle.registry_core.specs.Entries.{Entries, Pair, pair_cmp, pair_of, is_registered}
use Rattle.registry_core.specs.declared.entry.Entry.{Entry}
use Rattle.registry_core.proofs.Lists.{pair_eq-true}
use Rattle.directory_judge.specs.History.{Act, Putting, Setting, Put, Set, Remove, Withdraw, Sweep, Reload, Event, History, last_that}
use Rattle.directory_judge.specs.Judgements.{Grounds, entries_in, pair_in, putting_of, setting_of}
use Rattle.directory_judge.specs.Meaning.{Live, rules, rules_of}
use Rattle.directory_judge.specs.declared.particulars.Particulars.{Particulars}
use Rattle.directory_state.proofs.OpenEntries.{Contains-filter}
use Rattle.directory_questions.specs.Calls.{Opening, Standpoint}
use Rattle.directory_questions.specs.Items.{IsOpenNow}
use Rattle.directory_questions.specs.Verdicts.{IsLegal, grounds}
use Rattle.directory_runs.specs.Allowing.{IsAllowed, IsAllowedOn, IsReleased, IsRuledIn, MayFollow, RegistrationIsAllowed, TagsAreReleased, UrlIsReleased}
use Rattle.directory_runs.proofs.Standing.{first_of_scopes, has_scopes}
use Rattle.directory_runs.specs.Owners.{action_of_act, changes, BringsNoOwners, IsForOwners, IsWithoutOwners}

pub false-true : {A : Type 0} (b : Bool) → b ≡ false → b ≡ true → A
false-true true f t = absurd cc
false-true false f t = absurd cc

-- what rules of owners allow is the asker's own
own : (rs : SiteRules) (asker : ℕ) (a : Action) (kind : List ℕ) (owner : ℕ) (scope : List ℕ) → list_all (is_owners a) (rules_in rs) ≡ true → IsTrue (deciding rs (deed asker a kind owner) scope).allow → asker ≡ owner
own rs asker a kind owner scope owners allowed =
    elim (asker == owner) as (λ b. (asker == owner) ≡ b → asker ≡ owner) [
      | true ↦ λ t. eqb-true asker owner t
      | false ↦ λ f. false-true (deciding rs (deed asker a kind owner) scope).allow (owners-alone rs (deed asker a kind owner) scope owners f) allowed
    ] refl

-- what is at a pair is among the entries
found-in : (ps : List (Pair × Entry)) (q : Pair) (e : Entry) → fin.find pair_cmp q ps ≡ Some e → Contains (map (λ p. p.1) ps) e
found-in [] q e = λ h. absurd (none-some e h)
found-in (p ∷ ps) q e =
    elim (is_eq (pair_cmp q p.0)) as (λ b. cond b (Some p.1) (fin.find pair_cmp q ps) ≡ Some e → Contains (p.1 ∷ map (λ x. x.1) ps) e) [
      | true ↦ λ h. subst (Contains (p.1 ∷ map (λ x. x.1) ps)) (same_Some p.1 e h) (here p.1 (map (λ x. x.1) ps))
      | false ↦ λ h. there p.1 e (map (λ x. x.1) ps) (found-in ps q e h)
    ]

entries-have : (m : Entries) (q : Pair) (e : Entry) → fin.get m q ≡ Some e → Contains (entries_in m) e
entries-have m q e h = found-in (fin.entries m) q e (sym (fin.get-entries m q) ∙ h)

module _ (g : Grounds) (e : Entry) (scope : List ℕ) (stands : fin.get g.live (pair_of e) ≡ Some e) (has : Contains e.scopes scope) where
  -- it is the entry that was asked about
  own-entry : (a : Action) (q : Pair) (x : Entry) → q ≡ pair_of e → fin.get g.live q ≡ Some x → IsRuledIn g a x.kind x.owner x.scopes → list_all (is_owners a) (rules_in g.rules) ≡ true → g.asker ≡ e.owner
  own-entry a q x same found ruled owners =
      let is : x ≡ e = same_Some x e (sym found ∙ ap (λ (p : Pair). fin.get g.live p) same ∙ stands) in
      let mine : IsRuledIn g a e.kind e.owner e.scopes = subst (λ (y : Entry). IsRuledIn g a y.kind y.owner y.scopes) is ruled in
      own g.rules g.asker a e.kind e.owner scope owners (mine scope has)

  own-registration : (q : Pair) (named : Particulars) (fresh : Bool) (p : Putting) (s : Setting) → ◌≡◌ {A = Pair} (p.url, p.language) q → ◌≡◌ {A = Pair} (s.url, s.language) q → MayFollow fresh g q named
      → changes (cond fresh (Put p) (Set s)) e ≡ true → list_all (is_owners (action_of_act (cond fresh (Put p) (Set s)))) (rules_in g.rules) ≡ true → g.asker ≡ e.owner
  own-registration q named true p s put set may it owners =
      let same : q ≡ pair_of e = sym put ∙ pair_eq-true (p.url, p.language) (pair_of e) it in
      own-entry action.Register q e same (ap (λ (x : Pair). fin.get g.live x) same ∙ stands) (may e (ap (λ (x : Pair). fin.get g.live x) same ∙ stands)) owners
  own-registration q named false p s put set may it owners =
      let same : q ≡ pair_of e = sym set ∙ pair_eq-true (s.url, s.language) (pair_of e) it in
      own-entry action.Register q may.entry same may.live may.ruled owners

  own-registered : (h : Header) (r : Registration) (event : Event) → RegistrationIsAllowed g h r event → changes event.act e ≡ true → list_all (is_owners (action_of_act event.act)) (rules_in g.rules) ≡ true → g.asker ≡ e.owner
  own-registered h r event may =
      subst (λ (c : Event). changes c.act e ≡ true → list_all (is_owners (action_of_act c.act)) (rules_in g.rules) ≡ true → g.asker ≡ e.owner) (sym may.is)
      (own-registration (pair_in h r) may.named h.flags.fresh (putting_of g h r may.named) (setting_of h r may.named) refl refl may.follows)

  own-tags : (q : Pair) (tags : List Part) (scopes : List (List ℕ)) (event : Event) → TagsAreReleased g q tags scopes event → changes event.act e ≡ true → list_all (is_owners (action_of_act event.act)) (rules_in g.rules) ≡ true → g.asker ≡ e.owner
  own-tags q tags scopes event may =
      subst (λ (c : Event). changes c.act e ≡ true → list_all (is_owners (action_of_act c.act)) (rules_in g.rules) ≡ true → g.asker ≡ e.owner) (sym may.is)
      (λ it owners. own-entry action.Withdraw q may.entry (pair_eq-true (q.0, q.1) (pair_of e) it) may.live may.ruled owners)

  own-url : (url : List ℕ) (scopes : List (List ℕ)) (event : Event) → UrlIsReleased g url scopes event → changes event.act e ≡ true → list_all (is_owners (action_of_act event.act)) (rules_in g.rules) ≡ true → g.asker ≡ e.owner
  own-url url scopes event may =
      subst (λ (c : Event). changes c.act e ≡ true → list_all (is_owners (action_of_act c.act)) (rules_in g.rules) ≡ true → g.asker ≡ e.owner) (sym may.is)
      (λ it owners. own g.rules g.asker action.Withdraw e.kind e.owner scope owners (may.ruled e (Contains-filter (is_registered url scopes) (entries_in g.live) e (entries-have g.live (pair_of e) e stands) it) scope has))

  own-released : (q : Pair) (tags : List Part) (scopes : List (List ℕ)) (event : Event) → IsReleased g q tags scopes event → changes event.act e ≡ true → list_all (is_owners (action_of_act event.act)) (rules_in g.rules) ≡ true → g.asker ≡ e.owner
  own-released q [] scopes event may = own-url q.0 scopes event may
  own-released q (p ∷ ps) scopes event may = own-tags q (p ∷ ps) scopes event may

  own-change : (sent : Message) (event : Event) → IsAllowedOn g sent event → changes event.act e ≡ true → list_all (is_owners (action_of_act event.act)) (rules_in g.rules) ≡ true → g.asker ≡ e.owner
  own-change (message.Registration h r) event may = own-registered h r event may
  own-change (message.Withdrawal h w) event may = own-released _ may.tags _ event may.released
  own-change (message.ServiceRequest h q) event may = absurd may
  own-change (message.ServiceReply h r) event may = absurd may
  own-change (message.Acknowledgement h code) event may = absurd may
  own-change (message.AttributeRequest h q) event may = absurd may
  own-change (message.AttributeReply h r) event may = absurd may
  own-change (message.DirectoryAdvert h a) event may = absurd may
  own-change (message.TypeRequest h q) event may = absurd may
  own-change (message.TypeReply h r) event may = absurd may
  own-change (message.ServiceAdvert h a) event may = absurd may

pub not-changed : (from : Standpoint) (sent : Message) (event : Event) (e : Entry) → IsLegal from.opening from.history → IsAllowed from sent event → Live from.history from.moment e
    → changes event.act e ≡ true → IsForOwners from (action_of_act event.act) → from.asker ≡ e.owner
not-changed from sent event e legal may live it owners =
    let s = first_of_scopes e.scopes (has_scopes from.opening from.history e legal live.stands) in
    own-change (grounds from may.live) e s.0 ((may.are_live (pair_of e) e).1 (refl, live)) s.1 sent event may.allowed it owners

pub not-seen : (from : Standpoint) (asked : List (List ℕ)) (e : Entry) → IsForOwners from action.See → IsOpenNow from asked e → from.asker ≡ e.owner
not-seen from asked e owners opened =
    let x = opened.entry in
    own (rules from.opening.rules from.history) from.asker action.See x.kind x.owner opened.open_to.scope owners opened.open_to.allowed ∙ sym (ap (λ (y : Entry). y.owner) opened.seen)

-- ---- without owners

brought : (a : Act) (moment : ℕ) (rs : SiteRules) → BringsNoOwners a → rules_of (record { moment = moment; act = a }) ≡ Some rs → is_without_owners rs ≡ true
brought (Reload r) moment rs none is = subst (λ (x : SiteRules). is_without_owners x ≡ true) (same_Some r rs is) none
brought (Put p) moment rs none is = absurd (none-some rs is)
brought (Set s) moment rs none is = absurd (none-some rs is)
brought (Remove r) moment rs none is = absurd (none-some rs is)
brought (Withdraw w) moment rs none is = absurd (none-some rs is)
brought Sweep moment rs none is = absurd (none-some rs is)

last-brought : (now : Option SiteRules) (before : Option SiteRules) → ((rs : SiteRules) → now ≡ Some rs → is_without_owners rs ≡ true) → (opening : SiteRules) → is_without_owners (unwrap_or before opening) ≡ true
    → is_without_owners (unwrap_or (option_or now before) opening) ≡ true
last-brought None before each opening rest = rest
last-brought (Some rs) before each opening rest = each rs refl

rules-plain : (opening : SiteRules) (h : History) → is_without_owners opening ≡ true → AllByRecursion (λ c. BringsNoOwners c.act) h → is_without_owners (rules opening h) ≡ true
rules-plain opening [] plain none = plain
rules-plain opening (c ∷ h) plain none = last-brought (rules_of c) (last_that rules_of h) (λ rs. brought c.act c.moment rs none.0) opening (rules-plain opening h plain none.1)

pub no-registrant : (o : Opening) (h : History) (asker : ℕ) (a : Action) (kind : List ℕ) (one other : ℕ) (scope : List ℕ) → IsWithoutOwners o h
    → deciding (rules o.rules h) (deed asker a kind one) scope ≡ deciding (rules o.rules h) (deed asker a kind other) scope
no-registrant o h asker a kind one other scope plain = whoever-registered (rules o.rules h) asker a kind one other scope (rules-plain o.rules h plain.0 plain.1)
