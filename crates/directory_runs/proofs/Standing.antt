-- What stands has a scope.
use Rattle.std.proofs.Common.{◌≡◌, ℕ, ◌<◌, Bool, true, false, cond, List, [], ◌∷◌, length, Option, Some, None, sym, subst, arith}
use Rattle.std.specs.Prelude.{Contains}
use Rattle.std.specs.Option.{option_or}
use Rattle.std.specs.List.{list_any}
use Rattle.std.proofs.lemmas.Option.{none-some, same_Some}
use Rattle.slp_text.proofs.KeySets.{here}
use Rattle.slp_tags.specs.Tags.{Part}
use Rattle.slp_messages.specs.declared.header.Header.{Header}
use Rattle.slp_messages.specs.declared.message.Message.{Message}
use Rattle.slp_messages.specs.declared.message.Message.TheVariants as message
use Rattle.slp_messages.specs.declared.message.Registration.{Registration}
use Rattle.registry_core.specs.Entries.{Pair, pair_eq, pair_of}
use Rattle.registry_core.specs.declared.entry.Entry.{Entry}
use Rattle.directory_judge.specs.History.{Act, Putting, Put, Set, Remove, Withdraw, Sweep, Reload, Event, History, last_that}
use Rattle.directory_judge.specs.Judgements.{Grounds, putting_of, setting_of}
use Rattle.directory_judge.specs.Meaning.{Stands, if_true, put_of, since_put, unless_withdrawn, withdraws}
use Rattle.directory_questions.specs.Calls.{Opening, standpoint}
use Rattle.directory_questions.specs.Verdicts.{IsAccepted, IsGrounded, IsLegal, grounds}
use Rattle.directory_runs.specs.Allowing.{IsAllowedOn, IsReleased, RegistrationIsAllowed}
use Rattle.directory_runs.proofs.Allowing.{accepted_is_allowed}

-- a registration names a scope
abbrev NamesScope : Act → Type 0
NamesScope (Put p) = 0 < length p.scopes
NamesScope (Set s) = Unit {0}
NamesScope (Remove r) = Unit {0}
NamesScope (Withdraw w) = Unit {0}
NamesScope Sweep = Unit {0}
NamesScope (Reload rs) = Unit {0}

-- ---- what is allowed names one

fresh_or_not : (fresh : Bool) (g : Grounds) (h : Header) (r : Registration) (event : Event) (may : RegistrationIsAllowed g h r event) → NamesScope (cond fresh (Put (putting_of g h r may.named)) (Set (setting_of h r may.named)))
fresh_or_not true g h r event may = may.in_scope
fresh_or_not false g h r event may = tt

module _ (g : Grounds) where
  released : (q : Pair) (tags : List Part) (scopes : List (List ℕ)) (event : Event) → IsReleased g q tags scopes event → NamesScope event.act
  released q [] scopes event may = subst (λ (c : Event). NamesScope c.act) (sym may.is) tt
  released q (p ∷ ps) scopes event may = subst (λ (c : Event). NamesScope c.act) (sym may.is) tt

  allowed : (sent : Message) (event : Event) → IsAllowedOn g sent event → NamesScope event.act
  allowed (message.Registration h r) event may = subst (λ (c : Event). NamesScope c.act) (sym may.is) (fresh_or_not h.flags.fresh g h r event may)
  allowed (message.Withdrawal h w) event may = released _ may.tags _ event may.released
  allowed (message.ServiceRequest h q) event may = absurd may
  allowed (message.ServiceReply h r) event may = absurd may
  allowed (message.Acknowledgement h code) event may = absurd may
  allowed (message.AttributeRequest h q) event may = absurd may
  allowed (message.AttributeReply h r) event may = absurd may
  allowed (message.DirectoryAdvert h a) event may = absurd may
  allowed (message.TypeRequest h q) event may = absurd may
  allowed (message.TypeReply h r) event may = absurd may
  allowed (message.ServiceAdvert h a) event may = absurd may

accepted : (o : Opening) (h : History) (c : Event) → IsAccepted o h c → NamesScope c.act
accepted o h c is =
    let g = grounds (standpoint o h is.moment is.asker) is.verdict.live in
    allowed g is.sent c (accepted_is_allowed g is.sent c is.because (sym is.verdict.is))

-- ---- what is registered last

at_put : (o : Opening) (h : History) (moment : ℕ) (act : Act) (q : Pair) (p : Putting) → IsGrounded o h (record { moment = moment; act = act }) → put_of q (record { moment = moment; act = act }) ≡ Some p → 0 < length p.scopes
at_put o h moment (Put x) q p grounded is =
    let names : 0 < length x.scopes = accepted o h (record { moment = moment; act = Put x }) grounded in
    elim (pair_eq (x.url, x.language) q) as (λ b. if_true b (Some x) ≡ Some p → 0 < length p.scopes) [
      | true ↦ λ same. subst (λ (y : Putting). 0 < length y.scopes) (same_Some x p same) names
      | false ↦ λ none. absurd (none-some p none)
    ] is
at_put o h moment (Set s) q p grounded is = absurd (none-some p is)
at_put o h moment (Remove r) q p grounded is = absurd (none-some p is)
at_put o h moment (Withdraw w) q p grounded is = absurd (none-some p is)
at_put o h moment Sweep q p grounded is = absurd (none-some p is)
at_put o h moment (Reload rs) q p grounded is = absurd (none-some p is)

this_or_before : (this before : Option Putting) (p : Putting) → (this ≡ Some p → 0 < length p.scopes) → (before ≡ Some p → 0 < length p.scopes) → option_or this before ≡ Some p → 0 < length p.scopes
this_or_before None before p now earlier is = earlier is
this_or_before (Some x) before p now earlier is = now is

put_last : (o : Opening) (h : History) (q : Pair) (p : Putting) → IsLegal o h → last_that (put_of q) h ≡ Some p → 0 < length p.scopes
put_last o [] q p legal is = absurd (none-some p is)
put_last o (c ∷ h) q p legal is = this_or_before (put_of q c) (last_that (put_of q) h) p (at_put o h c.moment c.act q p legal.1) (put_last o h q p legal.2) is

not_withdrawn : (h : History) (put : Option Putting) (p : Putting) → unless_withdrawn h put ≡ Some p → put ≡ Some p
not_withdrawn h None p = λ is. is
not_withdrawn h (Some x) p = elim (list_any (withdraws x) h) as (λ b. cond b None (Some x) ≡ Some p → Some x ≡ Some p) [
  | true ↦ λ none. absurd (none-some p none)
  | false ↦ λ same. same
]

-- ---- what stands

pub has_scopes : (o : Opening) (h : History) (e : Entry) → IsLegal o h → Stands h e → 0 < length e.scopes
has_scopes o h e legal stands =
    let q = pair_of e in
    subst (λ (scopes : List (List ℕ)). 0 < length scopes) (sym stands.scopes) (put_last o h q stands.by legal (not_withdrawn (since_put q h) (last_that (put_of q) h) stands.by stands.founded))

pub first_of_scopes : (scopes : List (List ℕ)) → 0 < length scopes → (scope : List ℕ) × Contains scopes scope
first_of_scopes [] some = absurd (omega (arith, some))
first_of_scopes (s ∷ scopes) some = (s, here s scopes)
