use Rattle.std.proofs.Common.{◌≡◌, ℕ, ◌<◌, List, [], ◌∷◌, None, Some, length, refl, sym, ap, subst, ◌∙◌, arith}
use Rattle.std.specs.Prelude.{slice_get, unwrap_or}
use Rattle.std.specs.Option.{option_map}
use Rattle.std.proofs.lemmas.Result.{IfOk-weaker}
use Rattle.slp_messages.specs.Views.{header_in, registration_in}
use Rattle.access_rules.specs.declared.rule.Action.TheVariants.{Register}
use Rattle.registry_core.specs.declared.entry.Entry.{Entry}
use Rattle.access_rules.specs.Deciding.{SiteRules, deed}
use Rattle.directory_judge.specs.Judgements.{because_of, by_rule, by_step, denial_of, denial, because_of_entry, judgement_in, judgement_of_particulars, ruling_in}
use Rattle.directory_judge.specs.declared.reason.Because.{Because}
use Rattle.directory_judge.specs.declared.reason.Finding.{Finding}
use Rattle.directory_judge.specs.declared.reason.Decider.TheVariants as decider
use Rattle.directory_judge.proofs.Rulings.{no-scopes, ruling-allowed, ruling-denied, ruling-first, ruling-none, ruling_on-some}
use Rattle.directory_judge.proofs.Steps.{denied-as, judgement-denied, judgement-unsupported, IsJudgement-named}
use Rattle.directory_judge.specs.NamedEntries.{IsJudgedNamed}
use Rattle.directory_judge.proofs.grounds.Grounds.judge_particulars.Goals as goal

pub returns-in-None : goal.returns-in-None
returns-in-None g c =
    let on = c.args.self.now in
    let h = header_in c.args.header.now in
    let r = registration_in c.args.registration.now in
    let t = c.args.particulars in
    let e = c.in_ok-named.named in
    let is = c.in_ok-named.ensures in
    let because = by_step decider.Scope (Some e.kind) in
    let none : length e.scopes ≡ 0 = no-scopes e.scopes (ruling-none on.rules (deed on.asker Register e.kind e.owner) e.scopes (sym c.rule.ensures ∙ ap (option_map ruling_in) c.in-None.is)).1 in
    let unsupported : judgement_of_particulars on h r t ≡ denial because =
    judgement-unsupported on h r t (sym (ap (λ (x : Entry). length x.scopes) is) ∙ none) ∙ ap (λ (x : Entry). denial (by_step decider.Scope (Some x.kind))) (sym is) in
    denied-as c.denied-told.result c.deny.result because on.live _ c.denied-told.ensures c.deny.ensures.because unsupported

first_scope : (scopes : List (List ℕ)) → 0 < length scopes → slice_get scopes 0 ≡ Some (unwrap_or (slice_get scopes 0) [])
first_scope [] h = absurd (omega (arith, h))
first_scope (s ∷ ss) h = refl

-- who allowed the first scope decided
founding-first : (rules : SiteRules) (asker : ℕ) (e : Entry) (f : Finding) → 0 < length e.scopes → because_of f ≡ by_rule rules (deed asker Register e.kind e.owner) (unwrap_or (slice_get e.scopes 0) [])
    → because_of_entry f.decider e ≡ by_rule rules (deed asker Register e.kind e.owner) (unwrap_or (slice_get e.scopes 0) [])
founding-first rules asker e f some first =
    let decides = ap (λ (b : Because). b.decider) first in
    λ i. record { decider = decides i; kind = Some e.kind; scope = first_scope e.scopes some i }

pub returns-in-Some : goal.returns-in-Some
returns-in-Some g c =
    let on = c.args.self.now in
    let h = header_in c.args.header.now in
    let r = registration_in c.args.registration.now in
    let t = c.args.particulars in
    let e = c.in_ok-named.named in
    let b = because_of_entry c.in-Some.finding.decider e in
    let is = c.in_ok-named.ensures in
    let ruled = c.in-Some.ensures in
    let there : 0 < length e.scopes = ruling_on-some on.rules (deed on.asker Register e.kind e.owner) e.scopes (ruling_in c.in-Some.finding) (sym ruled) in
    let some : 0 < length t.scopes = subst (λ (x : Entry). 0 < length x.scopes) is there in
    let allowed : denial_of on.rules (deed on.asker Register e.kind e.owner) e.scopes ≡ None = ruling-allowed on.rules (deed on.asker Register e.kind e.owner) e.scopes c.in-Some.finding (sym ruled) c.if-finding.true in
    let first : b ≡ by_rule on.rules (deed on.asker Register e.kind e.owner) (unwrap_or (slice_get e.scopes 0) []) =
    founding-first on.rules on.asker e c.in-Some.finding there (ruling-first on.rules (deed on.asker Register e.kind e.owner) e.scopes c.in-Some.finding (sym ruled) allowed) in
    IfOk-weaker c.judge_named.result (λ j. IsJudgedNamed on h.flags.fresh e b (judgement_in j)) _
    (λ j. IsJudgement-named on h r t some e b (judgement_in j) (sym (ap (λ (x : Entry). denial_of on.rules (deed on.asker Register x.kind x.owner) x.scopes) is) ∙ allowed) c.requires.url is
    (first ∙ ap (λ (x : Entry). by_rule on.rules (deed on.asker Register x.kind x.owner) (unwrap_or (slice_get x.scopes 0) [])) is))
    c.judge_named.ensures

pub returns-in-Some-2 : goal.returns-in-Some-2
returns-in-Some-2 g c =
    let on = c.args.self.now in
    let h = header_in c.args.header.now in
    let r = registration_in c.args.registration.now in
    let t = c.args.particulars in
    let e = c.in_ok-named.named in
    let is = c.in_ok-named.ensures in
    let ruled = c.in-Some.ensures in
    let there : 0 < length e.scopes = ruling_on-some on.rules (deed on.asker Register e.kind e.owner) e.scopes (ruling_in c.in-Some.finding) (sym ruled) in
    let denies : denial_of on.rules (deed on.asker Register e.kind e.owner) e.scopes ≡ Some (because_of c.in-Some.finding) = ruling-denied on.rules (deed on.asker Register e.kind e.owner) e.scopes c.in-Some.finding (sym ruled) c.if-finding.false in
    let judged_so : judgement_of_particulars on h r t ≡ denial (because_of c.in-Some.finding) =
    judgement-denied on h r t (subst (λ (x : Entry). 0 < length x.scopes) is there) (because_of c.in-Some.finding) (sym (ap (λ (x : Entry). denial_of on.rules (deed on.asker Register x.kind x.owner) x.scopes) is) ∙ denies) in
    denied-as c.denied-told-in-Some-2.result c.in-Some.finding _ on.live _ c.denied-told-in-Some-2.ensures refl judged_so
