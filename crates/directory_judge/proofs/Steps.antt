-- What each step of judging comes to.
use Rattle.std.proofs.Common.{◌≡◌, ◌≢◌, ℕ, ◌+◌, ◌<◌, Bool, true, false, cond, List, [], ◌∷◌, length, Option, Some, None, Result, Ok, Err, refl, sym, ap, ap₂, subst, ◌∙◌, arith}
use Rattle.std.specs.Prelude.{filter, is_none, unwrap_or, ◌==◌, IfOk}
use Rattle.std.specs.List.{list_any}
use Rattle.std.specs.Option.{option_map, option_or}
use Rattle.std.specs.FinMap as fin
use Rattle.std.proofs.lemmas.Bool.Decides.{nat_tests}
use Rattle.std.proofs.lemmas.Option.{none-some, same_Some}
use Rattle.slp_text.specs.Keys.{key_of}
use Rattle.slp_tags.specs.Tags.{Part}
use Rattle.access_rules.specs.Deciding.{deed}
use Rattle.attr_list.specs.Lists.{Attributes}
use Rattle.attr_list.specs.Maps.{attributes_without}
use Rattle.srv_template.specs.Conformity.{template_fault}
use Rattle.slp_messages.specs.declared.header.Header.{Header}
use Rattle.slp_messages.specs.declared.message.Registration.{Registration}
use Rattle.access_rules.specs.declared.rule.Action.TheVariants.{Register, Withdraw}
use Rattle.registry_core.specs.declared.entry.Entry.{Entry}
use Rattle.registry_core.specs.Entries.{Entries, Pair, is_of_url}
use Rattle.slp_text.specs.Words.{texts_eq}
use Rattle.directory_judge.proofs.Rulings.{not-false, not-true}
use Rattle.registry_core.proofs.SameTexts.{texts_itself}
use Rattle.directory_judge.specs.History.{Act, Put, Set}
use Rattle.directory_judge.specs.Judgements.{Grounds, Judgement, Accepts, Ignores, act_of, judgement_in_scopes, judgement_of_removal, judgement_of_tagged, judgement_of_tags, judgement_of_texts, entries_in, first_of, is_kept, concerned_entries, judgement_in, judgement_of_entries, judgement_of_url, because_of, by_step, code_by, denial, denial_by, denial_in, denial_of, denial_of_live, denial_of_new, denial_of_room, denial_of_template, pair_in, putting_of, release, removal_event, resulting_attributes, setting_of, allowance, judgement_of_particulars, IsJudgement}
use Rattle.directory_judge.specs.NamedEntries.{judgement_of_named, particulars_named, IsActOf, IsJudgedNamed}
use Rattle.directory_judge.specs.declared.reason.Because.{Because}
use Rattle.directory_judge.specs.declared.reason.Decider.TheVariants as decider
use Rattle.directory_judge.specs.declared.reason.Finding.{Finding}
use Rattle.directory_judge.specs.declared.copies.Judged.{Judged}
use Rattle.directory_judge.specs.declared.copies.Judged.TheVariants as judged
use Rattle.directory_judge.specs.declared.judgement.Decision.{Decision}
use Rattle.directory_judge.specs.declared.change.Withdrawn.{Withdrawn}
use Rattle.directory_judge.specs.declared.particulars.Particulars.{Particulars}
use Rattle.directory_judge.specs.Withdrawals.{withdrawal_of_texts}

-- ---- what is registered

module _ (g : Grounds) (h : Header) (r : Registration) (t : Particulars) where
  accepts : Judgement
  accepts = Accepts (record { moment = g.now; act = act_of g h r t }) (allowance g t)

  -- what is judged by the pair
  by_pair : Option Judgement
  by_pair =
      option_or (denial_of_live g h.flags.fresh t (fin.get g.live (pair_in h r)))
      (option_or (denial_of_template g t.kind (resulting_attributes h.flags.fresh t (fin.get g.live (pair_in h r))))
      (denial_of_room g (pair_in h r) t))

  -- the entry that is named
  abbrev entry_in : Entry
  entry_in = record { url = r.entry.url; language = key_of h.language; kind = t.kind; scopes = t.scopes; attrs = t.attrs; deadline = g.now + r.entry.lifetime; owner = g.asker }

  act-of : IsActOf g.now h.flags.fresh entry_in (act_of g h r t)
  act-of = elim (h.flags.fresh) as (λ b. IsActOf g.now b entry_in (cond b (Put (putting_of g h r t)) (Set (setting_of h r t)))) [
    | true ↦ (putting_of g h r t, refl, refl)
    | false ↦ (setting_of h r t, refl, record { pair = refl; attributes = refl; deadline = refl })
  ]

  pub judgement-unsupported : length t.scopes ≡ 0 → judgement_of_particulars g h r t ≡ denial (by_step decider.Scope (Some t.kind))
  unfolding by_pair accepts
  judgement-unsupported none = ap (λ n. unwrap_or (option_or (cond (n == 0) (Some (denial (by_step decider.Scope (Some t.kind)))) None) (option_or (denial_of_new g t) by_pair)) accepts) none

  module _ (some : 0 < length t.scopes) where
    not_empty : (length t.scopes == 0) ≡ false
    not_empty = grind (arith, nat_tests)

    judgement-allowed : denial_of g.rules (deed g.asker Register t.kind g.asker) t.scopes ≡ None → judgement_of_particulars g h r t ≡ unwrap_or by_pair accepts
    unfolding by_pair accepts
    judgement-allowed allowed =
        ap (λ b. unwrap_or (option_or (cond b (Some (denial (by_step decider.Scope (Some t.kind)))) None) (option_or (denial_of_new g t) by_pair)) accepts) not_empty
        ∙ ap (λ d. unwrap_or (option_or (option_map denial d) by_pair) accepts) allowed

    pub judgement-denied : (b : Because) → denial_of g.rules (deed g.asker Register t.kind g.asker) t.scopes ≡ Some b → judgement_of_particulars g h r t ≡ denial b
    unfolding by_pair accepts
    judgement-denied b is =
        ap (λ b. unwrap_or (option_or (cond b (Some (denial (by_step decider.Scope (Some t.kind)))) None) (option_or (denial_of_new g t) by_pair)) accepts) not_empty
        ∙ ap (λ d. unwrap_or (option_or (option_map denial d) by_pair) accepts) is

    -- what the steps come to that look at an entry's pair
    pub IsJudgement-named : (e : Entry) (b : Because) (j : Judged) → denial_of g.rules (deed g.asker Register t.kind g.asker) t.scopes ≡ None → t.url ≡ r.entry.url
        → e ≡ record { url = t.url; language = key_of h.language; kind = t.kind; scopes = t.scopes; attrs = t.attrs; deadline = g.now + r.entry.lifetime; owner = g.asker }
        → b ≡ allowance g t → IsJudgedNamed g h.flags.fresh e b j → IsJudgement g.live j (judgement_of_particulars g h r t)
    unfolding by_pair accepts
    IsJudgement-named e b j allowed named is by_first by =
        let made : e ≡ entry_in = is ∙ ap (λ url. record { url = url; language = key_of h.language; kind = t.kind; scopes = t.scopes; attrs = t.attrs; deadline = g.now + r.entry.lifetime; owner = g.asker }) named in
        let at : IsJudgedNamed g h.flags.fresh entry_in (allowance g t) j = subst (λ x. IsJudgedNamed g h.flags.fresh entry_in x j) by_first (subst (λ x. IsJudgedNamed g h.flags.fresh x b j) made by) in
        let same : ◌≡◌ {A = Particulars} (particulars_named entry_in) t = λ i. record { url = sym named i; kind = t.kind; scopes = t.scopes; attrs = t.attrs } in
        subst (IsJudgement g.live j) (sym (judgement-allowed allowed))
        (subst (λ (x : Particulars). IsJudgement g.live j (unwrap_or
        (option_or (denial_of_live g h.flags.fresh x (fin.get g.live (pair_in h r)))
        (option_or (denial_of_template g x.kind (resulting_attributes h.flags.fresh x (fin.get g.live (pair_in h r))))
        (denial_of_room g (pair_in h r) x))) accepts)) same (at (act_of g h r t) act-of))

-- ---- a withdrawal

-- where something of the URL is live, the first of those concerned decides
pub judgement-some : (g : Grounds) (url : List ℕ) (scopes : List (List ℕ)) (first kept : Option Entry) → list_any (is_of_url url) (entries_in g.live) ≡ true → first_of (concerned_entries g url scopes) ≡ first → first_of (filter (is_kept g.rules g.asker) (concerned_entries g url scopes)) ≡ kept
    → judgement_of_url g url scopes ≡ judgement_of_entries g url scopes first kept
judgement-some g url scopes first kept some first_is kept_is =
    ap (λ b. cond b (judgement_of_entries g url scopes (first_of (concerned_entries g url scopes)) (first_of (filter (is_kept g.rules g.asker) (concerned_entries g url scopes)))) Ignores) some
    ∙ ap₂ (judgement_of_entries g url scopes) first_is kept_is

within-some : (g : Grounds) (q : Pair) (tags : List Part) (scopes : List (List ℕ)) → scopes ≢ [] → judgement_in_scopes g q tags scopes ≡ judgement_of_tags g q tags scopes
within-some g q tags [] some = absurd (some refl)
within-some g q tags (s ∷ ss) some = refl

tags-some : (g : Grounds) (q : Pair) (tags : List Part) (scopes : List (List ℕ)) → tags ≢ [] → judgement_of_tags g q tags scopes ≡ judgement_of_removal g q tags scopes
tags-some g q [] scopes some = absurd (some refl)
tags-some g q (p ∷ ps) scopes some = refl

-- a withdrawal whose URL and scopes are read, by what it is of
module _ (g : Grounds) (language : List ℕ) (tags : List Part) (w : Withdrawn) where
  withdrawn-texts : (url : Option (List ℕ)) (scopes : Option (List (List ℕ))) → withdrawal_of_texts g.site url scopes ≡ Some w → judgement_of_texts g language url (Some tags) scopes ≡ judgement_in_scopes g (w.url, language) tags w.scopes
  withdrawn-texts None scopes e = absurd (none-some w e)
  withdrawn-texts (Some url) None e = absurd (none-some w e)
  withdrawn-texts (Some url) (Some scopes) e = ap (λ (x : Withdrawn). judgement_in_scopes g (x.url, language) tags x.scopes) (same_Some _ w e)

  module _ (url : Option (List ℕ)) (scopes : Option (List (List ℕ))) (is : withdrawal_of_texts g.site url scopes ≡ Some w) (some : w.scopes ≢ []) where
    of_tags : judgement_of_texts g language url (Some tags) scopes ≡ judgement_of_tags g (w.url, language) tags w.scopes
    of_tags = withdrawn-texts url scopes is ∙ within-some g (w.url, language) tags w.scopes some

    pub judgement-whole : tags ≡ [] → judgement_of_texts g language url (Some tags) scopes ≡ judgement_of_url g w.url w.scopes
    judgement-whole none = of_tags ∙ ap (λ ts. judgement_of_tags g (w.url, language) ts w.scopes) none

    pub judgement-tagged : tags ≢ [] → judgement_of_texts g language url (Some tags) scopes ≡ judgement_of_removal g (w.url, language) tags w.scopes
    judgement-tagged named = of_tags ∙ tags-some g (w.url, language) tags w.scopes named

-- ---- a withdrawal of tags

pub tagged-some : (g : Grounds) (q : Pair) (tags : List Part) (scopes : List (List ℕ)) (e : Entry) → fin.get g.live q ≡ Some e → e.scopes ≡ scopes
    → judgement_of_removal g q tags scopes ≡ unwrap_or (option_or (denial_in g Withdraw e.kind e.owner e.scopes) (denial_of_template g e.kind (attributes_without e.attrs tags))) (Accepts (removal_event g q tags) (release g e))
tagged-some g q tags scopes e found same =
    ap (judgement_of_tagged g q tags scopes) found
    ∙ ap (λ b. cond b (unwrap_or (option_or (denial_in g Withdraw e.kind e.owner e.scopes) (denial_of_template g e.kind (attributes_without e.attrs tags))) (Accepts (removal_event g q tags) (release g e))) (denial_by decider.Scope))
    (ap (λ ss. texts_eq ss scopes) same ∙ texts_itself scopes)

-- ---- the step of the template

module _ (g : Grounds) (kind : List ℕ) (a : Attributes) where
  pub template-denies : is_none (template_fault g.site.templates kind a) ≡ false → denial_of_template g kind a ≡ Some (denial (by_step decider.Template (Some kind)))
  template-denies h = ap (λ b. cond b (Some (denial (by_step decider.Template (Some kind)))) None) (not-false _ h)

  pub template-allows : is_none (template_fault g.site.templates kind a) ≡ true → denial_of_template g kind a ≡ None
  template-allows h = ap (λ b. cond b (Some (denial (by_step decider.Template (Some kind)))) None) (not-true _ h)

-- ---- a denial with copies of what it was decided on

abbrev IsDeniedAs : Finding → Decision → Type 0
IsDeniedAs f d = judgement_in d ≡ judged.Deny (code_by f.decider) (because_of f)

denied-so : (d : Decision) (f : Finding) (because : Because) (live : Entries) (j : Judgement) → IsDeniedAs f d → because_of f ≡ because → j ≡ denial because → IsJudgement live (judgement_in d) j
denied-so d f because live j made is so = subst (λ x. IsJudgement live x j) (sym (made ∙ ap (λ (b : Because). judged.Deny (code_by b.decider) b) is)) so

pub denied-as : {E : Type 0} (r : Result Decision E) (f : Finding) (because : Because) (live : Entries) (j : Judgement) → IfOk r (IsDeniedAs f) → because_of f ≡ because → j ≡ denial because → IfOk r (λ d. IsJudgement live (judgement_in d) j)
denied-as (Ok d) f because live j made is so = denied-so d f because live j made is so
denied-as (Err e) f because live j made is so = tt

pub denied-named : {E : Type 0} (r : Result Decision E) (f : Finding) (because : Because) (g : Grounds) (fresh : Bool) (e : Entry) (by : Because) → IfOk r (IsDeniedAs f) → because_of f ≡ because
    → ((a : Act) → judgement_of_named g fresh e a by ≡ denial because) → IfOk r (λ d. IsJudgedNamed g fresh e by (judgement_in d))
denied-named (Ok d) f because g fresh e by made is so = λ a of. denied-so d f because g.live (judgement_of_named g fresh e a by) made is (so a)
denied-named (Err e) f because g fresh named by made is so = tt
