use Rattle.std.proofs.Common.{◌≡◌, ◌≢◌, ◌<◌, ℕ, true, false, List, [], ◌∷◌, length, Option, Some, None, refl, sym, ap, subst, ◌∙◌, arith}
use Rattle.std.specs.Arc.{arc_value}
use Rattle.std.specs.Result.{result_ok}
use Rattle.std.proofs.lemmas.Option.{none-some, same_Some}
use Rattle.std.proofs.lemmas.Result.{IfOk-weaker}
use Rattle.slp_messages.specs.Views.{withdrawal_in}
use Rattle.service_url.specs.Urls.{url_of}
use Rattle.slp_text.specs.Keys.{key_of}
use Rattle.slp_scopes.specs.Scopes.{scopes_of}
use Rattle.slp_tags.specs.Tags.{Part}
use Rattle.directory_judge.specs.Judgements.{Grounds, denial_by, judgement_in, judgement_in_scopes, judgement_of_removal, judgement_of_texts, judgement_of_url, IsJudgement}
use Rattle.directory_judge.proofs.Steps.{denied-as, judgement-tagged, judgement-whole}
use Rattle.directory_judge.specs.Withdrawals.{withdrawal_of_texts}
use Rattle.directory_judge.specs.declared.change.Withdrawn.{Withdrawn}
use Rattle.directory_judge.specs.declared.reason.Decider.TheVariants as decider
use Rattle.directory_judge.proofs.grounds.Grounds.judge_asked.Goals as goal

some-length : (xs : List (List ℕ)) → xs ≢ [] → 0 < length xs
some-length [] some = absurd (some refl)
some-length (x ∷ xs) some = omega arith

module _ (g : Grounds) (language : List ℕ) (tags : List Part) where
  withdrawn-unscoped : (w : Withdrawn) (url : Option (List ℕ)) (scopes : Option (List (List ℕ))) → withdrawal_of_texts g.site url scopes ≡ Some w → w.scopes ≡ [] → judgement_of_texts g language url (Some tags) scopes ≡ denial_by decider.Scope
  withdrawn-unscoped w None scopes e none = absurd (none-some w e)
  withdrawn-unscoped w (Some url) None e none = absurd (none-some w e)
  withdrawn-unscoped w (Some url) (Some scopes) e none = ap (λ (x : Withdrawn). judgement_in_scopes g (x.url, language) tags x.scopes) (same_Some _ w e) ∙ ap (judgement_in_scopes g (w.url, language) tags) none

pub returns-then-is_empty : goal.returns-then-is_empty
returns-then-is_empty g c =
    let on = c.args.self.now in
    let w = withdrawal_in c.args.withdrawal.now in
    let asked = arc_value c.args.reading.withdrawn in
    let url = result_ok (url_of w.entry.url) in
    let scopes = result_ok (scopes_of w.scopes) in
    let is : withdrawal_of_texts on.site url scopes ≡ Some asked = c.requires in
    let none : asked.scopes ≡ [] = sym (ap (λ (x : Withdrawn). x.scopes) c.deref.ensures) ∙ c.is_empty.ensures.0 c.if-is_empty.true in
    denied-as c.denied.result c.deny.result _ on.live _ c.denied.ensures c.deny.ensures.because
    (withdrawn-unscoped on (key_of c.args.header.now.language.now) c.args.reading.tags asked url scopes is none)

pub judge_stored-requires : goal.judge_stored-requires
judge_stored-requires g c =
    let asked = arc_value c.args.reading.withdrawn in
    some-length asked.scopes (λ none. let k : true ≡ false = sym (c.is_empty.ensures.1 (ap (λ (x : Withdrawn). x.scopes) c.deref.ensures ∙ none)) ∙ c.if-is_empty.false in cc)

pub judge_removal-requires-clause-scoped : goal.judge_removal-requires-clause-scoped
judge_removal-requires-clause-scoped g c =
    let lent = c.deref-2.result.now in
    some-length lent.scopes (λ none. let k : true ≡ false = sym (c.is_empty.ensures.1 (ap (λ (x : Withdrawn). x.scopes) (c.deref.ensures ∙ sym c.deref-2.ensures) ∙ none)) ∙ c.if-is_empty.false in cc)

pub returns-then-is_empty-2 : goal.returns-then-is_empty-2
returns-then-is_empty-2 g c =
    let on = c.args.self.now in
    let w = withdrawal_in c.args.withdrawal.now in
    let asked = arc_value c.args.reading.withdrawn in
    let url = result_ok (url_of w.entry.url) in
    let scopes = result_ok (scopes_of w.scopes) in
    let is : withdrawal_of_texts on.site url scopes ≡ Some asked = c.requires in
    let some : asked.scopes ≢ [] = λ none. let k : true ≡ false = sym (c.is_empty.ensures.1 (ap (λ (x : Withdrawn). x.scopes) c.deref.ensures ∙ none)) ∙ c.if-is_empty.false in cc in
    let none : c.args.reading.tags ≡ [] = c.is_empty-2.ensures.0 c.if-is_empty-2.true in
    IfOk-weaker c.judge_stored.result (λ j. IsJudgement on.live (judgement_in j) (judgement_of_url on asked.url asked.scopes)) _
    (λ j. subst (IsJudgement on.live (judgement_in j)) (sym (judgement-whole on (key_of c.args.header.now.language.now) c.args.reading.tags asked url scopes is some none)))
    c.judge_stored.ensures

pub returns : goal.returns
returns g c =
    let on = c.args.self.now in
    let w = withdrawal_in c.args.withdrawal.now in
    let asked = arc_value c.args.reading.withdrawn in
    let url = result_ok (url_of w.entry.url) in
    let scopes = result_ok (scopes_of w.scopes) in
    let is : withdrawal_of_texts on.site url scopes ≡ Some asked = c.requires in
    let some : asked.scopes ≢ [] = λ none. let k : true ≡ false = sym (c.is_empty.ensures.1 (ap (λ (x : Withdrawn). x.scopes) c.deref.ensures ∙ none)) ∙ c.if-is_empty.false in cc in
    let lent = c.deref-2.result.now in
    let language = key_of c.args.header.now.language.now in
    let tags = c.args.reading.tags in
    let named : tags ≢ [] = λ none. let k : true ≡ false = sym (c.is_empty-2.ensures.1 none) ∙ c.if-is_empty-2.false in cc in
    IfOk-weaker c.judge_removal.result (λ j. IsJudgement on.live (judgement_in j) (judgement_of_removal on (lent.url, language) tags lent.scopes)) _
    (λ j. subst (IsJudgement on.live (judgement_in j)) (ap (λ (x : Withdrawn). judgement_of_removal on (x.url, language) tags x.scopes) c.deref-2.ensures
    ∙ sym (judgement-tagged on language tags asked url scopes is some named)))
    c.judge_removal.ensures
