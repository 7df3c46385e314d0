use Rattle.std.proofs.Common.{◌≡◌, ℕ, List, Option, Some, None, refl, sym, ap, subst, ◌∙◌}
use Rattle.std.specs.Option.{option_map}
use Rattle.std.specs.Result.{result_ok}
use Rattle.std.proofs.lemmas.Option.{none-some, same_Some}
use Rattle.std.proofs.lemmas.Result.{IfOk-weaker}
use Rattle.slp_messages.specs.Views.{withdrawal_in}
use Rattle.service_url.specs.Urls.{url_of}
use Rattle.slp_text.specs.Keys.{key_of}
use Rattle.slp_scopes.specs.Scopes.{scopes_of}
use Rattle.slp_tags.specs.Tags.{Part, tags_of}
use Rattle.directory_judge.specs.Judgements.{Grounds, denial_by, judgement_in, judgement_of_texts, IsJudgement}
use Rattle.directory_judge.specs.ReadChanges.{withdrawing_in, withdrawing_of_texts}
use Rattle.directory_judge.specs.Sites.{Site}
use Rattle.directory_judge.specs.Withdrawals.{withdrawal_of_texts}
use Rattle.directory_judge.specs.declared.change.Withdrawn.{Withdrawn}
use Rattle.directory_judge.specs.declared.reason.Decider.TheVariants as decider
use Rattle.directory_judge.proofs.Steps.{denied-as}
use Rattle.directory_judge.proofs.grounds.Grounds.judge_withdrawal.Goals as goal

-- a text that is no URL, no list of tags or no list of scopes denies it
unread : (g : Grounds) (language : List ℕ) (url : Option (List ℕ)) (tags : Option (List Part)) (scopes : Option (List (List ℕ))) → withdrawing_of_texts g.site url tags scopes ≡ None
    → judgement_of_texts g language url tags scopes ≡ denial_by decider.Parse
unread g language None tags scopes e = refl
unread g language (Some url) None scopes e = refl
unread g language (Some url) (Some tags) None e = refl
unread g language (Some url) (Some tags) (Some scopes) e = absurd (none-some _ (sym e))

-- where all are read, so are the tags, and what it is of
all_read : (site : Site) (url : Option (List ℕ)) (tags : Option (List Part)) (scopes : Option (List (List ℕ))) (x : List Part × Withdrawn) → withdrawing_of_texts site url tags scopes ≡ Some x
    → (tags ≡ Some x.0) × (withdrawal_of_texts site url scopes ≡ Some x.1)
all_read site url None scopes x e = absurd (none-some x e)
all_read site None (Some tags) scopes x e = absurd (none-some x e)
all_read site (Some url) (Some tags) None x e = absurd (none-some x e)
all_read site (Some url) (Some tags) (Some scopes) x e =
    let same = same_Some _ x e in (ap (λ (p : List Part × Withdrawn). Some p.0) same, ap (λ (p : List Part × Withdrawn). Some p.1) same)

pub judge_asked-requires : goal.judge_asked-requires
judge_asked-requires g c =
    let w = withdrawal_in c.args.withdrawal.now in
    (all_read c.args.self.now.site (result_ok (url_of w.entry.url)) (result_ok (tags_of w.tags)) (result_ok (scopes_of w.scopes)) (withdrawing_in c.in-Some.reading) (sym c.requires ∙ ap (option_map withdrawing_in) c.in-Some.is)).1

pub returns-in-Some : goal.returns-in-Some
returns-in-Some g c =
    let on = c.args.self.now in
    let w = withdrawal_in c.args.withdrawal.now in
    let url = result_ok (url_of w.entry.url) in
    let scopes = result_ok (scopes_of w.scopes) in
    let language = key_of c.args.header.now.language.now in
    let tags = (all_read on.site url (result_ok (tags_of w.tags)) scopes (withdrawing_in c.in-Some.reading) (sym c.requires ∙ ap (option_map withdrawing_in) c.in-Some.is)).0 in
    IfOk-weaker c.judge_asked.result (λ j. IsJudgement on.live (judgement_in j) (judgement_of_texts on language url (Some c.in-Some.reading.tags) scopes)) _
    (λ j. subst (λ (ts : Option (List Part)). IsJudgement on.live (judgement_in j) (judgement_of_texts on language url ts scopes)) (sym tags))
    c.judge_asked.ensures

pub returns-in-None : goal.returns-in-None
returns-in-None g c =
    let on = c.args.self.now in
    let w = withdrawal_in c.args.withdrawal.now in
    denied-as c.denied.result c.deny.result _ on.live _ c.denied.ensures c.deny.ensures.because
    (unread on (key_of c.args.header.now.language.now) (result_ok (url_of w.entry.url)) (result_ok (tags_of w.tags)) (result_ok (scopes_of w.scopes)) (sym c.requires ∙ ap (option_map withdrawing_in) c.in-None.is))
