use Rattle.std.proofs.Common.{◌≡◌, ◌<◌, ◌≤◌, Some, true, false, length, sym, ap, ap₂, subst, ◌∙◌, arith}
use Rattle.std.specs.Prelude.{is_none, unwrap_or}
use Rattle.std.specs.Arc.{arc_value}
use Rattle.std.specs.Option.{option_copied, option_map, option_or}
use Rattle.attr_list.specs.Maps.{attributes_without}
use Rattle.srv_template.specs.Conformity.{template_fault}
use Rattle.std.specs.FinMap as fin
use Rattle.slp_text.specs.Keys.{key_of}
use Rattle.access_rules.specs.Deciding.{deed}
use Rattle.access_rules.specs.declared.rule.Action.TheVariants.{Withdraw}
use Rattle.registry_core.specs.declared.entry.Entry.{Entry}
use Rattle.registry_core.specs.Entries.{Pair}
use Rattle.directory_judge.specs.History.{Removing}
use Rattle.directory_judge.specs.Contents.{Edits, edit_of, entry_without}
use Rattle.directory_judge.specs.Judgements.{Grounds, Accepts, by_step, denial, judgement_of_removal, release, removal_event, ruling_in}
use Rattle.directory_judge.specs.declared.reason.Decider.TheVariants as decider
use Rattle.directory_judge.proofs.Rulings.{no-scopes, not-false, ruling-allowed, ruling-first, ruling-none}
use Rattle.registry_core.proofs.SameTexts.{texts_same}
use Rattle.directory_judge.proofs.Steps.{denied-as, tagged-some, template-allows, template-denies}
use Rattle.directory_judge.proofs.grounds.Grounds.judge_removal.Goals as goal

pub returns-in-None : goal.returns-in-None
returns-in-None g c =
    let on = c.args.self.now in
    let old = c.in-Some.old.now in
    let same = texts_same old.scopes c.args.withdrawn.now.scopes (not-false _ (sym c.ne.ensures ∙ c.if-ne.false)) in
    let none : length old.scopes ≡ 0 = no-scopes old.scopes (ruling-none on.rules (deed on.asker Withdraw old.kind old.owner) old.scopes (sym c.rule.ensures ∙ ap (option_map ruling_in) c.in-None.is)).1 in
    absurd (omega (arith, none, ap length same, c.requires.scoped))

pub invariant_of-result : goal.invariant_of-result
invariant_of-result g c =
    let old = c.in-Some.old.now in
    let same = ap (λ (e : Entry). e.scopes) c.in_ok-entry-in-Some-rule.ensures ∙ texts_same old.scopes c.args.withdrawn.now.scopes (not-false _ (sym c.ne.ensures ∙ c.if-ne.false)) in
    record {
      scoped = subst (λ ss. 0 < length ss) (sym same) c.requires.scoped;
      few_scopes = subst (λ ss. length ss ≤ 16) (sym same) c.requires.few_scopes;
    }

pub returns-then-not-conforms : goal.returns-then-not-conforms
returns-then-not-conforms g c =
    let on = c.args.self.now in
    let old = c.in-Some.old.now in
    let w = c.args.withdrawn.now in
    let q : Pair = (w.url, key_of c.args.language.now) in
    let tags = c.args.tags.now in
    let found : fin.get on.live q ≡ Some old = ap (λ l. let p : Pair = (w.url, l) in fin.get on.live p) (sym c.in_ok-language.ensures) ∙ sym c.live_entry.ensures.value ∙ ap option_copied c.in-Some.is in
    let same = texts_same old.scopes w.scopes (not-false _ (sym c.ne.ensures ∙ c.if-ne.false)) in
    let ruled = sym c.rule.ensures ∙ ap (option_map ruling_in) c.in-Some-rule.is in
    let allowed = ruling-allowed on.rules (deed on.asker Withdraw old.kind old.owner) old.scopes c.in-Some-rule.finding ruled c.if-finding.true in
    let made : ◌≡◌ {A = Entry} (arc_value c.in_ok-entry-in-Some-rule.entry) (record old { attrs = attributes_without old.attrs tags }) = c.in_ok-entry-in-Some-rule.ensures in
    let fault : is_none (template_fault on.site.templates old.kind (attributes_without old.attrs tags)) ≡ false =
    ap (λ (x : Entry). is_none (template_fault on.site.templates old.kind x.attrs)) (sym (c.deref.ensures ∙ made)) ∙ sym c.conforms.ensures ∙ c.if-not-conforms.true in
    let so : judgement_of_removal on q tags w.scopes ≡ denial (by_step decider.Template (Some old.kind)) =
    tagged-some on q tags w.scopes old found same
    ∙ ap₂ (λ d t. unwrap_or (option_or (option_map denial d) t) (Accepts (removal_event on q tags) (release on old))) allowed (template-denies on old.kind (attributes_without old.attrs tags) fault) in
    denied-as c.denied-then-not-conforms.result c.deny-then-not-conforms.result _ on.live _ c.denied-then-not-conforms.ensures c.deny-then-not-conforms.ensures.because so

pub returns-in-Some-rule : goal.returns-in-Some-rule
returns-in-Some-rule g c =
    let on = c.args.self.now in
    let old = c.in-Some.old.now in
    let w = c.args.withdrawn.now in
    let q : Pair = (w.url, key_of c.args.language.now) in
    let tags = c.args.tags.now in
    let removes : Removing = record { url = q.0; language = q.1; tags = tags } in
    let found : fin.get on.live q ≡ Some old = ap (λ l. let p : Pair = (w.url, l) in fin.get on.live p) (sym c.in_ok-language.ensures) ∙ sym c.live_entry.ensures.value ∙ ap option_copied c.in-Some.is in
    let same = texts_same old.scopes w.scopes (not-false _ (sym c.ne.ensures ∙ c.if-ne.false)) in
    let ruled = sym c.rule.ensures ∙ ap (option_map ruling_in) c.in-Some-rule.is in
    let allowed = ruling-allowed on.rules (deed on.asker Withdraw old.kind old.owner) old.scopes c.in-Some-rule.finding ruled c.if-finding.true in
    let made : ◌≡◌ {A = Entry} (arc_value c.in_ok-entry-in-Some-rule.entry) (record old { attrs = attributes_without old.attrs tags }) = c.in_ok-entry-in-Some-rule.ensures in
    let conforms : is_none (template_fault on.site.templates old.kind (attributes_without old.attrs tags)) ≡ true =
    ap (λ (x : Entry). is_none (template_fault on.site.templates old.kind x.attrs)) (sym (c.deref.ensures ∙ made)) ∙ sym c.conforms.ensures ∙ c.if-not-conforms.false in
    let because : c.in_ok-because-in-Some-rule.because ≡ release on old =
    c.in_ok-because-in-Some-rule.ensures ∙ ruling-first on.rules (deed on.asker Withdraw old.kind old.owner) old.scopes c.in-Some-rule.finding ruled allowed in (
      removal_event on q tags,
      tagged-some on q tags w.scopes old found same
          ∙ ap₂ (λ d t. unwrap_or (option_or (option_map denial d) t) (Accepts (removal_event on q tags) (release on old))) allowed (template-allows on old.kind (attributes_without old.attrs tags) conforms)
          ∙ ap (Accepts (removal_event on q tags)) (sym because),
      ap₂ Edits (ap (λ (v : Grounds). v.now) c.self.view_is) made ∙ sym (ap (λ o. edit_of on.now o (entry_without removes)) found),
    )
