use Rattle.std.proofs.Common.{◌≡◌, Some, true, false, refl, sym, ap, ap₂, ◌∙◌}
use Rattle.std.specs.Prelude.{None, is_none, slice_get, unwrap_or}
use Rattle.std.specs.Option.{option_map, option_or}
use Rattle.std.specs.Arc.{arc_value}
use Rattle.attr_list.specs.Maps.{updated_attributes}
use Rattle.srv_template.specs.Conformity.{template_fault}
use Rattle.registry_core.specs.declared.entry.Entry.{Entry}
use Rattle.directory_judge.specs.Contents.{Edits}
use Rattle.directory_judge.specs.Judgements.{Grounds, Accepts, because_of, because_of_entry, by_step, denial, denial_of_old, denial_of_template}
use Rattle.directory_judge.specs.declared.reason.Decider.{Decider}
use Rattle.directory_judge.specs.declared.reason.Decider.TheVariants as decider
use Rattle.directory_judge.proofs.NamedEntries.{content-updated, judgement-updated}
use Rattle.directory_judge.proofs.Steps.{denied-named, template-allows, template-denies}
use Rattle.directory_judge.proofs.grounds.Grounds.judge_update.Goals as goal

-- what the deciding rule is told of is the same of both
same-because : (d : Decider) (e old : Entry) (made : Entry) → old.kind ≡ e.kind → old.scopes ≡ e.scopes → made.kind ≡ old.kind → made.scopes ≡ old.scopes → because_of_entry d made ≡ because_of_entry d e
same-because d e old made kind scopes k s = λ i. record { decider = d; kind = Some ((k ∙ kind) i); scope = slice_get ((s ∙ scopes) i) 0 }

pub returns-then-not-conforms : goal.returns-then-not-conforms
returns-then-not-conforms g c =
    let on = c.args.self.now in
    let e = c.args.named in
    let old = c.in-Ok.old.now in
    let because = because_of_entry c.args.decider e in
    let u = c.in-Ok.ensures.ok in
    let made : ◌≡◌ {A = Entry} (arc_value c.in_ok-entry-in-Ok.entry) (record old { attrs = updated_attributes old.attrs e.attrs; deadline = e.deadline }) = c.in_ok-entry-in-Ok.ensures in
    let allowed : denial_of_old on (Some old) ≡ None = sym c.replacing_denial.ensures ∙ ap (option_map (λ r. denial (because_of r))) c.in_default.is in
    let fault : is_none (template_fault on.site.templates e.kind (updated_attributes old.attrs e.attrs)) ≡ false =
    ap (λ k. is_none (template_fault on.site.templates k (updated_attributes old.attrs e.attrs))) (sym u.kind)
    ∙ ap₂ (λ (x y : Entry). is_none (template_fault on.site.templates x.kind y.attrs)) (sym (c.deref.ensures ∙ made)) (sym (c.deref-in-Ok.ensures ∙ made)) ∙ sym c.conforms.ensures ∙ c.if-not-conforms.true in
    denied-named c.denied-then-not-conforms.result c.deny.result _ on false e because c.denied-then-not-conforms.ensures c.deny.ensures.because
    (λ a. judgement-updated on e old a because u
    ∙ ap₂ (λ s o. unwrap_or (option_or s o) (Accepts (record { moment = on.now; act = a }) because)) allowed (template-denies on e.kind (updated_attributes old.attrs e.attrs) fault)
    ∙ ap (λ k. denial (by_step decider.Template (Some k))) (sym u.kind)
    ∙ ap (λ (x : Entry). denial (by_step decider.Template (Some x.kind))) (sym (c.deref-then-not-conforms.ensures ∙ made)))

pub returns-else-not-conforms : goal.returns-else-not-conforms
returns-else-not-conforms g c = λ a of.
    let on = c.args.self.now in
    let e = c.args.named in
    let old = c.in-Ok.old.now in
    let because = because_of_entry c.args.decider e in
    let u = c.in-Ok.ensures.ok in
    let made : ◌≡◌ {A = Entry} (arc_value c.in_ok-entry-in-Ok.entry) (record old { attrs = updated_attributes old.attrs e.attrs; deadline = e.deadline }) = c.in_ok-entry-in-Ok.ensures in
    let allowed : denial_of_old on (Some old) ≡ None = sym c.replacing_denial.ensures ∙ ap (option_map (λ r. denial (because_of r))) c.in_default.is in
    let conforms : is_none (template_fault on.site.templates e.kind (updated_attributes old.attrs e.attrs)) ≡ true =
    ap (λ k. is_none (template_fault on.site.templates k (updated_attributes old.attrs e.attrs))) (sym u.kind)
    ∙ ap₂ (λ (x y : Entry). is_none (template_fault on.site.templates x.kind y.attrs)) (sym (c.deref.ensures ∙ made)) (sym (c.deref-in-Ok.ensures ∙ made)) ∙ sym c.conforms.ensures ∙ c.if-not-conforms.false in (
      record { moment = on.now; act = a },
      judgement-updated on e old a because u
          ∙ ap₂ (λ s o. unwrap_or (option_or s o) (Accepts (record { moment = on.now; act = a }) because)) allowed (template-allows on e.kind (updated_attributes old.attrs e.attrs) conforms)
          ∙ ap (Accepts (record { moment = on.now; act = a })) (sym (same-because c.args.decider e old (arc_value c.in_ok-entry-in-Ok.entry) u.kind u.scopes (ap (λ (x : Entry). x.kind) made) (ap (λ (x : Entry). x.scopes) made))),
      ap₂ Edits (ap (λ (v : Grounds). v.now) c.self.view_is) made ∙ content-updated on.live on.now of.0 e old u of.2 a of.1,
    )

pub returns-in-Some : goal.returns-in-Some
returns-in-Some g c =
    let on = c.args.self.now in
    let e = c.args.named in
    let old = c.in-Ok.old.now in
    let because = because_of_entry c.args.decider e in
    let standing : denial_of_old on (Some old) ≡ Some (denial (because_of c.in-Some.finding)) = sym c.replacing_denial.ensures ∙ ap (option_map (λ r. denial (because_of r))) c.in-Some.is in
    denied-named c.denied-in-Some.result c.in-Some.finding _ on false e because c.denied-in-Some.ensures refl
    (λ a. judgement-updated on e old a because c.in-Ok.ensures.ok
    ∙ ap (λ s. unwrap_or (option_or s (denial_of_template on e.kind (updated_attributes old.attrs e.attrs))) (Accepts (record { moment = on.now; act = a }) because)) standing)
