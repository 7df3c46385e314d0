-- What an update of an entry comes to that may be updated.
use Rattle.std.proofs.Common.{◌≡◌, ℕ, false, cond, Some, None, refl, sym, ap, ap₂, ◌∙◌}
use Rattle.std.specs.Prelude.{◌&&◌, Option, is_none, nat_le, not, unwrap_or}
use Rattle.std.specs.Option.{option_or}
use Rattle.std.specs.FinMap as fin
use Rattle.slp_text.specs.Words.{bytes_eq, texts_eq}
use Rattle.attr_list.specs.Maps.{updated_attributes}
use Rattle.registry_core.specs.declared.entry.Entry.{Entry}
use Rattle.registry_core.specs.Entries.{Entries, Pair}
use Rattle.directory_judge.specs.History.{Act, Setting, Set}
use Rattle.directory_judge.specs.Contents.{Edits, content_on, edit_of, entry_set}
use Rattle.directory_judge.specs.Judgements.{Grounds, Judgement, Accepts, by_step, denial, denial_of_old, denial_of_template, denial_of_update, resulting_attributes}
use Rattle.directory_judge.specs.NamedEntries.{judgement_of_named, particulars_named, IsSettingOf, IsUpdatable}
use Rattle.directory_judge.specs.declared.reason.Because.{Because}
use Rattle.directory_judge.specs.declared.reason.Decider.TheVariants as decider
use Rattle.registry_core.proofs.SameTexts.{bytes_itself, texts_itself}

or-none : (o : Option Judgement) → option_or o None ≡ o
or-none None = refl
or-none (Some j) = refl

-- what the rules say of the one that stands, and its template of what is made of it
pub judgement-updated : (g : Grounds) (e old : Entry) (a : Act) (because : Because) → IsUpdatable g.live e old
    → judgement_of_named g false e a because ≡ unwrap_or (option_or (denial_of_old g (Some old)) (denial_of_template g e.kind (updated_attributes old.attrs e.attrs))) (Accepts (record { moment = g.now; act = a }) because)
judgement-updated g e old a because u =
    let accepts : Judgement = Accepts (record { moment = g.now; act = a }) because in
    let update : Judgement = denial (by_step decider.Update (Some e.kind)) in
    let other : Judgement = denial (by_step decider.Scope (Some e.kind)) in
    let full : Judgement = denial (by_step decider.Full (Some e.kind)) in
    let standing : Option Judgement = denial_of_old g (Some old) in
    let template : Option Judgement = denial_of_template g e.kind (updated_attributes old.attrs e.attrs) in
    ap (λ (o : Option Entry). unwrap_or
    (option_or (option_or (denial_of_update (particulars_named e) o) (denial_of_old g o))
    (option_or (denial_of_template g e.kind (resulting_attributes false (particulars_named e) o)) (cond (is_none o && nat_le g.site.capacity (fin.len g.live)) (Some full) None))) accepts) u.found
    ∙ ap₂ (λ k s. unwrap_or (option_or (option_or (cond (not (bytes_eq k e.kind)) (Some update) (cond (not (texts_eq s e.scopes)) (Some other) None)) standing) (option_or template None)) accepts) u.kind u.scopes
    ∙ ap₂ (λ a b. unwrap_or (option_or (option_or (cond (not a) (Some update) (cond (not b) (Some other) None)) standing) (option_or template None)) accepts) (bytes_itself e.kind) (texts_itself e.scopes)
    ∙ ap (λ o. unwrap_or (option_or standing o) accepts) (or-none template)

-- the one that stands, with what is named, is what the setting makes of it
module _ (live : Entries) (moment : ℕ) (s : Setting) (e old : Entry) (u : IsUpdatable live e old) (of : IsSettingOf moment s e) where
  updated-set : ◌≡◌ {A = Entry} (record old { attrs = updated_attributes old.attrs e.attrs; deadline = e.deadline }) (entry_set moment s old)
  updated-set = λ i. record old { attrs = updated_attributes old.attrs (sym of.attributes i); deadline = sym of.deadline i }

  pub content-updated : (a : Act) → a ≡ Set s → Edits moment (record old { attrs = updated_attributes old.attrs e.attrs; deadline = e.deadline }) ≡ content_on live (record { moment = moment; act = a })
  content-updated a is =
      ap (Edits moment) updated-set
      ∙ sym (
      ap (λ x. content_on live (record { moment = moment; act = x })) is
      ∙ ap (λ (q : Pair). edit_of moment (fin.get live q) (entry_set moment s)) of.pair
      ∙ ap (λ o. edit_of moment o (entry_set moment s)) u.found)
