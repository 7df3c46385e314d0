use Rattle.std.proofs.Common.{◌≡◌, Bool, true, false, cond, Option, None, refl, ap, sym, ◌∙◌}
use Rattle.std.specs.FinMap as fin
use Rattle.std.specs.Option.{option_copied}
use Rattle.attr_list.proofs.KeptAttributes.{get-kept}
use Rattle.search_filter.proofs.looks.look_up.Goals as goal
use Rattle.search_filter.proofs.looks.look_up.Goals.{in_default-via-in-Some+else-accepts, in_default-via-in_default}

-- what is not there is not kept
nothing : {A : Type 0} (b : Bool) (o : Option A) → None ≡ o → None ≡ cond b o None
nothing true o none = none
nothing false o none = refl

pub returns-in-Some : goal.returns-in-Some
returns-in-Some g c = λ p answers.
    let there = fin.get c.args.attributes.now c.args.tag.now in
    ap option_copied (sym c.in-Some.is) ∙ c.get.ensures
    ∙ ap (λ b. cond b there None) (sym c.if-accepts.true ∙ answers _ _ c.accepts.ensures) ∙ sym (get-kept c.args.attributes.now p c.args.tag.now)

pub returns-in_default : goal.returns-in_default
returns-in_default g c = λ p answers.
    let tag = c.args.tag.now in
    let there = fin.get c.args.attributes.now tag in
    elim c.in_default.branch [
      | in_default-via-in-Some+else-accepts w ↦
          ap (λ b. cond b there None) (sym w.if-accepts.false ∙ answers _ _ w.accepts.ensures) ∙ sym (get-kept c.args.attributes.now p tag)
      | in_default-via-in_default w ↦
          nothing (p tag) there (ap option_copied (sym w.in_default.is) ∙ c.get.ensures) ∙ sym (get-kept c.args.attributes.now p tag)
    ]
