use Rattle.std.proofs.Common.{refl, rules, arith, ap, sym, subst, ◌∙◌, Ok}
use Rattle.std.proofs.lemmas.Fn.{always_returns_same}
use Rattle.slp_text.specs.Words.{bytes_cmp}
use Rattle.srv_template.specs.Templates.{templates_stored, AreStored}
use Rattle.srv_template.proofs.StoredTemplates.{adding-full, adding-one, adding-twice, still_stored}
use Rattle.srv_template.proofs.templates.Templates.add.Goals as goal

pub returns-in-Ok : goal.returns-in-Ok
returns-in-Ok c =
    let facts = c.binary_search_by.ensures in
    let is = facts.position (λ t. bytes_cmp t.name c.args.template.name) (always_returns_same _ _ _ (λ a r g called. (search rules, search rules))) in
    let stored = c.deref.ensures.value in
    (rw (← c.self.view_is) (adding-twice _ c.args.template _ c.self.invariant (rw (← stored) facts.bound) (rw (← stored) is) c.in-Ok.field-0 c.in-Ok.is), refl)

pub returns-in-Err : goal.returns-in-Err
returns-in-Err c =
    let facts = c.binary_search_by.ensures in
    let is = facts.position (λ t. bytes_cmp t.name c.args.template.name) (always_returns_same _ _ _ (λ a r g called. (search rules, search rules))) in
    let stored = c.deref.ensures.value in
    (rw (← c.self.view_is) (adding-full _ c.args.template _ c.self.invariant (rw (← stored) facts.bound) (rw (← stored) is) c.in-Err.field-0 c.in-Err.is (omega arith)), refl)

pub invariant_of-self-in-Err-2 : goal.invariant_of-self-in-Err-2
invariant_of-self-in-Err-2 c =
    let facts = c.binary_search_by.ensures in
    let is = facts.position (λ t. bytes_cmp t.name c.args.template.name) (always_returns_same _ _ _ (λ a r g called. (search rules, search rules))) in
    let stored = c.deref.ensures.value in
    subst AreStored (sym c.in_ok-insert-in-Err-2.ensures.items) (still_stored _ c.args.template _ c.self.invariant (rw (← stored) facts.bound) (rw (← stored) is) c.in-Err.field-0 c.in-Err.is)

pub returns-in_ok-insert-in-Err-2 : goal.returns-in_ok-insert-in-Err-2
returns-in_ok-insert-in-Err-2 c =
    let facts = c.binary_search_by.ensures in
    let is = facts.position (λ t. bytes_cmp t.name c.args.template.name) (always_returns_same _ _ _ (λ a r g called. (search rules, search rules))) in
    let stored = c.deref.ensures.value in
    rw (← c.self.view_is) (adding-one _ c.args.template _ c.self.invariant (rw (← stored) facts.bound) (rw (← stored) is) c.in-Err.field-0 c.in-Err.is (omega arith)) ∙ ap (λ l. Ok (templates_stored l)) (sym c.in_ok-insert-in-Err-2.ensures.items)
