use Rattle.std.proofs.Common.{◌≡◌, Bool, true, false, cond, [], ◌∷◌, ◌++◌, map, refl, sym, ap, ◌∙◌, append_assoc}
use Rattle.std.specs.Prelude.{not}
use Rattle.std.proofs.lemmas.List.{map_push}
use Rattle.slp_text.specs.Words.{bytes_eq}
use Rattle.attr_list.specs.Gathering.{joined_with}
use Rattle.attr_list.specs.Pieces.{element_in}
use Rattle.attr_list.proofs.JoinedElements.{joined-behind}
use Rattle.attr_list.proofs.gathering.add.Goals as goal

not_both : (b : Bool) → not b ≡ true → b ≡ false
not_both true h = sym h
not_both false h = refl

not_neither : (b : Bool) → not b ≡ false → b ≡ true
not_neither true h = refl
not_neither false h = sym h

-- what comes of the last, behind others
pub returns-then-ne : goal.returns-then-ne
returns-then-ne c =
    let front = c.pop.new.self.items in
    let last = element_in c.in-Some.last in
    let more = element_in c.args.element in
    let apart = not_both (bytes_eq last.tag more.tag) (sym c.ne.ensures ∙ c.if-ne.true) in
    ap (map element_in) (c.in_ok-push-3.ensures.items ∙ ap (λ es. es ++ c.args.element ∷ []) c.in_ok-push-2.ensures.items)
    ∙ map_push element_in (front ++ c.in-Some.last ∷ []) c.args.element ∙ ap (λ es. es ++ more ∷ []) (map_push element_in front c.in-Some.last)
    ∙ append_assoc (map element_in front) (last ∷ []) (more ∷ [])
    ∙ ap (λ b. map element_in front ++ cond b (record { tag = last.tag; values = last.values ++ more.values } ∷ []) (last ∷ more ∷ [])) (sym apart)
    ∙ sym (joined-behind (map element_in front) last more) ∙ ap (λ es. joined_with es more) (sym (ap (map element_in) c.in-Some.ensures.items ∙ map_push element_in front c.in-Some.last))

pub returns : goal.returns
returns c =
    let front = c.pop.new.self.items in
    let last = element_in c.in-Some.last in
    let more = element_in c.args.element in
    let alike = not_neither (bytes_eq last.tag more.tag) (sym c.ne.ensures ∙ c.if-ne.false) in
    let joined = ap (λ vs. record { tag = last.tag; values = vs }) c.in_ok-append.ensures.items in
    ap (map element_in) c.in_ok-push-4.ensures.items ∙ map_push element_in front (record { tag = c.in-Some.last.tag; values = c.append.new.self })
    ∙ ap (λ e. map element_in front ++ e ∷ []) joined
    ∙ ap (λ b. map element_in front ++ cond b (record { tag = last.tag; values = last.values ++ more.values } ∷ []) (last ∷ more ∷ [])) (sym alike)
    ∙ sym (joined-behind (map element_in front) last more) ∙ ap (λ es. joined_with es more) (sym (ap (map element_in) c.in-Some.ensures.items ∙ map_push element_in front c.in-Some.last))
