use Rattle.std.proofs.Common.{◌≡◌, ℕ, List, [], ◌∷◌, ◌++◌, Result, Ok, Err, map, sym, ap, subst, ◌∙◌, arith, append-nil, append_assoc}
use Rattle.std.specs.Prelude.{string_bytes}
use Rattle.std.specs.Result.{IfOk, OnErr}
use Rattle.std.proofs.lemmas.Result.{err_from_is_err_and}
use Rattle.slp_text.specs.Ascii.{equals_sign, left_parenthesis, right_parenthesis}
use Rattle.slp_text.specs.Lists.{comma_list}
use Rattle.slp_text.specs.Steps.{BeginsWith}
use Rattle.attr_values.specs.Values.{value_text}
use Rattle.attr_list.specs.Texts.{attribute_text, tag_text}
use Rattle.attr_list.specs.declared.held.Held.TheVariants.{Values}
use Rattle.attr_list.proofs.ListedTexts.{begins-further}
use Rattle.attr_list.proofs.writing.append_attribute.Goals as goal

-- what is appended as a whole or not at all
begins : {A E : Type 0} (r : Result A E) (old new added : List ℕ) → IfOk r (λ _. new ≡ old ++ added) → OnErr r (new ≡ old) → BeginsWith old new
begins (Ok x) old new added ok err = (added, ok)
begins (Err e) old new added ok err = ([], err ∙ sym (append-nil old))

in_order : (text one two three tag list : List ℕ) → one ≡ text ++ left_parenthesis ∷ (tag ++ equals_sign ∷ []) → two ≡ one ++ list → three ≡ two ++ right_parenthesis ∷ []
    → three ≡ text ++ (left_parenthesis ∷ tag ++ equals_sign ∷ list ++ right_parenthesis ∷ [])
in_order text one two three tag list p q r = r ∙ ap (λ t. t ++ right_parenthesis ∷ []) (q ∙ ap (λ t. t ++ list) p) ∙ simp append_assoc

pub returns-in-Keyword : goal.returns-in-Keyword
returns-in-Keyword c =
    let old = string_bytes c.args.out.now in
    let new = string_bytes c.escape_into.new.out in
    let r = c.escape_into.result in
    let written = c.escape_into.ensures in
    let is = ap tag_text c.as_str.ensures ∙ ap (attribute_text c.args.entry.now.tag) (sym c.in-Keyword.is) in
    record { ok = subst (λ t. IfOk r (λ _. new ≡ old ++ t)) is written.ok; start = begins r old new (tag_text c.as_str.result.now) written.ok written.err }

pub returns-in_err-append_opening-in-Values : goal.returns-in_err-append_opening-in-Values
returns-in_err-append_opening-in-Values c =
    let p = err_from_is_err_and c.from_residual.result c.from_residual.ensures.1 in
    rw p.1 (record { ok = tt; start = c.append_opening.ensures.start })

pub returns-in_err-append_values-in-Values : goal.returns-in_err-append_values-in-Values
returns-in_err-append_values-in-Values c =
    let p = err_from_is_err_and c.from_residual-in_err-append_values-in-Values.result c.from_residual-in_err-append_values-in-Values.ensures.1 in
    rw p.1 (record { ok = tt; start = begins-further _ _ _ c.append_opening.ensures.start c.append_values.ensures.start })

pub returns-in_err-push-in-Values : goal.returns-in_err-push-in-Values
returns-in_err-push-in-Values c =
    let p = err_from_is_err_and c.from_residual-in_err-push-in-Values.result c.from_residual-in_err-push-in-Values.ensures.1 in
    let start = begins-further _ _ _ c.append_opening.ensures.start c.append_values.ensures.start in
    rw p.1 (record { ok = tt; start = (start.0, c.in_err-push-in-Values.ensures.bytes ∙ start.1) })

pub returns-in_ok-push-in-Values : goal.returns-in_ok-push-in-Values
returns-in_ok-push-in-Values c =
    let text = string_bytes c.args.out.now in
    let tag = c.args.entry.now.tag in
    let values = c.as_slice.result.now in
    let two = string_bytes c.append_values.new.out in
    let closed = c.in_ok-push-in-Values.ensures.bytes ∙ ap (λ t. two ++ t) (c.in_ok-push-in-Values.ensures.ascii (omega arith)) in
    let written = in_order text (string_bytes c.append_opening.new.out) two (string_bytes c.push.new.self) (tag_text tag) (comma_list (map value_text values))
    c.in_ok-append_opening-in-Values.ensures.ok c.in_ok-append_values-in-Values.ensures.ok closed in
    let is = ap (λ vs. attribute_text tag (Values vs)) c.as_slice.ensures ∙ ap (attribute_text tag) (sym c.in-Values.is) in
    record { ok = written ∙ ap (λ t. text ++ t) is; start = (attribute_text tag (Values values), written) }
