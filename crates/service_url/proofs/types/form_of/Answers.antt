use Rattle.std.proofs.Common.{◌≡◌, ◌+◌, ◌-◌, ℕ, List, true, false, length, take, drop, Some, None, sym, ap, ◌∙◌, arith}
use Rattle.std.specs.Prelude.{Option, MatchOption}
use Rattle.std.proofs.lemmas.List.{take_all, length-drop}
use Rattle.service_url.specs.Types.{is_abstract, is_name, is_type, is_colon, are_names, root_of}
use Rattle.std.specs.List.{position_or_len}
use Rattle.service_url.specs.declared.types.Form.{Form}
use Rattle.service_url.proofs.Roots.{service_type, service_abstract, service_root}
use Rattle.service_url.proofs.types.form_of.Goals as goal

-- what is said of what follows `service:` is said of the text
carried : (text rest : List ℕ) (o : Option Form) → rest ≡ drop 8 text → is_type text ≡ are_names (drop 8 text) → is_abstract text ≡ is_name (drop 8 text) → length (root_of text) ≡ 8 + position_or_len is_colon (drop 8 text)
    → MatchOption o (are_names rest ≡ false) (λ f. (are_names rest ≡ true) × (f.root ≡ 8 + position_or_len is_colon rest) × (f.is_abstract ≡ is_name rest))
    → MatchOption o (is_type text ≡ false) (λ f. (is_type text ≡ true) × (f.root ≡ length (root_of text)) × (f.is_abstract ≡ is_abstract text))
carried text rest None same t a r h = t ∙ ap are_names (sym same) ∙ h
carried text rest (Some f) same t a r h = (t ∙ ap are_names (sym same) ∙ h.0, h.1 ∙ ap (λ x. 8 + position_or_len is_colon x) same ∙ sym r, h.2 ∙ ap is_name same ∙ sym a)

pub returns-then-is_service : goal.returns-then-is_service
returns-then-is_service c =
    let text : List ℕ = c.args.bytes.now in
    let s = sym c.if-is_service.ensures.value in
    carried text (take (length text - 8) (drop 8 text)) c.service_form.result (take_all (length text - 8) (drop 8 text) (omega (arith, length-drop 8 text))) (service_type text s) (service_abstract text s) (service_root text s) c.service_form.ensures
