-- The name of a type, by the characters of what names it.
use Rattle.std.proofs.Common.{◌≡◌, ℕ, List, chars, Some, sym, ap, ◌∙◌}
use Rattle.std.specs.Option.{option_and_then}
use Rattle.std.specs.Result.{result_ok}
use Rattle.slp_text.specs.Keys.{folded_text}
use Rattle.slp_text.proofs.KeysOfKeys.{key_of-folded_text}
use Rattle.service_url.specs.Types.{named_service, service_by}
use Rattle.template_files.specs.Reading.{type_in, type_word, value_after}

pub type-named : (line value : List ℕ) → Some (chars value) ≡ value_after type_word line → type_in line ≡ result_ok (named_service value)
type-named line value is =
    ap (option_and_then (λ cs. result_ok (service_by (folded_text cs)))) (sym is) ∙ ap (λ k. result_ok (service_by k)) (sym (key_of-folded_text value))
