use Rattle.std.proofs.Common.{◌≡◌, ◌-◌, ℕ, List, true, length, take, sym, ap, ◌∙◌, arith}
use Rattle.std.specs.Prelude.{slice_index, ◌||◌}
use Rattle.std.specs.String.{string_bytes}
use Rattle.std.proofs.lemmas.Bool.{and_parts}
use Rattle.service_url.specs.Types.{is_abstract, is_abstract_with_colon, is_colon, is_concrete, is_name, text_without_last}
use Rattle.service_url.proofs.Roots.{abstract_root}
use Rattle.service_url.proofs.types.ServiceType.parse.Goals as goal

pub invariant_of-result : goal.invariant_of-result
invariant_of-result c =
    let W : List ℕ = string_bytes c.in-Ok.folded in
    let k : List ℕ = string_bytes c.truncate.new.self in
    let told = and_parts (is_colon (slice_index W (length W - 1))) (is_abstract (text_without_last W)) (ap is_abstract_with_colon (sym c.as_bytes.ensures.value) ∙ sym c.if-is_abstract_with_colon.ensures) in
    let long : c.len.result ≡ length W = omega (arith, c.len.ensures, c.in-Ok.folded.bytes.ok.0) in
    let same : k ≡ text_without_last W = c.truncate.ensures.bytes ∙ ap (λ n. take (n - 1) W) long in
    let a : is_abstract k ≡ true = ap is_abstract same ∙ told.1 in
    let root : c.len-root.result ≡ length k = omega (arith, c.len-root.ensures, c.truncate.new.self.bytes.ok.0) in
    (ap (λ b. b || is_concrete k || is_name k) a, sym a, root ∙ sym (ap length (abstract_root k a)))
