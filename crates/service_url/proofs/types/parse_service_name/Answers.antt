use Rattle.std.proofs.Common.{◌≡◌, ℕ, List, true, false, Ok, Err, drop, refl, sym, ap, ◌∙◌}
use Rattle.std.proofs.lemmas.Bool.{and_parts}
use Rattle.slp_text.specs.Keys.{key_of}
use Rattle.service_url.specs.Types.{is_name, is_service, is_abstract, service_by}
use Rattle.service_url.specs.declared.fault.UrlFault.TheVariants.{BadType}
use Rattle.service_url.proofs.types.parse_service_name.Goals as goal

named : (k : List ℕ) → is_name k ≡ true → service_by k ≡ Ok k
named k n = rw n refl

unnamed : (k : List ℕ) → is_name k ≡ false → is_abstract k ≡ true → service_by k ≡ Ok (drop 8 k)
unnamed k n a = rw (n, a) refl

no_service : (k : List ℕ) → is_name k ≡ false → is_abstract k ≡ false → service_by k ≡ Err BadType
no_service k n a = rw (n, a) refl

pub returns-then-is_name : goal.returns-then-is_name
returns-then-is_name c =
    let key = c.as_bytes.ensures.value ∙ c.as_str.ensures.value ∙ c.in-Ok.ensures.value in
    named (key_of c.args.text.now) (ap is_name (sym key) ∙ sym c.is_name.ensures ∙ c.if-is_name.true) ∙ ap Ok (sym c.in-Ok.ensures.value ∙ sym c.wrap.ensures)

pub returns-then-not-is_abstract : goal.returns-then-not-is_abstract
returns-then-not-is_abstract c =
    let key = c.as_bytes.ensures.value ∙ c.as_str.ensures.value ∙ c.in-Ok.ensures.value in
    let again = c.as_bytes-2.ensures.value ∙ c.as_str-2.ensures.value ∙ c.in-Ok.ensures.value in
    no_service (key_of c.args.text.now) (ap is_name (sym key) ∙ sym c.is_name.ensures ∙ c.if-is_name.false) (ap is_abstract (sym again) ∙ sym c.is_abstract.ensures ∙ c.if-not-is_abstract.true)

pub returns-in-Ok-from_str : goal.returns-in-Ok-from_str
returns-in-Ok-from_str c =
    let k : List ℕ = key_of c.args.text.now in
    let key = c.as_bytes.ensures.value ∙ c.as_str.ensures.value ∙ c.in-Ok.ensures.value in
    let again = c.as_bytes-2.ensures.value ∙ c.as_str-2.ensures.value ∙ c.in-Ok.ensures.value in
    let whole = c.as_str-3.ensures.value ∙ c.in-Ok.ensures.value in
    let told = ap is_abstract (sym again) ∙ sym c.is_abstract.ensures ∙ c.if-not-is_abstract.false in
    let rest = c.after_service.ensures (ap is_service whole ∙ (and_parts (is_service k) (is_name (drop 8 k)) told).0) ∙ ap (drop 8) whole in
    unnamed k (ap is_name (sym key) ∙ sym c.is_name.ensures ∙ c.if-is_name.false) told ∙ ap Ok (sym rest ∙ sym c.in-Ok-from_str.ensures.ok ∙ sym c.wrap-in-Ok-from_str.ensures)
