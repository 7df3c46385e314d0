use Rattle.std.proofs.Common.{◌≡◌, List, ℕ, Result, Err, refl}
use Rattle.std.proofs.lemmas.Result.{err_from_is_err_and}
use Rattle.slp_text.specs.Reading.{IsFault, IsByteReading}
use Rattle.slp_text.specs.declared.faults.TextFault.{TextFault}
use Rattle.slp_text.specs.declared.faults.TextFault.TheVariants.{BadEscape, Reserved, NotUtf8, NoMemory}
use Rattle.slp_text.proofs.escapes.unescape_any.Goals as goal

reading : (e : TextFault) (read : Result (List ℕ) TextFault) → IsFault e read → (e ≡ NotUtf8 → ⊥) → IsByteReading (Err e) read
reading BadEscape read is other = is
reading Reserved read is other = is
reading NotUtf8 read is other = absurd (other refl)
reading NoMemory read is other = tt

pub returns-in_err-unescaped_bytes : goal.returns-in_err-unescaped_bytes
returns-in_err-unescaped_bytes c =
    let p = err_from_is_err_and c.from_residual.result c.from_residual.ensures.1 in
    rw (p.1, p.2) (reading c.in_err-unescaped_bytes.field-0.0 _ c.in_err-unescaped_bytes.ensures.value c.in_err-unescaped_bytes.ensures.fault)
