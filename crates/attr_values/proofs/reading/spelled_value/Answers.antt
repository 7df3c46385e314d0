use Rattle.std.proofs.Common.{ℕ, List, Result, Ok, Err, ◌∙◌, ap, chars, encode_utf8_all}
use Rattle.std.specs.Prelude.{string_bytes}
use Rattle.std.proofs.lemmas.Result.{err_from_is_err_and}
use Rattle.std.proofs.lemmas.Str.{IsUtf8-string_bytes}
use Rattle.slp_text.specs.Keys.{squeezed_text}
use Rattle.slp_text.specs.Reading as text
use Rattle.slp_text.specs.Reading.{read_map}
use Rattle.slp_text.specs.declared.faults.TextFault.{TextFault}
use Rattle.slp_text.specs.declared.faults.TextFault.TheVariants.{BadEscape, Reserved, NotUtf8, NoMemory}
use Rattle.attr_values.specs.Reading.{IsFault}
use Rattle.attr_values.specs.Values.{fault_in_value, value_by}
use Rattle.attr_values.specs.declared.value.Value.{Value}
use Rattle.attr_values.proofs.Forms.{spelled, stays_squeezed}
use Rattle.attr_values.proofs.reading.spelled_value.Goals as goal

pub value_of_form-requires : goal.value_of_form-requires
value_of_form-requires c = stays_squeezed (string_bytes c.in_ok-squeezed.squeezed) (chars c.as_str.result.now) (IsUtf8-string_bytes c.in_ok-squeezed.squeezed) c.in_ok-squeezed.ensures

pub returns-clause-value : goal.returns-clause-value
returns-clause-value c =
    spelled _ (string_bytes c.in-Ok.read) (string_bytes c.in_ok-squeezed.squeezed) c.value_of_form.result (IsUtf8-string_bytes c.in-Ok.read) (IsUtf8-string_bytes c.in_ok-squeezed.squeezed)
    c.in-Ok.ensures (c.in_ok-squeezed.ensures ∙ ap (λ t. encode_utf8_all (squeezed_text (chars t))) c.as_str.ensures.value) c.value_of_form.ensures.value c.value_of_form.ensures.memory

pub returns-clause-kind : goal.returns-clause-kind
returns-clause-kind c = c.value_of_form.ensures.kind

-- the fault of what is unescaped is that of the value
value_fault_is : (f : List ℕ → Value) (e : TextFault) (r : Result (List ℕ) TextFault) → text.IsFault e (read_map encode_utf8_all r) → IsFault (fault_in_value e) (value_by f r)
value_fault_is f BadEscape (Ok cs) is = cc
value_fault_is f BadEscape (Err x) is = cc
value_fault_is f Reserved (Ok cs) is = cc
value_fault_is f Reserved (Err x) is = cc
value_fault_is f NotUtf8 (Ok cs) is = cc
value_fault_is f NotUtf8 (Err x) is = cc
value_fault_is f NoMemory r is = tt

pub returns-in-Err : goal.returns-in-Err
returns-in-Err c = record { value = rw c.value_fault.ensures (value_fault_is _ c.in-Err.e _ c.in-Err.ensures); kind = tt }

pub returns-in_err-squeezed : goal.returns-in_err-squeezed
returns-in_err-squeezed c =
    let p = err_from_is_err_and c.from_residual.result c.from_residual.ensures.1 in
    rw (p.1, p.2) (record { value = tt; kind = tt })
