use Rattle.std.proofs.Common.{◌≡◌, ℕ, List, Result, ◌∙◌, ap, sym, cond, Ok, Err, length, ◌==◌, encode_utf8_all}
use Rattle.slp_text.specs.Reading as text
use Rattle.slp_text.specs.Reading.{read_map}
use Rattle.slp_text.specs.declared.faults.TextFault.{TextFault}
use Rattle.slp_text.specs.declared.faults.TextFault.TheVariants.{BadEscape, Reserved, NotUtf8, NoMemory}
use Rattle.attr_values.specs.Reading.{IsFault}
use Rattle.attr_values.specs.declared.fault.AttrFault.{AttrFault}
use Rattle.attr_list.specs.Reading.{fault_in_tag, tag_by}
use Rattle.attr_list.proofs.ReadTags.{fault-itself, tag_by-key, tag_key}
use Rattle.attr_list.proofs.reading.read_tag.Goals as goal

pub returns-then-is_empty-clause-value : goal.returns-then-is_empty-clause-value
returns-then-is_empty-clause-value c =
    let by = tag_by-key c.args.empty _ c.as_str.result.now c.in-Ok-key.tag c.as_str.utf8 (c.in-Ok.ensures ∙ ap Ok (sym c.as_str.ensures.value)) c.in-Ok-key.ensures.value in
    let t = ap (λ s. length s == 0) (sym c.as_str-2.ensures) ∙ sym c.is_empty.ensures ∙ c.if-is_empty.true in
    fault-itself c.args.empty _ (by ∙ ap (λ b. cond b (Err c.args.empty) (Ok c.in-Ok-key.tag)) t)

pub returns-clause-value : goal.returns-clause-value
returns-clause-value c =
    let by = tag_by-key c.args.empty _ c.as_str.result.now c.in-Ok-key.tag c.as_str.utf8 (c.in-Ok.ensures ∙ ap Ok (sym c.as_str.ensures.value)) c.in-Ok-key.ensures.value in
    let f = ap (λ s. length s == 0) (sym c.as_str-2.ensures) ∙ sym c.is_empty.ensures ∙ c.if-is_empty.false in
    by ∙ ap (λ b. cond b (Err c.args.empty) (Ok c.in-Ok-key.tag)) f

pub returns-clause-kind : goal.returns-clause-kind
returns-clause-kind c =
    tag_key c.as_str.result.now c.in-Ok-key.tag c.as_str.utf8 c.in-Ok-key.ensures.value (ap (λ s. length s == 0) (sym c.as_str-2.ensures) ∙ sym c.is_empty.ensures ∙ c.if-is_empty.false)

-- the fault of what is unescaped is that of the tag
tag_fault_is : (empty : AttrFault) (e : TextFault) (r : Result (List ℕ) TextFault) → text.IsFault e (read_map encode_utf8_all r) → IsFault (fault_in_tag e) (tag_by empty r)
tag_fault_is empty BadEscape (Ok cs) is = cc
tag_fault_is empty BadEscape (Err x) is = cc
tag_fault_is empty Reserved (Ok cs) is = cc
tag_fault_is empty Reserved (Err x) is = cc
tag_fault_is empty NotUtf8 (Ok cs) is = cc
tag_fault_is empty NotUtf8 (Err x) is = cc
tag_fault_is empty NoMemory r is = tt

pub returns-in-Err : goal.returns-in-Err
returns-in-Err c = record { value = rw c.tag_fault.ensures (tag_fault_is c.args.empty c.in-Err.e _ c.in-Err.ensures); kind = tt }

same_fault : {A : Type 0} (d e : TextFault) → ◌≡◌ {A = Result A TextFault} (Err d) (Err e) → d ≡ e
same_fault d e is = cc

pub returns-in-Err-key : goal.returns-in-Err-key
returns-in-Err-key c =
    let memory = same_fault c.in-Err-key.e NoMemory c.in-Err-key.ensures.memory in
    record { value = rw (c.tag_fault-in-Err-key.ensures, memory) tt; kind = tt }
