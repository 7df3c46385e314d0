use Rattle.std.proofs.Common.{ℕ, ◌++◌, sym, ap, ◌∙◌, append-nil, append_assoc, length, arith}
use Rattle.std.proofs.lemmas.List.{length-append, take_all}
use Rattle.slp_fields.specs.Writing.{field_bytes, fields_bytes}
use Rattle.slp_fields.proofs.Room.{next_fits, next_part}
use Rattle.slp_fields.proofs.writing.put_fields.Goals as goal

pub put_field-requires : goal.put_field-requires
put_field-requires c =
    let fits = next_fits field_bytes c.loop-field.field-index c.args.fields.now c.field-item.result c.field-item.is c.loop-field-test.true in
    record { room = omega (arith, fits, c.loop-field.invariant.count, c.loop-field.invariant.room) }

pub loop-field-init : goal.loop-field-init
loop-field-init c = record { items = sym (append-nil _); count = omega arith; room = c.requires.room; capacity = omega arith }

pub loop-field-preserved : goal.loop-field-preserved
loop-field-preserved c =
    let so_far = c.loop-field.invariant in
    let more = next_part field_bytes c.loop-field.field-index c.args.fields.now c.field-item.result c.field-item.is c.loop-field-test.true in
    record {
      items = c.put_field.ensures.items ∙ ap (λ t. t ++ field_bytes c.field-item.result) so_far.items ∙ append_assoc _ _ (field_bytes c.field-item.result) ∙ ap (λ t. c.args.bytes.now.items ++ t) (sym more);
      count = omega (arith, ap length more, length-append {A = ℕ});
      room = omega (arith, so_far.room);
      capacity = omega (arith, so_far.capacity);
    }

pub returns : goal.returns
returns c =
    let now = c.loop-field.invariant in
    let whole = take_all c.loop-field.field-index c.args.fields.now c.loop-field-test.false in
    record {
      items = now.items ∙ ap (λ fs. c.args.bytes.now.items ++ fields_bytes fs) whole;
      length = omega (arith, now.count, ap (λ fs. length (fields_bytes fs)) whole);
      capacity = now.capacity;
    }
