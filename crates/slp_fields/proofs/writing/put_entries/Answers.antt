use Rattle.std.proofs.Common.{ℕ, List, ◌++◌, sym, ap, ◌∙◌, append_assoc, length, arith}
use Rattle.std.specs.List.{flat_map}
use Rattle.std.proofs.lemmas.List.{length-append, take_all}
use Rattle.byteorder.specs.Endian.{big_bytes}
use Rattle.slp_fields.specs.Spelling.{entry_bytes}
use Rattle.slp_fields.proofs.Room.{next_fits, next_part}
use Rattle.slp_fields.proofs.writing.put_entries.Goals as goal

pub put_entry-requires : goal.put_entry-requires
put_entry-requires c =
    let fits = next_fits (entry_bytes 0) c.loop-entry.entry-index c.args.entries.now c.entry-item.result c.entry-item.is c.loop-entry-test.true in
    let same = ap (λ (u : List ℕ). length (entry_bytes 0 (record { lifetime = c.entry-item.result.lifetime; url = u }))) c.as_str.ensures in
    record { room = omega (arith, same, fits, c.loop-entry.invariant.count, c.loop-entry.invariant.room) }

pub loop-entry-init : goal.loop-entry-init
loop-entry-init c = record {
  items = c.append.ensures.items ∙ ap (λ t. c.args.bytes.now.items ++ t) c.two_bytes.ensures;
  count = omega (arith, ap length c.two_bytes.ensures);
  room = omega (arith, c.requires.room);
  capacity = c.append.ensures.capacity;
}

pub loop-entry-preserved : goal.loop-entry-preserved
loop-entry-preserved c =
    let so_far = c.loop-entry.invariant in
    let entry = c.entry-item.result in
    let more = next_part (entry_bytes 0) c.loop-entry.entry-index c.args.entries.now entry c.entry-item.is c.loop-entry-test.true in
    let same = ap (λ (u : List ℕ). entry_bytes 0 (record { lifetime = entry.lifetime; url = u })) c.as_str.ensures in
    record {
      items = c.put_entry.ensures.items ∙ ap (λ t. c.loop-entry.bytes.items ++ t) same ∙ ap (λ t. t ++ entry_bytes 0 entry) so_far.items
          ∙ append_assoc _ _ (entry_bytes 0 entry) ∙ ap (λ t. c.args.bytes.now.items ++ (big_bytes 2 (length c.args.entries.now) ++ t)) (sym more);
      count = omega (arith, ap length same, ap length more, length-append {A = ℕ});
      room = omega (arith, so_far.room);
      capacity = omega (arith, so_far.capacity);
    }

pub returns : goal.returns
returns c =
    let now = c.loop-entry.invariant in
    let whole = take_all c.loop-entry.entry-index c.args.entries.now c.loop-entry-test.false in
    record {
      items = now.items ∙ ap (λ es. c.args.bytes.now.items ++ (big_bytes 2 (length c.args.entries.now) ++ flat_map (entry_bytes 0) es)) whole;
      length = omega (arith, now.count, ap (λ es. length (flat_map (entry_bytes 0) es)) whole);
      capacity = now.capacity;
    }
