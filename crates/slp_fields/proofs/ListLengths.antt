-- What the length of a list says of its parts.
use Rattle.std.proofs.Common.{◌≡◌, ℕ, ◌+◌, ◌≤◌, List, [], ◌∷◌, length, take, min, ap, subst, arith}
use Rattle.std.specs.List.{flat_map, AllByRecursion}
use Rattle.std.proofs.lemmas.List.{take_all, length-append}
use Rattle.slp_messages.specs.Fields.{IsEntry, AreEntries}
use Rattle.slp_messages.specs.declared.message.UrlEntry.{UrlEntry}
use Rattle.slp_fields.specs.Spelling.{entry_bytes}
use Rattle.slp_fields.specs.Writing.{longest}

-- each entry has a byte, so there are no more entries than bytes
entries_are_few : (es : List UrlEntry) → length es ≤ length (flat_map (entry_bytes 0) es)
entries_are_few [] = omega arith
entries_are_few (e ∷ es) = let h = entries_are_few es in omega (arith, length-append (entry_bytes 0 e) (flat_map (entry_bytes 0) es))

pub are_sound : (es : List UrlEntry) (i start total : ℕ) → length es ≤ i
    → total ≡ min (start + (2 + length (flat_map (entry_bytes 0) (take i es)))) 65536
    → (total ≤ 65535 → AllByRecursion IsEntry (take i es)) → total ≤ longest → AreEntries es
are_sound es i start total all size sound short =
    let whole : take i es ≡ es = take_all i es all in
    let few : length (take i es) ≤ length (flat_map (entry_bytes 0) (take i es)) = entries_are_few (take i es) in
    record {
      each = subst (λ (xs : List UrlEntry). AllByRecursion IsEntry xs) whole (sound short);
      few = omega (arith, ap length whole, few, size, short);
    }
