-- Fields of any kind, one after the other, as they are read and as they are spelled.
use Rattle.std.proofs.Common.{◌≡◌, ℕ, ◌<◌, List, [], ◌∷◌, ◌++◌, length, Result, Ok, refl, sym, ap, subst, ◌∙◌, append_assoc, lit<, arith}
use Rattle.std.specs.List.{flat_map}
use Rattle.std.proofs.lemmas.List.{length-append}
use Rattle.byteorder.specs.Endian.{big_bytes}
use Rattle.slp_headers.specs.Headers.{string}
use Rattle.slp_messages.specs.Fields.{Value, Values, IsFit, AreFit}
use Rattle.slp_messages.specs.declared.kind.Kind.{Kind}
use Rattle.slp_messages.specs.declared.kind.Kind.TheVariants.{Number, Long, Text, Entry, Entries, Authority, NoBlock, NoIndex}
use Rattle.slp_messages.specs.declared.message.Authority.TheVariants.{All, Named}
use Rattle.slp_messages.specs.declared.message.UrlEntry.{UrlEntry}
use Rattle.slp_fields.specs.Reading.{value_at, reading_at, rest_of_reading, rest_of_field_at, rest_of_fields_at}
use Rattle.slp_fields.specs.Spelling.{entry_bytes, authority_bytes, value_bytes, values_bytes, SpellsEntries, SpellsValue, SpellsValues}
use Rattle.slp_fields.specs.declared.fault.WireFault.{WireFault}
use Rattle.slp_wire.proofs.Authorities.{authority_takes, authority_again}
use Rattle.slp_wire.proofs.Listings.{listing_takes, listing_again}
use Rattle.slp_wire.proofs.Numbers.{number_takes, number_again, long_takes, long_again}
use Rattle.slp_wire.proofs.Parts.{string_takes, string_again, no_block_takes, no_block_again, no_index_takes, no_index_again, entry_takes, entry_again}
use Rattle.slp_wire.proofs.Steps.{IsBytes, Takes, Takes-then, bind_ok, bind_is, ok_is}

-- ---- what is read is spelled

pub value_takes : (k : Kind) (bytes : List ℕ) (v : Value k) (rest : List ℕ) → IsBytes bytes → value_at k bytes ≡ Ok (v, rest) → (text : List ℕ) × Takes bytes text rest × SpellsValue k text v × IsFit k v
value_takes Number bytes v rest fits e = let t = number_takes bytes v rest fits e in (big_bytes 2 v, t.0, refl, t.1)
value_takes Long bytes v rest fits e = let t = long_takes bytes v rest fits e in (big_bytes 4 v, t.0, refl, t.1)
value_takes Text bytes v rest fits e = let t = string_takes bytes v rest fits e in (string v, t.0, refl, t.1)
value_takes Entry bytes v rest fits e = entry_takes bytes v rest fits e
value_takes Entries bytes v rest fits e = listing_takes bytes v rest fits e
value_takes Authority bytes v rest fits e = let t = authority_takes bytes v rest fits e in (authority_bytes v, t.0, refl, t.1)
value_takes NoBlock bytes v rest fits e = (0 ∷ [], no_block_takes bytes v rest fits e, refl, tt)
value_takes NoIndex bytes v rest fits e = (string [], no_index_takes bytes v rest fits e, refl, tt)

-- what was read as fields of these kinds
pub record Taken (ks : List Kind) (bytes : List ℕ) (values : Values ks) (rest : List ℕ) : Type 0 where
  pub text : List ℕ
  pub takes : Takes bytes text rest
  pub spells : SpellsValues ks text values
  pub fit : AreFit ks values

none_taken : (bytes : List ℕ) → IsBytes bytes → Taken [] bytes tt bytes
none_taken bytes fits = record { text = []; takes = record { parts = refl; rest_fits = fits }; spells = refl; fit = tt }

one_more : (k : Kind) (ks : List Kind) (bytes middle rest : List ℕ) (v : Value k) (values : Values ks)
    → (text : List ℕ) × Takes bytes text middle × SpellsValue k text v × IsFit k v → Taken ks middle values rest → Taken (k ∷ ks) bytes (v, values) rest
one_more k ks bytes middle rest v values first others = record {
  text = first.0 ++ others.text;
  takes = Takes-then bytes first.0 middle others.text rest first.1 others.takes;
  spells = (first.0, others.text, refl, first.2, others.spells);
  fit = (first.3, others.fit);
}

pub reading_takes : {A : Type 0} (ks : List Kind) (bytes : List ℕ) (made : Values ks → List ℕ → Result A WireFault) (y : A) → IsBytes bytes → reading_at ks bytes made ≡ Ok y
    → (values : Values ks) × (rest : List ℕ) × Taken ks bytes values rest × (made values rest ≡ Ok y)
reading_takes [] bytes made y fits e = (tt, bytes, none_taken bytes fits, e)
reading_takes (k ∷ ks) bytes made y fits e =
    let a = bind_ok (value_at k bytes) (λ first. reading_at ks first.1 (λ others rest. made (first.0, others) rest)) y e in
    let t = value_takes k bytes a.0.0 a.0.1 fits a.1 in
    let b = reading_takes ks a.0.1 (λ others rest. made (a.0.0, others) rest) y t.1.rest_fits a.2 in
    ((a.0.0, b.0), b.1, one_more k ks bytes a.0.1 b.1 a.0.0 b.0 t b.2, b.3)

unkept_is : (k : Kind) (bytes : List ℕ) → rest_of_field_at k bytes ≡ rest_of_reading (value_at k bytes)
unkept_is Number bytes = refl
unkept_is Long bytes = refl
unkept_is Text bytes = refl
unkept_is Entry bytes = refl
unkept_is Entries bytes = refl
unkept_is Authority bytes = refl
unkept_is NoBlock bytes = refl
unkept_is NoIndex bytes = refl

-- the value of a field that was not kept
unkept_ok : (k : Kind) (bytes rest : List ℕ) → rest_of_field_at k bytes ≡ Ok rest → (v : Value k) × (value_at k bytes ≡ Ok (v, rest))
unkept_ok k bytes rest e =
    let d = bind_ok (value_at k bytes) (λ x. Ok x.1) rest (sym (unkept_is k bytes) ∙ e) in
    let same : d.0.1 ≡ rest = ok_is d.0.1 rest d.2 in
    let pair : List ℕ → Result (Value k × List ℕ) WireFault = λ (r : List ℕ). Ok (d.0.0, r) in
    (d.0.0, d.1 ∙ ap pair same)

pub skipped_takes : (ks : List Kind) (bytes rest : List ℕ) → IsBytes bytes → rest_of_fields_at ks bytes ≡ Ok rest → (values : Values ks) × Taken ks bytes values rest
skipped_takes [] bytes rest fits e =
    let same : bytes ≡ rest = ok_is bytes rest e in
    (tt, record { text = []; takes = record { parts = same; rest_fits = subst IsBytes same fits }; spells = refl; fit = tt })
skipped_takes (k ∷ ks) bytes rest fits e =
    let a = bind_ok (rest_of_field_at k bytes) (λ b. rest_of_fields_at ks b) rest e in
    let v = unkept_ok k bytes a.0 a.1 in
    let t = value_takes k bytes v.0 a.0 fits v.1 in
    let b = skipped_takes ks a.0 rest t.1.rest_fits a.2 in
    ((v.0, b.0), one_more k ks bytes a.0 rest v.0 b.0 t b.1)

-- ---- what is spelled is read

pub value_again : (k : Kind) (text : List ℕ) (v : Value k) (rest : List ℕ) → SpellsValue k text v → IsFit k v → value_at k (text ++ rest) ≡ Ok (v, rest)
value_again Number text v rest spells fit = ap (λ (t : List ℕ). value_at Number (t ++ rest)) spells ∙ number_again v rest fit
value_again Long text v rest spells fit = ap (λ (t : List ℕ). value_at Long (t ++ rest)) spells ∙ long_again v rest fit
value_again Text text v rest spells fit = ap (λ (t : List ℕ). value_at Text (t ++ rest)) spells ∙ string_again v rest fit
value_again Entry text v rest spells fit = entry_again text v rest spells fit
value_again Entries text v rest spells fit = listing_again text v rest spells fit
value_again Authority text v rest spells fit = ap (λ (t : List ℕ). value_at Authority (t ++ rest)) spells ∙ authority_again v rest fit
value_again NoBlock text tt rest spells fit = ap (λ (t : List ℕ). value_at NoBlock (t ++ rest)) spells ∙ no_block_again rest
value_again NoIndex text tt rest spells fit = ap (λ (t : List ℕ). value_at NoIndex (t ++ rest)) spells ∙ no_index_again rest

pub reading_again : {A : Type 0} (ks : List Kind) (text rest : List ℕ) (values : Values ks) (made : Values ks → List ℕ → Result A WireFault) → SpellsValues ks text values → AreFit ks values
    → reading_at ks (text ++ rest) made ≡ made values rest
reading_again [] text rest tt made spells fit = ap (λ (t : List ℕ). made tt (t ++ rest)) spells
reading_again (k ∷ ks) text rest values made spells fit =
    let front = spells.0 in
    let back = spells.1 in
    let regrouped : text ++ rest ≡ front ++ (back ++ rest) = ap (λ (t : List ℕ). t ++ rest) spells.2 ∙ append_assoc front back rest in
    ap (λ (b : List ℕ). reading_at (k ∷ ks) b made) regrouped
    ∙ bind_is (value_at k (front ++ (back ++ rest))) (λ first. reading_at ks first.1 (λ others r. made (first.0, others) r)) (values.0, back ++ rest) (value_again k front values.0 (back ++ rest) spells.3 fit.0)
    ∙ reading_again ks back rest values.1 (λ others r. made (values.0, others) r) spells.4 fit.1

pub skipped_again : (ks : List Kind) (text rest : List ℕ) (values : Values ks) → SpellsValues ks text values → AreFit ks values → rest_of_fields_at ks (text ++ rest) ≡ Ok rest
skipped_again [] text rest values spells fit = ap (λ (t : List ℕ). rest_of_fields_at [] (t ++ rest)) spells
skipped_again (k ∷ ks) text rest values spells fit =
    let front = spells.0 in
    let back = spells.1 in
    let regrouped : text ++ rest ≡ front ++ (back ++ rest) = ap (λ (t : List ℕ). t ++ rest) spells.2 ∙ append_assoc front back rest in
    let first : rest_of_field_at k (front ++ (back ++ rest)) ≡ Ok (back ++ rest) = unkept_is k (front ++ (back ++ rest)) ∙ ap rest_of_reading (value_again k front values.0 (back ++ rest) spells.3 fit.0) in
    ap (λ (b : List ℕ). rest_of_fields_at (k ∷ ks) b) regrouped
    ∙ bind_is (rest_of_field_at k (front ++ (back ++ rest))) (λ b. rest_of_fields_at ks b) (back ++ rest) first
    ∙ skipped_again ks back rest values.1 spells.4 fit.1

-- ---- what is written is spelled

entries_are_spelled : (es : List UrlEntry) → SpellsEntries (flat_map (entry_bytes 0) es) es
entries_are_spelled [] = refl
entries_are_spelled (e ∷ es) = (entry_bytes 0 e, flat_map (entry_bytes 0) es, refl, (0, lit< tt, refl), entries_are_spelled es)

value_is_spelled : (k : Kind) (v : Value k) → SpellsValue k (value_bytes k v) v
value_is_spelled Number v = refl
value_is_spelled Long v = refl
value_is_spelled Text v = refl
value_is_spelled Entry v = (0, lit< tt, refl)
value_is_spelled Entries v = (flat_map (entry_bytes 0) v, refl, entries_are_spelled v)
value_is_spelled Authority v = refl
value_is_spelled NoBlock v = refl
value_is_spelled NoIndex v = refl

pub values_are_spelled : (ks : List Kind) (values : Values ks) → SpellsValues ks (values_bytes ks values) values
values_are_spelled [] values = refl
values_are_spelled (k ∷ ks) values = (value_bytes k values.0, values_bytes ks values.1, refl, value_is_spelled k values.0, values_are_spelled ks values.1)

-- ---- a field has a byte

value_some : (k : Kind) (text : List ℕ) (v : Value k) → SpellsValue k text v → 0 < length text
value_some Number text v spells = omega (arith, ap length spells)
value_some Long text v spells = omega (arith, ap length spells)
value_some Text text v spells = omega (arith, ap length spells)
value_some Entry text v spells = omega (arith, ap length spells.2)
value_some Entries text v spells = omega (arith, ap length spells.1)
value_some Authority text All spells = omega (arith, ap length spells)
value_some Authority text (Named name) spells = omega (arith, ap length spells)
value_some NoBlock text v spells = omega (arith, ap length spells)
value_some NoIndex text v spells = omega (arith, ap length spells)

pub values_some : (ks : List Kind) → 0 < length ks → (text : List ℕ) (values : Values ks) → SpellsValues ks text values → 0 < length text
values_some [] some text values spells = absurd (omega arith)
values_some (k ∷ ks) some text values spells =
    let first = value_some k spells.0 values.0 spells.3 in
    omega (arith, first, ap length spells.2, length-append spells.0 spells.1)
