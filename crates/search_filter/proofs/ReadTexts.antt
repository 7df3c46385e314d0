-- Texts of operands are read by their characters.
use Rattle.std.proofs.Common.{◌≡◌, ℕ, Bool, true, false, List, [], ◌∷◌, Option, Some, None, Result, Ok, Err, refl, sym, ap, ◌∙◌, chars, encode_utf8_all, length, arith}
use Rattle.std.specs.Prelude.{IsUtf8, ◌==◌, ◌<◌, if◌then◌else◌}
use Rattle.std.specs.Option.{option_map_or}
use Rattle.std.specs.Str.{is_utf8}
use Rattle.std.proofs.lemmas.Str.{IsUtf8-from_is_utf8, chars-nil, encodes-chars, is_utf8-from_IsUtf8}
use Rattle.slp_text.specs.Escapes.{unescaped_bytes}
use Rattle.slp_text.specs.Reading.{IsByteReading}
use Rattle.slp_text.specs.declared.faults.TextFault.{TextFault}
use Rattle.slp_text.specs.declared.faults.TextFault.TheVariants as text
use Rattle.slp_text.specs.Keys.{trimmed_text}
use Rattle.attr_values.specs.Values.{opaque_rest}
use Rattle.attr_list.specs.Pieces.{part_after, part_before}
use Rattle.search_filter.specs.Operands.{characters_by, characters_in, ends_at, has, is_nothing, null, star_after, star_fault}
use Rattle.search_filter.specs.Outcomes.{fault_in_text, IsFault, IsReading, IsSameFault}
use Rattle.search_filter.specs.declared.fault.FilterFault.{FilterFault}
use Rattle.search_filter.specs.declared.fault.FilterFault.TheVariants.{Syntax, Wildcard, TooDeep, NoMemory}
use Rattle.search_filter.proofs.Faults.{fault-same}

-- the bytes of a text are those of its characters
pub read_bytes : (t : List ℕ) → IsUtf8 t → unescaped_bytes (encode_utf8_all (chars t)) ≡ unescaped_bytes t
read_bytes t u = ap unescaped_bytes (encodes-chars t u)

pub characters-ok : (t s : List ℕ) → IsUtf8 t → IsUtf8 s → unescaped_bytes t ≡ Ok s → characters_in (chars t) ≡ Ok (chars s)
characters-ok t s u v h = ap characters_by (read_bytes t u ∙ h) ∙ (rw (is_utf8-from_IsUtf8 s v) refl)

not_utf8 : (bytes : List ℕ) → (IsUtf8 bytes → ⊥) → is_utf8 bytes ≡ false
not_utf8 bytes none =
    elim (is_utf8 bytes) as (λ b. is_utf8 bytes ≡ b → b ≡ false) [
      | true ↦ λ t. absurd (none (IsUtf8-from_is_utf8 bytes t))
      | false ↦ λ f. refl
    ] refl

pub characters-err : (t : List ℕ) (e : TextFault) → IsUtf8 t → IsByteReading (Err e) (unescaped_bytes t) → IsFault (fault_in_text e) (characters_in (chars t))
characters-err t text.NoMemory u h = tt
characters-err t text.BadEscape u h = ap characters_by (read_bytes t u ∙ h)
characters-err t text.Reserved u h = ap characters_by (read_bytes t u ∙ h)
characters-err t text.NotUtf8 u h = ap characters_by (read_bytes t u ∙ h.1) ∙ (rw (not_utf8 h.0 h.2) refl)

some_left : (t cs : List ℕ) → cs ≡ chars t → encode_utf8_all cs ≡ t → 0 < length t → (length t == 0) ≡ is_nothing cs
some_left t [] is e some = absurd (let k = ap length e in omega (arith, k, some))
some_left t (c ∷ cs) is e some = grind arith

-- a text that is empty, and one that is not
pub nothing : (t : List ℕ) → IsUtf8 t → (length t == 0) ≡ is_nothing (chars t)
nothing [] u = ap is_nothing (sym chars-nil)
nothing (b ∷ bs) u = some_left (b ∷ bs) (chars (b ∷ bs)) refl (encodes-chars (b ∷ bs) u) (omega arith)

-- what stands before a mark, if nothing comes after it
pub ended : (mark : ℕ) (cs : List ℕ) (o : Option (List ℕ)) (b : Bool) → o ≡ part_after mark cs → option_map_or is_nothing o false ≡ b → (if b then Some (part_before mark cs) else None) ≡ (if ends_at mark cs then Some (part_before mark cs) else None)
ended mark cs o b is end = let e : ends_at mark cs ≡ b = ap (λ p. option_map_or is_nothing p false) (sym is) ∙ end in rw e refl

-- what is read of one text is read of another that reads the same
pub reading-same : {A : Type 0} (r : Result A FilterFault) (x y : Result A FilterFault) → y ≡ x → IsReading r x → IsReading r y
reading-same (Ok v) x y same h = same ∙ h
reading-same (Err e) x y same h = fault-same e x y same h

-- the same of faults
pub same-fault : (e x y : FilterFault) → y ≡ x → IsSameFault e x → IsSameFault e y
same-fault Syntax x y same h = same ∙ h
same-fault Wildcard x y same h = same ∙ h
same-fault TooDeep x y same h = same ∙ h
same-fault NoMemory x y same h = tt

-- the fault of a `*` after a text that is not opaque
pub star-text : (t : List ℕ) → IsUtf8 t → has null (chars t) ≡ false → opaque_rest (trimmed_text (chars t)) ≡ None → star_fault (chars t) ≡ star_after (unescaped_bytes t)
star-text t u h n = rw (h, n) (ap star_after (read_bytes t u))
