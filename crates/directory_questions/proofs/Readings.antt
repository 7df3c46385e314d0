-- What bytes are read as, and whether they ask for a change.
use Rattle.std.proofs.Common.{◌≡◌, ℕ, zero, suc, Bool, true, false, cond, List, [], ◌∷◌, take, Some, None, Result, Ok, Err, ap}
use Rattle.std.specs.Prelude.{slice_index, ◌==◌, ◌||◌}
use Rattle.std.specs.Option.{option_map_or}
use Rattle.slp_headers.specs.Headers.{Heading, fields_of, is_readable}
use Rattle.slp_messages.specs.Messages.{function_of}
use Rattle.slp_wire.specs.Reading.{reading, reading_after, marked_bytes}
use Rattle.slp_wire.specs.Spelling.{Spells}
use Rattle.slp_fields.specs.declared.fault.WireFault.{WireFault}
use Rattle.slp_fields.specs.declared.fault.WireFault.TheVariants.{NoHeader}
use Rattle.slp_messages.specs.declared.message.Message.{Message}
use Rattle.directory_questions.specs.Answers.{is_change_of}
use Rattle.directory_questions.specs.Readings.{may_change, IsRead}

second_of_front : (n : ℕ) (bytes rest : List ℕ) (a b : ℕ) → take n bytes ≡ a ∷ b ∷ rest → slice_index bytes 1 ≡ b
second_of_front zero bytes rest a b h = cc
second_of_front (suc n) [] rest a b h = cc
second_of_front (suc zero) (x ∷ bytes) rest a b h = cc
second_of_front (suc (suc n)) (x ∷ []) rest a b h = cc
second_of_front (suc (suc n)) (x ∷ y ∷ bytes) rest a b h = cc

spelled-function : (bytes : List ℕ) (m : Message) → Spells (marked_bytes bytes) m → slice_index bytes 1 ≡ function_of m
spelled-function bytes m s = second_of_front _ bytes _ 2 (function_of m) s.framing

read-change : (bytes : List ℕ) (m : Message) → Spells (marked_bytes bytes) m → reading bytes ≡ Ok m → is_change_of bytes ≡ may_change m
unfolding reading is_change_of
read-change bytes m s read =
    elim (is_readable bytes) as (λ (b : Bool).
    ◌≡◌ {A = Result Message WireFault} (elim (cond b (Some (fields_of bytes)) None) [ None ↦ Err NoHeader | Some h ↦ reading_after h bytes ]) (Ok m)
    → option_map_or (λ (h : Heading). h.function == 3 || h.function == 4) (cond b (Some (fields_of bytes)) None) false ≡ may_change m) [
      | true ↦ λ _. ap (λ (f : ℕ). f == 3 || f == 4) (spelled-function bytes m s)
      | false ↦ λ k. absurd cc
    ] read

pub is_read : (bytes : List ℕ) (m : Message) → Spells (marked_bytes bytes) m → reading bytes ≡ Ok m → IsRead bytes m
is_read bytes m s read = record { read = read; sound = s.sound; change = read-change bytes m s read }
