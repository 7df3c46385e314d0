-- Going from one extension to the next, as a loop does.
use Rattle.std.proofs.Common.{◌≡◌, ℕ, suc, ◌+◌, ◌-◌, ◌<◌, ◌≤◌, List, drop, Some, None, Result, Ok, Err, refl, sym, ◌∙◌, arith}
use Rattle.slp_wire.specs.Extensions.{next_at, extensions_at}
use Rattle.slp_fields.specs.Steps.{Fails}
use Rattle.slp_fields.specs.declared.fault.WireFault.{WireFault}
use Rattle.slp_fields.specs.declared.fault.WireFault.TheVariants.{NoHeader, Version, Parse, Auth, Unknown, NoMemory, TooLong}
use Rattle.slp_fields.specs.declared.fault.WireFault.TheVariants as fault

pub on_to_next : (count i at : ℕ) (bytes : List ℕ) (n : ℕ) (total : Result (Unit {0}) WireFault) → i < count → next_at at bytes ≡ Ok (Some n)
    → extensions_at (count - i) at bytes ≡ total → extensions_at (count - (i + 1)) n (drop (n - at) bytes) ≡ total
unfolding extensions_at
on_to_next count i at bytes n total lt h so_far =
    let k : count - i ≡ suc (count - (i + 1)) = omega arith in
    let one : extensions_at (count - i) at bytes ≡ extensions_at (count - (i + 1)) n (drop (n - at) bytes) = rw (k, h) refl in
    sym one ∙ so_far

pub last_is_done : (count i at : ℕ) (bytes : List ℕ) (total : Result (Unit {0}) WireFault) → i < count → next_at at bytes ≡ Ok None → extensions_at (count - i) at bytes ≡ total → total ≡ Ok tt
unfolding extensions_at
last_is_done count i at bytes total lt h so_far =
    let k : count - i ≡ suc (count - (i + 1)) = omega arith in
    let one : extensions_at (count - i) at bytes ≡ Ok tt = rw (k, h) refl in
    sym so_far ∙ one

failed_next : (e : WireFault) (count i at : ℕ) (bytes : List ℕ) (total : Result (Unit {0}) WireFault) → i < count → next_at at bytes ≡ Err e → extensions_at (count - i) at bytes ≡ total → total ≡ Err e
unfolding extensions_at
failed_next e count i at bytes total lt h so_far =
    let k : count - i ≡ suc (count - (i + 1)) = omega arith in
    let one : extensions_at (count - i) at bytes ≡ Err e = rw (k, h) refl in
    sym so_far ∙ one

-- a fault of an extension is one of the extensions
pub fails_next : (e : WireFault) (count i at : ℕ) (bytes : List ℕ) (total : Result (Unit {0}) WireFault) → i < count → Fails e (next_at at bytes) → extensions_at (count - i) at bytes ≡ total → Fails e total
fails_next NoMemory count i at bytes total lt h so_far = tt
fails_next NoHeader count i at bytes total lt h so_far = failed_next NoHeader count i at bytes total lt h so_far
fails_next Version count i at bytes total lt h so_far = failed_next Version count i at bytes total lt h so_far
fails_next Parse count i at bytes total lt h so_far = failed_next Parse count i at bytes total lt h so_far
fails_next fault.Option count i at bytes total lt h so_far = failed_next fault.Option count i at bytes total lt h so_far
fails_next Auth count i at bytes total lt h so_far = failed_next Auth count i at bytes total lt h so_far
fails_next Unknown count i at bytes total lt h so_far = failed_next Unknown count i at bytes total lt h so_far
fails_next TooLong count i at bytes total lt h so_far = failed_next TooLong count i at bytes total lt h so_far

pub none_is_left : (count i at : ℕ) (bytes : List ℕ) (total : Result (Unit {0}) WireFault) → count ≤ i → extensions_at (count - i) at bytes ≡ total → total ≡ Err Parse
unfolding extensions_at
none_is_left count i at bytes total le so_far =
    let k : count - i ≡ 0 = omega arith in
    let one : extensions_at (count - i) at bytes ≡ Err Parse = rw k refl in
    sym so_far ∙ one
