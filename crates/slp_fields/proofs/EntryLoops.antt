-- Reading entries one after the other, as a loop does.
use Rattle.std.proofs.Common.{◌≡◌, ℕ, suc, ◌-◌, ◌+◌, ◌≤◌, ◌<◌, List, [], ◌∷◌, ◌++◌, Result, Ok, Err, refl, sym, ap, ◌∙◌, append_assoc, arith}
use Rattle.std.proofs.lemmas.List.{append-nil}
use Rattle.slp_fields.specs.Steps.{◌>>=◌, Fails}
use Rattle.slp_fields.specs.Reading.{entry_at, entries_at, rest_of_reading}
use Rattle.slp_fields.proofs.Faults.{fails_on, bind_ok, bind_is, bind_err, ok_is}
use Rattle.slp_fields.specs.declared.fault.WireFault.{WireFault}
use Rattle.slp_messages.specs.declared.message.UrlEntry.{UrlEntry}

-- what was read before, and what is still read
abbrev pub with_front : List UrlEntry → Result (List UrlEntry × List ℕ) WireFault → Result (List UrlEntry × List ℕ) WireFault
with_front front read = read >>= λ x. Ok (front ++ x.0, x.1)

regroup : (front : List UrlEntry) (n : UrlEntry) (read : Result (List UrlEntry × List ℕ) WireFault) → with_front front (read >>= λ x. Ok (n ∷ x.0, x.1)) ≡ with_front (front ++ n ∷ []) read
regroup front n (Ok x) = ap (λ (ns : List UrlEntry). Ok (ns, x.1)) (simp append_assoc)
regroup front n (Err f) = refl

pub goes_on : (front : List UrlEntry) (count i : ℕ) (bytes : List ℕ) (n : UrlEntry) (after : List ℕ) (total : Result (List UrlEntry × List ℕ) WireFault) → i < count → entry_at bytes ≡ Ok (n, after)
    → with_front front (entries_at (count - i) bytes) ≡ total → with_front (front ++ n ∷ []) (entries_at (count - (i + 1)) after) ≡ total
unfolding entries_at
goes_on front count i bytes n after total lt h so_far =
    let k : count - i ≡ suc (count - (i + 1)) = omega arith in
    let one : with_front front (entries_at (count - i) bytes) ≡ with_front (front ++ n ∷ []) (entries_at (count - (i + 1)) after) = rw (k, h) (regroup front n (entries_at (count - (i + 1)) after)) in
    sym one ∙ so_far

-- a fault of an entry is one of the entries
failed : (e : WireFault) (front : List UrlEntry) (count i : ℕ) (bytes : List ℕ) (total : Result (List UrlEntry × List ℕ) WireFault) → i < count → entry_at bytes ≡ Err e
    → with_front front (entries_at (count - i) bytes) ≡ total → total ≡ Err e
unfolding entries_at
failed e front count i bytes total lt h so_far =
    let k : count - i ≡ suc (count - (i + 1)) = omega arith in
    let one : with_front front (entries_at (count - i) bytes) ≡ Err e = rw (k, h) refl in
    sym so_far ∙ one

pub ends : (e : WireFault) (front : List UrlEntry) (count i : ℕ) (bytes : List ℕ) (total : Result (List UrlEntry × List ℕ) WireFault) → i < count → Fails e (entry_at bytes)
    → with_front front (entries_at (count - i) bytes) ≡ total → Fails e total
ends e front count i bytes total lt fails so_far = fails_on e (entry_at bytes) total (λ h. failed e front count i bytes total lt h so_far) fails

pub is_done : (front : List UrlEntry) (count i : ℕ) (bytes : List ℕ) (total : Result (List UrlEntry × List ℕ) WireFault) → count ≤ i → with_front front (entries_at (count - i) bytes) ≡ total → total ≡ Ok (front, bytes)
unfolding entries_at
is_done front count i bytes total le so_far =
    let k : count - i ≡ 0 = omega arith in
    let one : with_front front (entries_at (count - i) bytes) ≡ Ok (front, bytes) = rw k (ap (λ (ns : List UrlEntry). Ok (ns, bytes)) (append-nil front)) in
    sym so_far ∙ one

-- ---- without the entries

regroup_unkept : (n : UrlEntry) (read : Result (List UrlEntry × List ℕ) WireFault) → rest_of_reading (read >>= λ x. Ok (n ∷ x.0, x.1)) ≡ rest_of_reading read
regroup_unkept n (Ok x) = refl
regroup_unkept n (Err f) = refl

unkept_err : {A : Type 0} (e : WireFault) (read : Result (A × List ℕ) WireFault) → rest_of_reading read ≡ Err e → read ≡ Err e
unkept_err e (Ok x) h = absurd cc
unkept_err e (Err d) h = cc

-- the first of so many entries, and the others
abbrev beyond : ℕ → UrlEntry × List ℕ → Result (List UrlEntry × List ℕ) WireFault
beyond n first = entries_at n first.1 >>= λ others. Ok (first.0 ∷ others.0, others.1)

pub skips_on : (count i : ℕ) (bytes after : List ℕ) (total : Result (List ℕ) WireFault) → i < count → rest_of_reading (entry_at bytes) ≡ Ok after
    → rest_of_reading (entries_at (count - i) bytes) ≡ total → rest_of_reading (entries_at (count - (i + 1)) after) ≡ total
unfolding entries_at
skips_on count i bytes after total lt h so_far =
    let m = count - (i + 1) in
    let k : count - i ≡ suc m = omega arith in
    let d = bind_ok (entry_at bytes) (λ x. Ok x.1) after h in
    let same : d.0.1 ≡ after = ok_is d.0.1 after d.2 in
    let one : rest_of_reading (entries_at (count - i) bytes) ≡ rest_of_reading (entries_at m d.0.1) =
    ap (λ (n : ℕ). rest_of_reading (entries_at n bytes)) k ∙ ap rest_of_reading (bind_is (entry_at bytes) (beyond m) d.0 d.1) ∙ regroup_unkept d.0.0 (entries_at m d.0.1) in
    sym (ap (λ (b : List ℕ). rest_of_reading (entries_at m b)) same) ∙ sym one ∙ so_far

skip_failed : (e : WireFault) (count i : ℕ) (bytes : List ℕ) (total : Result (List ℕ) WireFault) → i < count → rest_of_reading (entry_at bytes) ≡ Err e
    → rest_of_reading (entries_at (count - i) bytes) ≡ total → total ≡ Err e
unfolding entries_at
skip_failed e count i bytes total lt h so_far =
    let m = count - (i + 1) in
    let k : count - i ≡ suc m = omega arith in
    let d = unkept_err e (entry_at bytes) h in
    let one : rest_of_reading (entries_at (count - i) bytes) ≡ Err e = ap (λ (n : ℕ). rest_of_reading (entries_at n bytes)) k ∙ ap rest_of_reading (bind_err (entry_at bytes) (beyond m) e d) in
    sym so_far ∙ one

pub skips_fail : (e : WireFault) (count i : ℕ) (bytes : List ℕ) (total : Result (List ℕ) WireFault) → i < count → Fails e (rest_of_reading (entry_at bytes))
    → rest_of_reading (entries_at (count - i) bytes) ≡ total → Fails e total
skips_fail e count i bytes total lt fails so_far = fails_on e (rest_of_reading (entry_at bytes)) total (λ h. skip_failed e count i bytes total lt h so_far) fails

pub skips_done : (count i : ℕ) (bytes : List ℕ) (total : Result (List ℕ) WireFault) → count ≤ i → rest_of_reading (entries_at (count - i) bytes) ≡ total → total ≡ Ok bytes
unfolding entries_at
skips_done count i bytes total le so_far =
    let k : count - i ≡ 0 = omega arith in
    let one : rest_of_reading (entries_at (count - i) bytes) ≡ Ok bytes = rw k refl in
    sym so_far ∙ one
