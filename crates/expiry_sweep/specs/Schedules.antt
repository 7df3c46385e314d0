-- Which moments are due, an interval apart.
use Rattle.std.specs.Prelude.{ℕ, ◌+◌, Bool, nat_le, if◌then◌else◌, refl}
use Rattle.std.specs.Coded.{Coded, code_by, coded×, coded_ℕ}

-- an interval, and the last moment that was due, in seconds
pub record Timing : Type 0 where
  pub interval : ℕ
  pub last : ℕ

abbrev pub timing_code : Coded Timing
timing_code = code_by (ℕ × ℕ) (coded× coded_ℕ coded_ℕ) (λ t. (t.interval, t.last)) (λ p. record { interval = p.0; last = p.1 }) (λ _. refl)

-- the interval has passed
abbrev pub is_due : Timing → ℕ → Bool
is_due t now = nat_le (t.last + t.interval) now

-- a moment that is due is the last one from then on
abbrev pub timing_after : Timing → ℕ → Timing
timing_after t now = if is_due t now then record t { last = now } else t
