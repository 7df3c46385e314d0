use Rattle.std.proofs.Common.{◌≡◌, ◌+◌, ◌-◌, ◌^◌, ◌<◌, length}
use Rattle.slp_wire.specs.Extensions.{extensions_at}
use Rattle.slp_wire.proofs.extensions.skip_extensions.Given as goal

-- what is still to come, from the offset so far, is read as the whole is
abbrev pub invariant-loop : goal.invariant-loop
invariant-loop l = (l.at + length l.rest < 2 ^ 32) × (extensions_at (length l.bytes - l.counter) l.at l.rest ≡ extensions_at (length l.bytes) l.begin l.bytes)
