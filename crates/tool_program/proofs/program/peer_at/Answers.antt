use Rattle.std.proofs.Common.{Some, ap, ap₂, ◌∙◌}
use Rattle.std.proofs.lemmas.Nat.{from_be_bytes-to_be_bytes_4}
use Rattle.std.specs.Int.{w32, from_be_bytes}
use Rattle.std.specs.Net.Addr.{ipv4_bits, ipv4_octets, IsIpv4OfBits}
use Rattle.tool_program.proofs.program.peer_at.Goals as goal

pub returns : goal.returns
unfolding ipv4_bits IsIpv4OfBits
returns c =
    ap₂ (λ b p. Some (b, p)) (ap (λ a. from_be_bytes w32 (ipv4_octets a)) c.new.ensures.ip ∙ ap (from_be_bytes w32) c.from_bits.ensures ∙ from_be_bytes-to_be_bytes_4 c.args.bits c.ranges.bits.fits) c.new.ensures.port
