use Rattle.std.proofs.Common.{ℕ, Some, sym, ap, ◌∙◌, subst, inl, inr}
use Rattle.std.specs.Net.Addr.{ipv4_bits}
use Rattle.slp_sockets.specs.Holding.{Held}
use Rattle.slp_sockets.specs.Linking.{Link}
use Rattle.slp_sockets.specs.Ports.{asker_of}
use Rattle.slp_sockets.specs.Sitting.{seat}
use Rattle.slp_sockets.specs.Turning.{IsNewcomer, fresh}
use Rattle.slp_sockets.proofs.streams.Streams.admit.Goals as goal

pub returns-clause-admits : goal.returns-clause-admits
returns-clause-admits c = λ key s is.
    let came : IsNewcomer c.args.from c.args.self.now.moment (seat c.new-peer.result) = (
      c.to_bits.result,
      ap asker_of c.in-V4.is ∙ ap (λ n. Some n) (sym (c.to_bits.ensures ∙ ap ipv4_bits c.ip.ensures)),
      ap (λ (l : Link). record { link = l; moved = c.new-peer.result.moved }) c.new-peer.ensures.connection ∙ ap (λ (n : ℕ). record { link = fresh c.to_bits.result; moved = n }) (c.new-peer.ensures.moved ∙ ap (λ (h : Held). h.moment) c.self.view_is),
    ) in
    elim (c.keep.ensures.keeps key s is) [
      | inl was ↦ inl was
      | inr same ↦ inr (subst (IsNewcomer c.args.from c.args.self.now.moment) (sym same) came)
    ]
