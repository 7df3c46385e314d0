use Rattle.std.proofs.Common.{append_assoc, subst}
use Rattle.std.specs.Prelude.{OnOk}
use Rattle.std.specs.Io.KnownBytes.{Appends}
use Rattle.site_check.proofs.Written.{written_after}
use Rattle.site_check.proofs.descriptors.print_need.Goals as goal

pub returns : goal.returns
returns g c =
    subst (λ bs. OnOk c.writeln.result (Appends (g.W.Write.contents c.args.writer.now) (g.W.Write.contents c.writeln.new.self) bs)) (simp append_assoc)
    (written_after c.writeln.result _ _ _ _ _ c.in_ok-print_text.ensures c.writeln.ensures.bytes)
