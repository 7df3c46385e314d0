use Rattle.std.proofs.Common.{◌++◌, subst₂}
use Rattle.std.specs.Io.KnownBytes.{Appends}
use Rattle.std.proofs.KnownBytes.{Appends-trans}
use Rattle.site_check.specs.Descriptors.{limit_line, need_line}
use Rattle.site_check.proofs.descriptors.tell_descriptors.Goals as goal

pub returns : goal.returns
returns g c =
    let file = c.args.file.now in (
      c.in_ok-most.ensures.0,
      subst₂ (λ n most. Appends (g.W.Write.contents c.args.writer.now) (g.W.Write.contents c.warn_of_limit.new.writer) (need_line file n ++ limit_line file n most)) c.needed_descriptors-need.ensures c.in_ok-most.ensures.1
          (Appends-trans _ _ _ _ _ c.in_ok-print_need.ensures c.in_ok-warn_of_limit.ensures),
    )
