use Rattle.std.proofs.Common.{◌≡◌, drop}
use Rattle.std.specs.Prelude.{find}
use Rattle.std.specs.List.{enumerate_from}
use Rattle.site_check.specs.Hiding.{hides}
use Rattle.site_check.proofs.warnings.warn_of_hiding.Given as goal

abbrev pub invariant-loop-i : goal.invariant-loop-i
invariant-loop-i g l =
    record {
      still : l.writer ≡ l.initial.writer;
      passed : find (λ other. hides other.1 l.rule) (enumerate_from 1 l.earlier) ≡ find (λ other. hides other.1 l.rule) (drop l.i (enumerate_from 1 l.earlier));
    }
