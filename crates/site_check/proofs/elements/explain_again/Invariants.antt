use Rattle.std.proofs.Common.{◌≡◌, drop, map}
use Rattle.std.specs.Prelude.{find}
use Rattle.std.specs.List.{enumerate_from}
use Rattle.toml.specs.View.{view}
use Rattle.site_check.specs.Elements.{is_at}
use Rattle.site_check.proofs.elements.explain_again.Given as goal

abbrev pub invariant-loop-i : goal.invariant-loop-i
invariant-loop-i g l =
    record {
      still : l.writer ≡ l.initial.writer;
      passed : find (λ other. is_at l.place other.1) (enumerate_from 1 (map view l.earlier)) ≡ find (λ other. is_at l.place other.1) (drop l.i (enumerate_from 1 (map view l.earlier)));
    }
