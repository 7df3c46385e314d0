use Rattle.std.proofs.Common.{◌≡◌, drop, map}
use Rattle.std.specs.Prelude.{find}
use Rattle.std.specs.List.{enumerate_from}
use Rattle.toml.specs.View.{view}
use Rattle.site_check.specs.RuleFaults.{has_name}
use Rattle.site_check.proofs.rule_faults.number_named.Given as goal

abbrev pub invariant-loop-i : goal.invariant-loop-i
invariant-loop-i l =
    find (λ numbered. has_name l.name numbered.1) (enumerate_from l.first (map view l.values)) ≡ find (λ numbered. has_name l.name numbered.1) (drop l.i (enumerate_from l.first (map view l.values)))
