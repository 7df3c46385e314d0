use Rattle.std.proofs.KnownBytes.{Appends-trans}
use Rattle.std.proofs.lemmas.List.{take-map}
use Rattle.toml.specs.View.{view}
use Rattle.site_check.proofs.rule_faults.explain_rule.Goals as goal

pub returns : goal.returns
returns g c =
    rw (← c.name_of-name.ensures, ← c.keys_of.ensures, take-map view c.args.indexed.0 c.args.file.rules.now)
    (Appends-trans _ _ _ _ _ c.in_ok-explain_value.ensures c.in_ok-explain_name.ensures)
