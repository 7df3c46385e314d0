use Rattle.std.proofs.KnownBytes.{Appends-trans}
use Rattle.std.proofs.lemmas.List.{length-map, take-map}
use Rattle.toml.specs.View.{view}
use Rattle.site_check.proofs.rule_faults.explain_hide.Goals as goal

pub returns : goal.returns
returns g c =
    rw (← c.name_of-name.ensures, ← c.hide_keys.ensures, take-map view c.args.indexed.0 c.args.hides.now, length-map c.args.file.rules.now view)
    (Appends-trans _ _ _ _ _ c.in_ok-explain_value.ensures c.in_ok-explain_name.ensures)
