use Rattle.toml.specs.View.{table_view}
use Rattle.site_check.specs.RuleFaults.{rule_table_lines}
use Rattle.site_check.proofs.Stops.{not_toml, of_members, too_long}
use Rattle.site_check.proofs.rule_faults.explain_rules.Goals as goal

pub returns-then-file-gt-LONGEST_TEXT : goal.returns-then-file-gt-LONGEST_TEXT
returns-then-file-gt-LONGEST_TEXT g c =
    too_long (rule_table_lines c.args.file.path.now) c.args.file.path.now c.args.file.text.now _ _ c.if-file-gt-LONGEST_TEXT.true c.in_ok-report.ensures

pub returns-in-Ok : goal.returns-in-Ok
returns-in-Ok g c =
    of_members (rule_table_lines c.args.file.path.now) c.args.file.path.now c.args.file.text.now _ _ _ (table_view c.in-Ok.table) c.if-file-gt-LONGEST_TEXT.false c.in-Ok.ensures.ok c.explain_table-told.ensures

pub returns-in-Err : goal.returns-in-Err
returns-in-Err g c =
    not_toml (rule_table_lines c.args.file.path.now) c.args.file.path.now c.args.file.text.now _ _ _ c.in-Err.fault c.if-file-gt-LONGEST_TEXT.false c.in-Err.ensures.refused c.in-Err.ensures.span c.explain_toml.ensures.written c.explain_toml.ensures.text
