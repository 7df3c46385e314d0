use Rattle.site_check.proofs.config_faults.explain_toml.Goals as goal

pub returns-clause-written : goal.returns-clause-written
returns-clause-written g c =
    (record { place = c.in-Some.span.start; message = c.message.result.now }, c.in-Some.ensures.range.0, rw (← c.line_at.ensures) c.in_ok-report.ensures)
