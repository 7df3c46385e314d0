use Rattle.std.proofs.Common.{[], None, ap, ◌∙◌}
use Rattle.site_config.specs.declared.config.Config.{Config}
use Rattle.slp_text.specs.Reading.{read_map, read_then}
use Rattle.site_opening.specs.Openings.{config_start_of, files_with, named_start_of, start_of, AreNamed, AreOf}
use Rattle.site_opening.proofs.Readings.{refused_as, refused_by_one}
use Rattle.site_opening.proofs.opening.open_site.Goals as goal

pub returns-in_err-config-clause-texts : goal.returns-in_err-config-clause-texts
returns-in_err-config-clause-texts g c =
    refused_as (λ text config. Unit {0}) config_start_of AreNamed start_of c.in_err-config.field-0.0 c.from_residual.result c.from_residual.ensures
    (λ text h. (record { config = text; rules = None; templates = [] }, ap (read_then (λ (config : Config). read_map (files_with config) (named_start_of (None, [])))) h)) c.in_err-config.ensures.text

pub returns-in-Ok-clause-texts : goal.returns-in-Ok-clause-texts
returns-in-Ok-clause-texts g c =
    let config = c.in_ok-config.ensures.text in
    let named = c.in-Ok.ensures in (
      record { config = config.0; rules = named.0.0; templates = named.0.1 },
      named.1,
      ap (read_then (λ (config : Config). read_map (files_with config) (named_start_of named.0))) config.2 ∙ ap (read_map (files_with c.in_ok-config.config)) named.2,
    )

pub returns-in-Err-clause-texts : goal.returns-in-Err-clause-texts
returns-in-Err-clause-texts g c =
    let config = c.in_ok-config.ensures.text in
    refused_by_one (λ texts named. AreOf c.in_ok-config.config texts) named_start_of AreNamed start_of c.in-Err.fault
    (λ named h. (
      record { config = config.0; rules = named.0; templates = named.1 },
      ap (read_then (λ (config : Config). read_map (files_with config) (named_start_of named))) config.2 ∙ ap (read_map (files_with c.in_ok-config.config)) h,
    )) c.in-Err.ensures
