use Rattle.std.proofs.Common.{◌≡◌, [], List, ℕ, ap, is_some, length, ◌∙◌}
use Rattle.access_rules.specs.Deciding.{SiteRules}
use Rattle.slp_text.specs.Reading.{read_map, read_then}
use Rattle.srv_template.specs.Conformity.{SiteTemplates}
use Rattle.site_opening.specs.Openings.{named_start_of, rules_start_of, templates_start_of, AreOf}
use Rattle.site_opening.specs.Statuses.{read_start}
use Rattle.site_opening.proofs.Readings.{refused_as}
use Rattle.site_opening.proofs.opening.named.Goals as goal

pub returns-in_err-rules : goal.returns-in_err-rules
returns-in_err-rules g c =
    refused_as (λ text rules. is_some text ≡ is_some c.as_ref.result) rules_start_of (λ texts named. AreOf c.args.config.now texts) named_start_of (read_start c.in_err-rules.field-0.0) c.from_residual.result c.from_residual.ensures
    (λ text h. ((text, []), ap (read_then (λ (rules : SiteRules). read_map (λ (templates : SiteTemplates). (rules, templates)) (templates_start_of []))) h)) c.in_err-rules.ensures

pub returns-in_err-templates : goal.returns-in_err-templates
returns-in_err-templates g c =
    let rules = c.in_ok-rules.ensures in
    refused_as (λ texts templates. length texts ≡ length c.args.config.now.templates) templates_start_of (λ texts named. AreOf c.args.config.now texts) named_start_of c.in_err-templates.field-0.0 c.from_residual-in_err-templates.result c.from_residual-in_err-templates.ensures
    (λ texts h. (
      (rules.0, texts),
      ap (read_then (λ (rules : SiteRules). read_map (λ (templates : SiteTemplates). (rules, templates)) (templates_start_of texts))) rules.2 ∙ ap (read_map (λ (templates : SiteTemplates). (c.in_ok-rules.rules, templates))) h,
    )) c.in_err-templates.ensures

pub returns : goal.returns
returns g c =
    let rules = c.in_ok-rules.ensures in
    let templates = c.in_ok-templates.ensures in (
      (rules.0, templates.0),
      (rules.1 ∙ c.as_ref.ensures.variant, templates.1 ∙ ap (λ (paths : List (List ℕ)). length paths) c.as_slice.ensures),
      ap (read_then (λ (rules : SiteRules). read_map (λ (templates : SiteTemplates). (rules, templates)) (templates_start_of templates.0))) rules.2
          ∙ ap (read_map (λ (templates : SiteTemplates). (c.in_ok-rules.rules, templates))) templates.2,
    )
