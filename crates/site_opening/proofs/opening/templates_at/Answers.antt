use Rattle.std.proofs.Common.{◌≡◌, ◌∷◌, length, ap, suc, sym, ◌∙◌, add-one}
use Rattle.slp_text.specs.Reading.{read_then}
use Rattle.srv_template.specs.Conformity.{SiteTemplates}
use Rattle.site_opening.specs.Openings.{templates_and, templates_start_of}
use Rattle.site_opening.proofs.Readings.{refused_as}
use Rattle.site_opening.proofs.opening.templates_at.Goals as goal

pub returns-in_err-add_template : goal.returns-in_err-add_template
returns-in_err-add_template g c =
    let s = c.loop-path.invariant in
    refused_as (λ t added. t ≡ c.as_str-in-loop-path.result.now) (templates_and c.loop-path.templates) (λ texts templates. length texts ≡ length c.args.paths.now) templates_start_of c.in_err-add_template.field-0.0 c.from_residual-in_err-add_template.result c.from_residual-in_err-add_template.ensures
    (λ text h. (text ∷ s.0, ap (read_then (λ (templates : SiteTemplates). templates_and templates text)) s.2 ∙ h)) c.in_err-add_template.ensures

pub loop-path-preserved : goal.loop-path-preserved
loop-path-preserved g c =
    let s = c.loop-path.invariant in
    let added = c.in_ok-add_template.ensures in
    (added.0 ∷ s.0, ap suc s.1 ∙ sym (add-one _), ap (read_then (λ (templates : SiteTemplates). templates_and templates added.0)) s.2 ∙ added.2)
