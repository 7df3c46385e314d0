use Rattle.std.proofs.Common.{◌≡◌}
use Rattle.site_opening.proofs.Readings.{refused_add, refused_parse}
use Rattle.site_opening.proofs.opening.add_template.Goals as goal

pub returns-in-Err : goal.returns-in-Err
returns-in-Err c = refused_parse (λ t added. t ≡ c.args.text.now) c.args.templates.now c.args.text.now c.in-Err.fault c.from-in-Err.ensures c.in-Err.ensures

pub returns-in-Err-add : goal.returns-in-Err-add
returns-in-Err-add c = refused_add (λ t added. t ≡ c.args.text.now) c.args.templates.now c.args.text.now c.in-Ok.template c.in-Err-add.fault c.from.ensures c.in-Ok.ensures c.in-Err-add.ensures.0
