use Rattle.std.proofs.Common.{subst}
use Rattle.access_rules.specs.Deciding.{is_hide_about, is_rule_about, part_in, IsPart}
use Rattle.access_rules.proofs.Abouts.{see_alike}
use Rattle.access_rules.proofs.rules.Rules.about.Goals as goal

pub returns : goal.returns
returns c =
    let asker = c.args.asker in
    see_alike asker (part_in (record { rules = c.part_about.result; hides = c.part_about-2.result })) c.args.self.now
    (subst (λ rs. IsPart (λ r. is_rule_about r asker) c.part_about.result.now rs) c.as_slice.ensures c.part_about.ensures)
    (subst (λ hs. IsPart (λ h. is_hide_about h asker) c.part_about-2.result.now hs) c.hide_tables.ensures c.part_about-2.ensures)
