use Rattle.std.proofs.Common.{◌≡◌, rules, sym, arith, ◌∙◌}
use Rattle.std.proofs.lemmas.Grind.{common_steps}
use Rattle.std.specs.Io.KnownBytes.{Appends}
use Rattle.std.specs.Option.{option_copied}
use Rattle.site_reports.specs.Reports.{config_text, rules_text, template_text}
use Rattle.slp_script.specs.declared.command.Block.TheVariants.{Config, Template, Rules}
use Rattle.replay_program.specs.Sessions.{IsAgent}
use Rattle.replay_program.specs.Worlds.{World, late_text}
use Rattle.replay_program.proofs.CommandsDone.{Closes-added, Closes-late, Closes-ruled, Closes-told}
use Rattle.replay_program.proofs.progress.close.Goals as goal
use Rattle.replay_program.proofs.progress.close.Goals.{in-Config, in-Config-2+in_ok-configure-in-Config-2, in-Template+in_ok-add_template-in-Template, in-Rules+in_ok-told-in-Rules}

pub returns-in-Ok : goal.returns-in-Ok
returns-in-Ok g c =
    let s = c.args.session.now in
    let kept = option_copied c.args.text in
    elim c.match-block.branch [
      | in-Config w ↦
          let out = rw (sym w.written-is ∙ c.in-Ok.is) at w.write_all-written.ensures in
          rw (w.writer-is, w.session-is) (late_text, out.bytes, Closes-late s c.args.block kept w.in-Config.is w.if-session.true)
      | in-Config-2+in_ok-configure-in-Config-2 w ↦
          let is : c.args.block ≡ Config = first_of (search rules, cc, grind (arith, common_steps)) in
          let told = w.in_ok-configure-in-Config-2.field-0 in
          let out : Appends (g.W.Write.contents c.args.writer.now) (g.W.Write.contents w.print_config-written.new.writer) (config_text told) = rw (sym w.written-is ∙ c.in-Ok.is) at w.print_config-written.ensures in
          rw (is, w.writer-is, w.session-is) (config_text told, out, Closes-told s w.configure.new.self kept told w.if-session.false (λ (v : World) (h : IsAgent v s.agent). w.in_ok-configure-in-Config-2.ensures v h))
      | in-Template+in_ok-add_template-in-Template w ↦
          let is : c.args.block ≡ Template = first_of (search rules, cc, grind (arith, common_steps)) in
          let told = w.in_ok-add_template-in-Template.field-0 in
          let out : Appends (g.W.Write.contents c.args.writer.now) (g.W.Write.contents w.print_template-written.new.writer) (template_text told) = rw (sym w.written-is ∙ c.in-Ok.is) at w.print_template-written.ensures in
          rw (is, w.writer-is, w.session-is) (template_text told, out, Closes-added s w.add_template.new.self kept told w.if-session.false (λ (v : World) (h : IsAgent v s.agent). w.in_ok-add_template-in-Template.ensures v h))
      | in-Rules+in_ok-told-in-Rules w ↦
          let is : c.args.block ≡ Rules = first_of (search rules, cc, grind (arith, common_steps)) in
          let told = w.in_ok-told-in-Rules.told in
          let out : Appends (g.W.Write.contents c.args.writer.now) (g.W.Write.contents w.print_rules-written.new.writer) (rules_text told) = rw (sym w.written-is ∙ c.in-Ok.is) at w.print_rules-written.ensures in
          rw (is, w.writer-is, w.session-is) (rules_text told, out, Closes-ruled s w.reload.new.self kept told (λ (v : World) (h : IsAgent v s.agent). w.in_ok-told-in-Rules.ensures v h))
    ]
