use Rattle.std.proofs.Common.{◌∷◌, None, ap, ◌∙◌}
use Rattle.std.specs.Prelude.{ℕ}
use Rattle.access_rules.specs.Deciding.{SiteRules}
use Rattle.directory_runs.specs.Changes.{reload_at}
use Rattle.published_view.specs.Changes.{written_at}
use Rattle.published_view.proofs.Writers.{acts_at, published, reload_is_legal, reload_is_written}
use Rattle.published_view.proofs.writer.DirectoryWriter.reload.Goals as goal

pub put_out-requires-clause-legal : goal.put_out-requires-clause-legal
put_out-requires-clause-legal g c = reload_is_legal c.self.inside.own c.args.self.now.history c.self.invariant.1 (ap published c.self.view_is) c.args.moment c.now-now.result c.now-now.ensures c.args.rules

pub put_out-requires-clause-written : goal.put_out-requires-clause-written
put_out-requires-clause-written g c = reload_is_written c.self.inside.own c.args.self.now.history c.self.invariant.1 (ap published c.self.view_is) c.args.moment c.now-now.result c.now-now.ensures _

pub returns-clause-made : goal.returns-clause-made
returns-clause-made g c =
    let h = c.args.self.now.history in
    let at = acts_at c.self.inside.own h c.self.invariant.1 (ap published c.self.view_is) c.args.moment c.now-now.result c.now-now.ensures in
    c.in_ok-put_out.ensures.made ∙ (ap (λ (rs : SiteRules). written_at c.args.self.now (reload_at c.now-now.result rs ∷ h) None) c.in_ok-rules.ensures.ok ∙ ap (λ (n : ℕ). written_at c.args.self.now (reload_at n c.args.rules ∷ h) None) at)
