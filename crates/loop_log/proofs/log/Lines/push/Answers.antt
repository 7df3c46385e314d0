use Rattle.std.proofs.Common.{◌∙◌, refl, subst, inr}
use Rattle.loop_log.specs.Logging.{IsOut}
use Rattle.loop_log.proofs.log.Lines.push.Goals as goal

pub returns-then-not-add : goal.returns-then-not-add
returns-then-not-add g c =
    inr (record {
      between = c.settle.new.self;
      out = subst (λ l. IsOut g.L.Log.writes l c.settle.new.self) (c.if-not-add.ensures.kept refl) c.settle.ensures;
      written = c.write.ensures.written;
      none = c.write.ensures.waiting ∙ c.settle.ensures.0;
    })
