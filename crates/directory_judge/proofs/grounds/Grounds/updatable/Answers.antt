use Rattle.std.proofs.Common.{sym, ap, ◌∙◌}
use Rattle.std.specs.Option.{option_copied}
use Rattle.slp_text.proofs.KeySets.{bytes_same}
use Rattle.directory_judge.proofs.Rulings.{not-false}
use Rattle.registry_core.proofs.SameTexts.{texts_same}
use Rattle.directory_judge.proofs.grounds.Grounds.updatable.Goals as goal

pub returns-clause-ok : goal.returns-clause-ok
returns-clause-ok g c = record {
  found = sym c.live_entry.ensures.value ∙ ap option_copied c.in-Some.is;
  pair = c.in-Some.ensures.pair;
  kind = sym c.text.ensures ∙ bytes_same c.text.result.now c.text-2.result.now (not-false _ (sym c.ne.ensures ∙ c.if-ne.false)) ∙ c.text-2.ensures;
  scopes = texts_same c.in-Some.old.now.scopes c.args.named.now.scopes (not-false _ (sym c.ne-2.ensures ∙ c.if-ne-2.false));
}
