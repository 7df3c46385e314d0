use Rattle.std.proofs.Common.{◌∙◌}
use Rattle.std.specs.Prelude.{flat_map}
use Rattle.std.specs.BTreeMap.{keys}
use Rattle.std.proofs.KnownBytes.{Appends-trans}
use Rattle.std.proofs.lemmas.Iterator.Consumers.{YieldsList-end, YieldsList-from_rest}
use Rattle.site_check.specs.Lines.{place_in}
use Rattle.site_check.specs.RuleKeys.{keys_in, other_line}
use Rattle.site_check.proofs.TableKeys.{texts, texts-all, written_more}
use Rattle.site_check.proofs.rule_keys.explain_others.Goals as goal

pub loop-key-preserved : goal.loop-key-preserved
loop-key-preserved g c =
    let line = other_line (keys_in c.args.keys) (place_in c.args.place) in
    rw (← written_more line c.loop-key.yielded c.in-Some.key, ← c.as_str.ensures.value)
    (Appends-trans _ _ _ (flat_map line (texts c.loop-key.yielded)) (line c.as_str.result.now) c.loop-key.invariant c.in_ok-explain_other.ensures)

pub returns : goal.returns
returns g c =
    let line = other_line (keys_in c.args.keys) (place_in c.args.place) in
    let all = YieldsList-end (YieldsList-from_rest (keys c.args.table.now) (c.into_iter-key-iterator.ensures.into_iter_gives ∙ c.keys-key-items.ensures.rest)) c.loop-key.yielded _ c.loop-key.yielded_by _ _ c.in-None.is c.next.ensures.steps in
    rw (← texts-all c.loop-key.yielded c.args.table.now all.0) c.loop-key.invariant
