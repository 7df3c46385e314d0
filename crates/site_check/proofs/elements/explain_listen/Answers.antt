use Rattle.std.proofs.Common.{map, subst, ap, take}
use Rattle.std.specs.Prelude.{flat_map}
use Rattle.std.specs.Io.KnownBytes.{Appends}
use Rattle.std.specs.List.{enumerate_from}
use Rattle.std.proofs.KnownBytes.{Appends-trans}
use Rattle.toml.specs.View.{view}
use Rattle.site_check.specs.Elements.{socket_line}
use Rattle.site_check.proofs.Written.{flat_map-indexed, indexed_all, mapped_at, mapped_past, mapped_within}
use Rattle.site_check.proofs.elements.explain_listen.Goals as goal

pub loop-i-preserved : goal.loop-i-preserved
loop-i-preserved g c =
    let line = socket_line c.args.file.now (map view c.args.values.now) in
    let values = c.args.values.now in
    subst (Appends (g.W.Write.contents c.args.writer.now) (g.W.Write.contents c.explain_socket.new.writer))
    (flat_map-indexed line (map view values) c.loop-i.i (view c.index-values-i.result) (mapped_within view values c.loop-i.i c.loop-i-test.true) (mapped_at view values c.loop-i.i c.index-values-i.result c.loop-i-test.true c.index-values-i.is))
    (Appends-trans _ _ _ (flat_map line (take c.loop-i.i (enumerate_from 0 (map view values)))) (line (c.loop-i.i, view c.index-values-i.result)) c.loop-i.invariant c.in_ok-explain_socket.ensures)

pub returns : goal.returns
returns g c =
    subst (Appends (g.W.Write.contents c.args.writer.now) (g.W.Write.contents c.loop-i.writer))
    (ap (flat_map (socket_line c.args.file.now (map view c.args.values.now))) (indexed_all (map view c.args.values.now) c.loop-i.i (mapped_past view c.args.values.now c.loop-i.i c.loop-i-test.false)))
    c.loop-i.invariant
