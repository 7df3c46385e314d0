use Rattle.std.proofs.Common.{subst, ap, take}
use Rattle.std.specs.Prelude.{flat_map}
use Rattle.std.specs.Io.KnownBytes.{Appends}
use Rattle.std.specs.List.{enumerate_from}
use Rattle.std.proofs.KnownBytes.{Appends-trans}
use Rattle.site_check.specs.ListenWarnings.{listen_line}
use Rattle.site_check.proofs.Written.{flat_map-indexed, indexed_all}
use Rattle.site_check.proofs.listening.warn_of_listen.Goals as goal

pub loop-i-preserved : goal.loop-i-preserved
loop-i-preserved g c =
    let lines = listen_line c.args.file.now in
    subst (Appends (g.W.Write.contents c.args.writer.now) (g.W.Write.contents c.warn_of_address.new.writer))
    (flat_map-indexed lines c.args.places.now c.loop-i.i c.index-places-i.result c.loop-i-test.true c.index-places-i.is)
    (Appends-trans _ _ _ (flat_map lines (take c.loop-i.i (enumerate_from 0 c.args.places.now))) (lines (c.loop-i.i, c.index-places-i.result)) c.loop-i.invariant c.in_ok-warn_of_address.ensures)

pub returns : goal.returns
returns g c =
    subst (Appends (g.W.Write.contents c.args.writer.now) (g.W.Write.contents c.loop-i.writer))
    (ap (flat_map (listen_line c.args.file.now)) (indexed_all c.args.places.now c.loop-i.i c.loop-i-test.false))
    c.loop-i.invariant
