use Rattle.std.proofs.Common.{◌∙◌, sym}
use Rattle.std.proofs.lemmas.List.{append-nil}
use Rattle.slp_sockets.specs.Handing.{Letter, Talker, taken_by}
use Rattle.slp_sockets.specs.Sitting.{seat}
use Rattle.slp_sockets.proofs.Handing.{join_again, taken_more}
use Rattle.slp_sockets.proofs.lane.take_all.Goals as goal
use Rattle.slp_sockets.proofs.lane.take_all.Goals.{in-Mail, in-Stream}

pub loop-preserved : goal.loop-preserved
loop-preserved c =
    let before = c.loop.invariant in
    elim c.match-take_next.branch [
      | in-Mail w ↦ rw w.streams-is (record {
        limit = before.limit;
        joins = before.joins;
        taken = let t = w.in-Mail.ensures.taken in
            taken_more c.args.datagrams.now.aside (taken_by c.args.taker.now) c.loop.datagrams.aside (taken_by c.loop.taker) c.take_next.new.self.aside (taken_by c.take_next.new.taker) (Letter t.0) before.taken t.1 t.2;
      })
      | in-Stream w ↦ rw w.streams-is (record {
        limit = w.take_in.ensures.limit ∙ before.limit;
        joins = join_again c.args.streams.now.seats c.loop.streams.seats w.take_in.new.self.seats before.joins w.take_in.ensures.joins;
        taken = let t = w.in-Stream.ensures.taken in
            taken_more c.args.datagrams.now.aside (taken_by c.args.taker.now) c.loop.datagrams.aside (taken_by c.loop.taker) c.take_next.new.self.aside (taken_by c.take_next.new.taker) (Talker (seat w.in-Stream.peer)) before.taken (t.0 ∙ sym (append-nil c.loop.datagrams.aside)) t.1;
      })
    ]
