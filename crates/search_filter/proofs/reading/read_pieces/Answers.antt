use Rattle.std.proofs.Common.{ap, chars}
use Rattle.std.specs.List.{slice_split}
use Rattle.std.proofs.lemmas.Result.{err_from_is_err_and}
use Rattle.slp_text.specs.Reading.{read_all}
use Rattle.slp_tags.specs.Tags.{is_star}
use Rattle.attr_values.specs.Rests.{rest_of}
use Rattle.search_filter.specs.Operands.{characters_in}
use Rattle.search_filter.proofs.PatternPieces.{piece-added, piece-stops, pieces-less}
use Rattle.search_filter.proofs.reading.read_pieces.Goals as goal

pub returns-in_err-read : goal.returns-in_err-read
returns-in_err-read c =
    let p = err_from_is_err_and c.from_residual.result c.from_residual.ensures.1 in
    rw (p.1, p.2) (piece-stops (read_all characters_in (slice_split is_star (chars c.args.text.now))) c.loop-rest.pieces.items (rest_of c.loop-rest.rest) (rest_of c.cut_at.result.1) (chars c.in-Some.list.now)
    (chars c.cut_at.result.0.now) c.in_err-read.field-0.0 c.loop-rest.invariant (ap rest_of c.in-Some.is) c.cut_at.ensures.before c.cut_at.ensures.after c.in_err-read.ensures)

pub loop-rest-smaller : goal.loop-rest-smaller
loop-rest-smaller c = pieces-less (rest_of c.loop-rest.rest) (rest_of c.cut_at.result.1) (chars c.in-Some.list.now) (ap rest_of c.in-Some.is) c.cut_at.ensures.after

pub loop-rest-preserved : goal.loop-rest-preserved
loop-rest-preserved c =
    piece-added (read_all characters_in (slice_split is_star (chars c.args.text.now))) c.loop-rest.pieces.items c.push.new.self.items (rest_of c.loop-rest.rest) (rest_of c.cut_at.result.1) (chars c.in-Some.list.now)
    (chars c.cut_at.result.0.now) c.in_ok-read.read c.loop-rest.invariant (ap rest_of c.in-Some.is) c.cut_at.ensures.before c.cut_at.ensures.after c.in_ok-read.ensures c.in_ok-push.ensures.items
