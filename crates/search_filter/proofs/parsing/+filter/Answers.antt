use Rattle.std.proofs.Common.{◌∙◌, arith, chars, sym}
use Rattle.std.proofs.lemmas.Result.{err_from_is_err_and}
use Rattle.search_filter.specs.Reading.{deepest}
use Rattle.search_filter.specs.Trees.{filter_of}
use Rattle.search_filter.proofs.ParsedFilters.{below, connected-reads, connected-shallow, connected-stops, inner-shorter, inner-stops, one-added, one-too-deep, one-too-many, rest-left, turn-shorter, unclosed-stops}
use Rattle.search_filter.proofs.parsing.+filter.Goals as goal

pub read_connected-returns-then-not-takes_more-clause-front : goal.read_connected-returns-then-not-takes_more-clause-front
read_connected-returns-then-not-takes_more-clause-front t c =
    one-too-many c.args.connective (chars c.args.text.now) c.args.level c.loop-inside.filters.items (chars c.loop-inside.rest.now) c.loop-inside.invariant.0 (chars c.in-Some.inside.now) c.in-Some.ensures
    (sym c.takes_more.ensures ∙ c.if-not-takes_more.true)

pub read_connected-returns-then-level-eq-DEEPEST-clause-front : goal.read_connected-returns-then-level-eq-DEEPEST-clause-front
read_connected-returns-then-level-eq-DEEPEST-clause-front t c =
    one-too-deep c.args.connective (chars c.args.text.now) c.args.level c.loop-inside.filters.items (chars c.loop-inside.rest.now) c.loop-inside.invariant.0 (chars c.in-Some.inside.now) c.in-Some.ensures
    (sym c.takes_more.ensures ∙ c.if-not-takes_more.false) c.if-level-eq-DEEPEST.true

pub read_connected-read_filter-requires : goal.read_connected-read_filter-requires
read_connected-read_filter-requires t c =
    let s =
    inner-shorter c.args.connective (chars c.args.text.now) c.args.level c.loop-inside.filters.items (chars c.loop-inside.rest.now) c.loop-inside.invariant.0 (chars c.in-Some.inside.now) c.in-Some.ensures in
    let b = below c.args.level deepest c.requires.1.1 c.if-level-eq-DEEPEST.false in
    (omega (arith, s, c.requires.1.0), omega (arith, b))

pub read_connected-returns-in_err-front-clause-front : goal.read_connected-returns-in_err-front-clause-front
read_connected-returns-in_err-front-clause-front t c =
    let p = err_from_is_err_and c.from_residual.result c.from_residual.ensures.1 in
    let b = below c.args.level deepest c.requires.1.1 c.if-level-eq-DEEPEST.false in
    rw (p.1, p.2) (inner-stops c.args.connective (chars c.args.text.now) c.args.level c.loop-inside.filters.items (chars c.loop-inside.rest.now) c.loop-inside.invariant.0 (chars c.in-Some.inside.now)
    c.in_err-front.field-0.0 c.in-Some.ensures (sym c.takes_more.ensures ∙ c.if-not-takes_more.false) b c.in_err-front.ensures.front)

pub read_connected-loop-inside-smaller : goal.read_connected-loop-inside-smaller
read_connected-loop-inside-smaller t c = turn-shorter (chars c.loop-inside.rest.now) (chars c.in-Some.inside.now) (chars c.in_ok-front.front.rest.now) c.in-Some.ensures c.in_ok-front.ensures.shorter

pub read_connected-loop-inside-preserved : goal.read_connected-loop-inside-preserved
read_connected-loop-inside-preserved t c =
    let b = below c.args.level deepest c.requires.1.1 c.if-level-eq-DEEPEST.false in (
      one-added c.args.connective (chars c.args.text.now) c.args.level c.loop-inside.filters.items (chars c.loop-inside.rest.now) c.loop-inside.invariant.0 (chars c.in-Some.inside.now)
          (chars c.in_ok-front.front.rest.now) c.in_ok-front.front.tree c.push.new.self.items c.in-Some.ensures (sym c.takes_more.ensures ∙ c.if-not-takes_more.false) b
          (λ frames at. let r = c.in_ok-front.ensures.front frames at in (r.same, r.depth)) c.in_ok-front.ensures.shorter c.in_ok-push.ensures.items,
      c.in_ok-front.ensures.text,
    )

pub read_connected-returns-in_default-closed-clause-front : goal.read_connected-returns-in_default-closed-clause-front
read_connected-returns-in_default-closed-clause-front t c =
    unclosed-stops c.args.connective (chars c.args.text.now) c.args.level c.loop-inside.filters.items (chars c.loop-inside.rest.now) c.loop-inside.invariant.0 c.in_default.ensures c.in_default-closed.ensures

pub read_connected-returns-in_err-tree-clause-front : goal.read_connected-returns-in_err-tree-clause-front
read_connected-returns-in_err-tree-clause-front t c =
    let p = err_from_is_err_and c.from_residual-in_err-tree.result c.from_residual-in_err-tree.ensures.1 in
    rw (p.1, p.2) (connected-stops c.args.connective (chars c.args.text.now) c.args.level c.loop-inside.filters.items (chars c.loop-inside.rest.now) c.loop-inside.invariant.0 (chars c.in-Some-closed.after.now)
    c.in_err-tree.field-0.0 c.in_default.ensures c.in-Some-closed.ensures c.in_err-tree.ensures)

pub read_connected-returns-clause-front : goal.read_connected-returns-clause-front
read_connected-returns-clause-front t c = λ outer at. record {
  same = connected-reads c.args.connective (chars c.args.text.now) c.args.level c.loop-inside.filters.items (chars c.loop-inside.rest.now) c.loop-inside.invariant.0 (chars c.in-Some-closed.after.now)
      (filter_of c.in_ok-tree.tree) c.in_default.ensures c.in-Some-closed.ensures c.in_ok-tree.ensures outer at;
  depth = let k = connected-shallow c.args.connective (chars c.args.text.now) c.args.level c.loop-inside.filters.items (chars c.loop-inside.rest.now) c.loop-inside.invariant.0 (filter_of c.in_ok-tree.tree) c.in_ok-tree.ensures in omega (arith, k, at);
}

pub read_connected-returns-clause-shorter : goal.read_connected-returns-clause-shorter
read_connected-returns-clause-shorter t c =
    rest-left c.args.connective (chars c.args.text.now) c.args.level c.loop-inside.filters.items (chars c.loop-inside.rest.now) c.loop-inside.invariant.0 (chars c.in-Some-closed.after.now) c.in-Some-closed.ensures
