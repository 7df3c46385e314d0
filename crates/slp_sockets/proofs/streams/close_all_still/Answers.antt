use Rattle.std.proofs.Common.{◌≡◌, refl, sym, ap, ◌∙◌, inl, inr, arith}
use Rattle.std.proofs.lemmas.Bool.{cases_lt}
use Rattle.slp_sockets.specs.Holding.{moment_of}
use Rattle.slp_sockets.specs.Sitting.{seats}
use Rattle.slp_sockets.proofs.Sitting.{same_moment, within_slots}
use Rattle.slp_sockets.proofs.streams.close_all_still.Goals as goal

pub loop-key-init : goal.loop-key-init
loop-key-init c = record {
  passed = λ key at less is. absurd (omega (arith, less));
  kept = λ key s is fresh. is;
  only = λ key s is. is;
  len = omega arith;
  capacity = refl;
}

pub loop-key-preserved : goal.loop-key-preserved
loop-key-preserved c =
    let before = c.loop-key.invariant in
    let after = seats c.close_where_still.new.peers in
    record {
      passed = λ key at less is. elim (cases_lt key c.loop-key.key) [
        | inl lower ↦ before.passed key at lower (same_moment (seats c.loop-key.peers) after c.close_where_still.ensures.only key at is)
        | inr least ↦
            let same : key ≡ c.loop-key.key = omega (arith, less, least) in
            c.close_where_still.ensures.closed at (sym (ap (moment_of after) same) ∙ is)
      ];
      kept = λ key s is fresh. c.close_where_still.ensures.kept key s (before.kept key s is fresh) fresh;
      only = λ key s is. before.only key s (c.close_where_still.ensures.only key s is);
      len = omega (arith, before.len, c.close_where_still.ensures.len);
      capacity = c.close_where_still.ensures.capacity ∙ before.capacity;
    }

pub returns-clause-none : goal.returns-clause-none
returns-clause-none c = λ key at is.
    let slot = within_slots c.args.peers.now key at (same_moment (seats c.args.peers.now) (seats c.loop-key.peers) c.loop-key.invariant.only key at is) in
    c.loop-key.invariant.passed key at (omega (arith, slot, c.capacity-key-end.ensures.slots, c.loop-key-test.false)) is

pub returns-clause-kept : goal.returns-clause-kept
returns-clause-kept c = c.loop-key.invariant.kept

pub returns-clause-only : goal.returns-clause-only
returns-clause-only c = c.loop-key.invariant.only

pub returns-clause-len : goal.returns-clause-len
returns-clause-len c = c.loop-key.invariant.len

pub returns-clause-capacity : goal.returns-clause-capacity
returns-clause-capacity c = c.loop-key.invariant.capacity
