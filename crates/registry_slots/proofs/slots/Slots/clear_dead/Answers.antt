use Rattle.std.proofs.Common.{None, sym, ap, subst, ◌∙◌, arith, length, inl, inr}
use Rattle.std.proofs.lemmas.List.{length-set}
use Rattle.std.proofs.lemmas.Bool.{cases_eq}
use Rattle.registry_core.specs.Entries.{outlives}
use Rattle.registry_slots.specs.Slots.{slot_at, tests, is_due}
use Rattle.registry_slots.proofs.SlotLists.{Drops, Drops-more, tests_some, drops_kept, cleared, slot_lt}
use Rattle.registry_slots.proofs.Due.{outlives_not}
use Rattle.registry_slots.proofs.slots.Slots.clear_dead.Goals as goal

pub loop-x-preserved-then-not-is_dead_at : goal.loop-x-preserved-then-not-is_dead_at
loop-x-preserved-then-not-is_dead_at c =
    let p = is_due c.args.now in
    record {
      only = c.loop-x.invariant.only;
      gone = λ y e l h. elim (cases_eq y c.loop-x.x) [
        | inl i ↦ sym (ap (tests p) (ap (slot_at c.loop-x.self.slots) (sym i) ∙ h)) ∙ sym c.if-not-is_dead_at.ensures
        | inr d ↦ c.loop-x.invariant.gone y e (omega arith) h
      ];
      room = c.loop-x.invariant.room;
    }

pub loop-x-preserved : goal.loop-x-preserved
loop-x-preserved c =
    let p = is_due c.args.now in
    let s = tests_some p (slot_at c.loop-x.self.slots c.loop-x.x) (sym c.if-not-is_dead_at.ensures) in
    record {
      only = subst (Drops p c.args.self.now.slots) (sym c.clear.ensures) (Drops-more p c.args.self.now.slots c.loop-x.self.slots c.loop-x.x s.0 c.loop-x.invariant.only s.1 s.2);
      gone = λ y e l h.
          let w = cleared c.loop-x.self.slots c.loop-x.x y e (sym (ap (λ ss. slot_at ss y) c.clear.ensures) ∙ h) in
          c.loop-x.invariant.gone y e (omega (arith, w.1)) w.0;
      room = ap length c.clear.ensures ∙ length-set c.loop-x.self.slots c.loop-x.x None ∙ c.loop-x.invariant.room;
    }

pub returns-clause-each : goal.returns-clause-each
returns-clause-each c = λ x.
    ap (λ ss. slot_at ss x) c.raise.ensures
    ∙ drops_kept (is_due c.args.now) (outlives c.args.now) c.args.self.now.slots c.loop-x.self.slots (outlives_not c.args.now) c.loop-x.invariant.only
    (λ y e h. c.loop-x.invariant.gone y e (let l = slot_lt c.loop-x.self.slots y e h in omega (arith, c.loop-x.invariant.room, c.loop-x-test.false, c.len-x-end.ensures)) h) x

pub raise-requires : goal.raise-requires
raise-requires c = λ y e h. c.loop-x.invariant.gone y e (let l = slot_lt c.loop-x.self.slots y e h in omega (arith, c.loop-x.invariant.room, c.loop-x-test.false, c.len-x-end.ensures)) h
