use Rattle.std.proofs.Common.{◌≡◌, ◌<◌, ◌+◌, ◌++◌, sym, ap, subst, ◌∙◌, arith, map, filter, drop, length, Some}
use Rattle.std.proofs.lemmas.List.{append-nil, drop_all, length-map}
use Rattle.std.specs.Arc.{arc_value}
use Rattle.registry_core.specs.Entries.{entries_of_list, is_kind, IsListing}
use Rattle.registry_core.proofs.Lists.{listing, shared_more, walk_here, walk_past}
use Rattle.registry_core.proofs.list.ListRegistryRegistry.shares_of_kind.Goals as goal
use Rattle.registry_core.proofs.list.ListRegistryRegistry.shares_of_kind.Goals.{then-covers+in_ok-try_clone+in_ok-push, else-covers}

pub loop-at-preserved : goal.loop-at-preserved
loop-at-preserved c =
    let p = is_kind (Some c.args.kind.now) in
    let xs = c.self.inside.entries.items in
    let e = c.deref.result.now in
    let share = c.index-share.result.now in
    let i = c.loop-at.at in
    let lt : i < length xs = omega (arith, c.loop-at-test.true, c.len-at-end.ensures, c.self.inside.entries.ok.0) in
    elim c.if-covers.branch [
      | then-covers+in_ok-try_clone+in_ok-push w ↦
          let here = walk_here arc_value p xs i share e lt c.index-share.ensures c.deref.ensures (sym c.covers.ensures ∙ w.if-covers.true) in
          ap (λ ss. map arc_value ss ++ filter p (drop (i + 1) (map arc_value xs))) (ap (λ v. v.items) w.shares-is ∙ w.in_ok-push.ensures.items)
          ∙ shared_more c.loop-at.shares.items w.in_ok-try_clone.field-0 e (filter p (drop i (map arc_value xs))) (filter p (drop (i + 1) (map arc_value xs))) (filter p (map arc_value xs)) (w.in_ok-try_clone.ensures ∙ sym c.deref.ensures) here c.loop-at.invariant
      | else-covers w ↦
          let past = walk_past arc_value p xs i share e lt c.index-share.ensures c.deref.ensures (sym c.covers.ensures ∙ w.if-covers.false) in
          ap (λ ss. map arc_value ss ++ filter p (drop (i + 1) (map arc_value xs))) (ap (λ v. v.items) w.shares-is)
          ∙ ap (λ es. map arc_value c.loop-at.shares.items ++ es) past ∙ c.loop-at.invariant
    ]

pub returns-clause-whole : goal.returns-clause-whole
returns-clause-whole c =
    let p = is_kind (Some c.args.kind.now) in
    let xs = c.self.inside.entries.items in
    let over = drop_all c.loop-at.at (map arc_value xs) (omega (arith, c.loop-at-test.false, c.len-at-end.ensures, c.self.inside.entries.ok.0, length-map xs arc_value)) in
    let all : map arc_value c.loop-at.shares.items ≡ filter p (map arc_value xs) = sym (append-nil (map arc_value c.loop-at.shares.items)) ∙ ap (λ es. map arc_value c.loop-at.shares.items ++ filter p es) (sym over) ∙ c.loop-at.invariant in
    subst (λ es. IsListing p (entries_of_list es) (map arc_value c.loop-at.shares.items)) (ap (λ r. r.entries) c.self.view_is)
    (subst (IsListing p (entries_of_list (map arc_value xs))) (sym all) (listing p (map arc_value xs) c.self.invariant.distinct))
