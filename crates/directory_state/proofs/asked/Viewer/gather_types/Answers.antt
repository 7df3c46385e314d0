use Rattle.std.proofs.Common.{◌≡◌, ◌+◌, ◌++◌, ℕ, List, [], ◌∷◌, Option, cond, length, map, true, false, None, Some, inl, inr, ◌⊎◌, sym, ap, subst, ◌∙◌}
use Rattle.std.specs.Prelude.{filter, Contains, IfSome, IsTrue}
use Rattle.std.specs.List.{AllByRecursion}
use Rattle.std.proofs.lemmas.List.{append_assoc, append-nil, map-append}
use Rattle.std.proofs.lemmas.List.Elements.{Contains-append_right}
use Rattle.registry_core.specs.declared.entry.Entry.{Entry}
use Rattle.registry_core.specs.Entries.{AreByType}
use Rattle.directory_state.specs.Searches.{entries_lent, is_listed, is_over, left_after, AreByKind, HasEachKind, HasFirstKinds}
use Rattle.directory_state.specs.TypeRooms.{bytes_of, IsMore}
use Rattle.directory_state.proofs.EachKind.{each-itself, each-past}
use Rattle.directory_state.proofs.PassedEntries.{filter-past}
use Rattle.directory_state.proofs.SeenUrls.{here}
use Rattle.directory_state.proofs.TypeFronts.{by_type-later, counted-first, first-kinds, left-counted, left-some, over-more, over-some, some-weaker}
use Rattle.directory_state.proofs.asked.Viewer.gather_types.Goals as goal
use Rattle.directory_state.proofs.asked.Viewer.gather_types.Goals.{else-are_ordered-via-then-are_ordered+else-is_over, else-are_ordered-via-else-are_ordered}
use Rattle.directory_state.proofs.asked.Viewer.gather_types.Goals.{in-Some+else-is_equal+else-not-lists+in_ok-push+then-are_ordered+then-is_over, in_default}

abbrev kinds : List Entry → List (List ℕ)
kinds es = map (λ e. e.kind) es

abbrev left-now : Option ℕ → Entry → Option ℕ
left-now left e = left_after left (length e.kind)

pub loop-entry-init : goal.loop-entry-init
loop-entry-init g c =
    let all = filter (is_listed c.args.self.now c.args.authority.now) (g.R.Registry.rest_of_kind c.args.registry.now None 0) in
    let none = sym c.in_ok-entries.ensures.items in record {
      each = subst (λ xs. HasEachKind all (entries_lent xs ++ all)) none (each-itself all);
      ordered = λ _. subst (λ xs. AreByKind (entries_lent xs)) none tt;
      last = tt;
      sorted = c.counted_room-left.ensures.by_type;
      counted = λ _. subst (λ xs. IfSome c.counted_room-left.result (λ n. c.args.room ≡ Some (n + bytes_of (kinds (entries_lent xs))))) none
          (counted-first c.args.room c.counted_room-left.result c.counted_room-left.ensures.counted);
    }

pub loop-entry-preserved-then-is_equal : goal.loop-entry-preserved-then-is_equal
loop-entry-preserved-then-is_equal g c =
    let is = is_listed c.args.self.now c.args.authority.now in
    let rest : ℕ → List Entry = g.R.Registry.rest_of_kind c.args.registry.now None in
    let e : Entry = c.in-Some.entry.now in
    let found : List Entry = entries_lent c.loop-entry.entries.items in
    let last = c.last_to-order.ensures.equal (c.is_equal.ensures c.if-is_equal.true) in
    let f : (x : Entry) × Contains found x × (x.kind ≡ e.kind) = subst (λ es. (x : Entry) × Contains (entries_lent es) x × (x.kind ≡ e.kind)) c.deref.ensures.value last in
    let passed = c.past_kind-from.ensures.passes in
    let split : rest c.loop-entry.from ≡ (e ∷ passed.0) ++ rest c.past_kind-from.result = c.in-Some.ensures.next ∙ ap (λ es. e ∷ es) passed.1 in record {
      each = each-past is (filter is (rest 0)) found (e ∷ passed.0) (rest c.past_kind-from.result) f.0
          (subst (λ es. HasEachKind (filter is (rest 0)) (found ++ filter is es)) split c.loop-entry.invariant.each)
          (sym f.2, subst (λ k. AllByRecursion (λ x. x.kind ≡ k) passed.0) (sym f.2) passed.2) f.1;
      ordered = c.loop-entry.invariant.ordered;
      last = c.loop-entry.invariant.last;
      sorted = some-weaker (AreByType (rest c.loop-entry.from)) (AreByType (rest c.past_kind-from.result)) c.loop-entry.left
          (λ up. by_type-later (e ∷ passed.0) (rest c.past_kind-from.result) (subst AreByType split up)) c.loop-entry.invariant.sorted;
      counted = c.loop-entry.invariant.counted;
    }

pub loop-entry-preserved-then-not-lists : goal.loop-entry-preserved-then-not-lists
loop-entry-preserved-then-not-lists g c =
    let is = is_listed c.args.self.now c.args.authority.now in
    let rest : ℕ → List Entry = g.R.Registry.rest_of_kind c.args.registry.now None in
    let e : Entry = c.in-Some.entry.now in
    let found : List Entry = entries_lent c.loop-entry.entries.items in
    let unlisted : is e ≡ false = sym c.lists.ensures.listed ∙ c.if-not-lists.true in
    let passed = c.past_unlisted-from.ensures in
    let split : rest c.loop-entry.from ≡ (e ∷ passed.0) ++ rest c.past_unlisted-from.result = c.in-Some.ensures.next ∙ ap (λ es. e ∷ es) passed.1 in record {
      each = subst (λ es. HasEachKind (filter is (rest 0)) (found ++ es)) (ap (filter is) c.in-Some.ensures.next ∙ filter-past is e (rest c.in-Some.next) (rest c.past_unlisted-from.result) unlisted passed) c.loop-entry.invariant.each;
      ordered = c.loop-entry.invariant.ordered;
      last = c.lists.ensures.last;
      sorted = some-weaker (AreByType (rest c.loop-entry.from)) (AreByType (rest c.past_unlisted-from.result)) c.loop-entry.left
          (λ up. by_type-later (e ∷ passed.0) (rest c.past_unlisted-from.result) (subst AreByType split up)) c.loop-entry.invariant.sorted;
      counted = c.loop-entry.invariant.counted;
    }

pub loop-entry-preserved : goal.loop-entry-preserved
loop-entry-preserved g c =
    let is = is_listed c.args.self.now c.args.authority.now in
    let rest : ℕ → List Entry = g.R.Registry.rest_of_kind c.args.registry.now None in
    let e : Entry = c.in-Some.entry.now in
    let found : List Entry = entries_lent c.loop-entry.entries.items in
    let pushed : entries_lent c.push.new.self.items ≡ found ++ e ∷ [] = ap entries_lent c.in_ok-push.ensures.items ∙ map-append (λ p. p.now) c.loop-entry.entries.items (c.in-Some.entry ∷ []) in
    let listed : is e ≡ true = sym c.lists.ensures.listed ∙ c.if-not-lists.false in
    let next : filter is (rest c.loop-entry.from) ≡ e ∷ filter is (rest c.in-Some.next) = ap (filter is) c.in-Some.ensures.next ∙ ap (λ b. cond b (e ∷ filter is (rest c.in-Some.next)) (filter is (rest c.in-Some.next))) listed in
    let there : HasEachKind (filter is (rest 0)) ((found ++ e ∷ []) ++ filter is (rest c.in-Some.next)) =
    subst (HasEachKind (filter is (rest 0))) (ap (λ xs. found ++ xs) next ∙ sym (append_assoc found (e ∷ []) (filter is (rest c.in-Some.next)))) c.loop-entry.invariant.each in
    let passed = c.past_if.ensures.passes in
    let split : rest c.loop-entry.from ≡ (e ∷ passed.0) ++ rest c.past_if.result.0 = c.in-Some.ensures.next ∙ ap (λ es. e ∷ es) passed.1 in
    let left = c.loop-entry.left in
    let ordered : IsTrue c.still_ordered-are_ordered.result → IsTrue c.loop-entry.are_ordered = λ t. (c.still_ordered-are_ordered.ensures t).0 in
    let types : kinds (found ++ e ∷ []) ≡ kinds found ++ e.kind ∷ [] = map-append (λ (x : Entry). x.kind) found (e ∷ []) in record {
      each = subst (λ xs. HasEachKind (filter is (rest 0)) (xs ++ filter is (rest c.past_if.result.0))) (sym pushed)
          (each-past is (filter is (rest 0)) (found ++ e ∷ []) passed.0 (rest c.past_if.result.0) e
          (subst (λ es. HasEachKind (filter is (rest 0)) ((found ++ e ∷ []) ++ filter is es)) passed.1 there)
          passed.2 (Contains-append_right found (e ∷ []) e (here e [])));
      ordered = λ t.
          let both = c.still_ordered-are_ordered.ensures t in
          let less = c.last_to-order.ensures.less both.1 in
          let after : AreByKind found → AreByKind (found ++ e ∷ []) = subst (λ es. AreByKind (entries_lent es) → AreByKind (entries_lent es ++ e ∷ [])) c.deref.ensures.value less in
          subst AreByKind (sym pushed) (after (c.loop-entry.invariant.ordered both.0));
      last = c.lists.ensures.last;
      sorted = subst (λ l. IfSome l (λ _. AreByType (rest c.past_if.result.0))) (sym c.left_after-left.ensures)
          (left-some (AreByType (rest c.past_if.result.0)) left (length e.kind)
          (some-weaker (AreByType (rest c.loop-entry.from)) (AreByType (rest c.past_if.result.0)) left
          (λ up. by_type-later (e ∷ passed.0) (rest c.past_if.result.0) (subst AreByType split up)) c.loop-entry.invariant.sorted));
      counted = λ t.
          let within : is_over left (length e.kind) ≡ false = elim c.else-are_ordered.branch [
            | else-are_ordered-via-then-are_ordered+else-is_over w ↦ sym w.is_over.ensures ∙ w.if-is_over.false
            | else-are_ordered-via-else-are_ordered w ↦ absurd (let no : true ≡ false = sym t ∙ w.if-are_ordered.false in cc)
          ] in
          subst (λ l. IfSome l (λ n. c.args.room ≡ Some (n + bytes_of (kinds (entries_lent c.push.new.self.items))))) (sym c.left_after-left.ensures)
          (subst (λ ts. IfSome (left-now left e) (λ n. c.args.room ≡ Some (n + bytes_of ts))) (sym (ap kinds pushed ∙ types))
          (left-counted c.args.room left (kinds found) e.kind (c.loop-entry.invariant.counted (ordered t)) within));
    }

pub returns-clause-found : goal.returns-clause-found
returns-clause-found g c =
    let is = is_listed c.args.self.now c.args.authority.now in
    let rest : ℕ → List Entry = g.R.Registry.rest_of_kind c.args.registry.now None in
    let es : List Entry = filter is (rest 0) in
    let found : List Entry = entries_lent c.loop-entry.entries.items in
    let left = c.loop-entry.left in
    let room = c.args.room in
    elim c.match-by_kind.branch [
      | in-Some+else-is_equal+else-not-lists+in_ok-push+then-are_ordered+then-is_over w ↦
          let e : Entry = w.in-Some.entry.now in
          let pushed : entries_lent w.push.new.self.items ≡ found ++ e ∷ [] = ap entries_lent w.in_ok-push.ensures.items ∙ map-append (λ p. p.now) c.loop-entry.entries.items (w.in-Some.entry ∷ []) in
          let types : kinds (found ++ e ∷ []) ≡ kinds found ++ e.kind ∷ [] = map-append (λ (x : Entry). x.kind) found (e ∷ []) in
          let listed : is e ≡ true = sym w.lists.ensures.listed ∙ w.if-not-lists.false in
          let next : filter is (rest c.loop-entry.from) ≡ e ∷ filter is (rest w.in-Some.next) = ap (filter is) w.in-Some.ensures.next ∙ ap (λ b. cond b (e ∷ filter is (rest w.in-Some.next)) (filter is (rest w.in-Some.next))) listed in
          let there : HasEachKind es ((found ++ e ∷ []) ++ filter is (rest w.in-Some.next)) =
          subst (HasEachKind es) (ap (λ xs. found ++ xs) next ∙ sym (append_assoc found (e ∷ []) (filter is (rest w.in-Some.next)))) c.loop-entry.invariant.each in
          let both = w.still_ordered-are_ordered.ensures w.if-are_ordered.true in
          let after : AreByKind found → AreByKind (found ++ e ∷ []) = subst (λ xs. AreByKind (entries_lent xs) → AreByKind (entries_lent xs ++ e ∷ [])) w.deref.ensures.value (w.last_to-order.ensures.less both.1) in
          let over : is_over left (length e.kind) ≡ true = sym w.is_over.ensures ∙ w.if-is_over.true in
          let up : AreByType (e ∷ rest w.in-Some.next) = subst AreByType w.in-Some.ensures.next (over-some (AreByType (rest c.loop-entry.from)) left (length e.kind) c.loop-entry.invariant.sorted over) in
          let more : IsMore room (kinds (entries_lent w.push.new.self.items)) = subst (IsMore room) (sym (ap kinds pushed ∙ types)) (over-more room left (kinds found) e.kind (c.loop-entry.invariant.counted both.0) over) in
          let first = subst (HasFirstKinds es) (sym pushed) (first-kinds is es found e [] (rest w.in-Some.next) there (after (c.loop-entry.invariant.ordered both.0)) up) in
          subst (λ xs. HasEachKind es (entries_lent xs.items) ⊎ (IsTrue c.match-by_kind.are_ordered × IsMore room (kinds (entries_lent xs.items)) × HasFirstKinds es (entries_lent xs.items))) (sym w.entries-is)
          (inr (w.are_ordered-is ∙ w.if-are_ordered.true, more, first))
      | in_default w ↦
          let all : HasEachKind es found = subst (HasEachKind es) (ap (λ xs. found ++ filter is xs) w.in_default.ensures.next ∙ append-nil found) c.loop-entry.invariant.each in
          inl (subst (λ xs. HasEachKind es (entries_lent xs.items)) (sym w.entries-is) all)
    ]
