use Rattle.std.proofs.Common.{◌≡◌, ◌+◌, ◌<◌, ◌∙◌, ℕ, List, sym, ap, ap₂, subst, arith, length, get_or, set}
use Rattle.std.specs.List.{swap}
use Rattle.std.proofs.lemmas.List.{with_items_is, length-set}
use Rattle.std.specs.Vec.{with_items}
use Rattle.std.proofs.lemmas.List.Edits.{length-swap}
use Rattle.slot_chains.specs.Links.{Links, IsInverse, IsStanding}
use Rattle.slot_chains.proofs.Standing.{IsStanding-attached}
use Rattle.slot_chains.proofs.chains.Chains.attach.Goals as goal

abbrev links : goal.After-self-3-1 → Links
links c = record { next = c.self.inside.next.items; home = c.self.inside.home.items; heads = c.self.inside.heads }

abbrev prev : goal.After-self-3-1 → List ℕ
prev c = c.self.inside.prev.items

same : (c : goal.After-self-3-1) → links c ≡ c.args.self.now
same c = c.self.view_is

x_in : (c : goal.After-self-3-1) → c.args.x < length (links c).home
x_in c = subst (λ (l : Links). c.args.x < length l.home) (sym (same c)) c.requires.x_in

h_in : (c : goal.After-self-3-1) → c.args.h < (links c).heads
h_in c = subst (λ (l : Links). c.args.h < l.heads) (sym (same c)) c.requires.h_in

loose : (c : goal.After-self-3-1) → get_or (links c).next c.args.x 0 ≡ c.args.x
loose c = ap (λ (l : Links). get_or l.next c.args.x 0) (same c) ∙ c.requires.loose

free : (c : goal.After-self-3-1) → get_or (links c).home c.args.x 0 ≡ (links c).heads
free c = subst (λ (l : Links). get_or l.home c.args.x 0 ≡ l.heads) (sym (same c)) c.requires.free

-- what the trade left
next_is : (c : goal.After-self-3-1) → c.trade.new.next ≡ swap (links c).next (length (links c).home + c.args.h) c.args.x
next_is c = c.trade.ensures.next ∙ ap₂ (λ xs n. swap xs (n + c.args.h) c.args.x) c.deref_mut.ensures.value (c.len.ensures ∙ c.self.inside.home.ok.0)

nexts : (c : goal.After-self-3-1) → length c.trade.new.next ≡ length (links c).next
nexts c = ap length (next_is c) ∙ length-swap (links c).next (length (links c).home + c.args.h) c.args.x

size : (c : goal.After-self-3-1) → length c.deref_mut.result.now ≡ length (links c).next
size c = ap length c.deref_mut.ensures.value

prevs : (c : goal.After-self-3-1) → length c.trade.new.prev ≡ length (prev c)
prevs c = let t = c.trade.ensures.inverse in let i = c.self.invariant.inverse in omega (arith, t.prevs, size c, i.nexts, i.prevs)

abbrev left : goal.After-self-3-1 → Links
left c = record { next = (with_items c.self.inside.next c.trade.new.next).items; home = set c.self.inside.home.items c.args.x c.args.h; heads = c.self.inside.heads }

abbrev made : goal.After-self-3-1 → Links
made c = record { next = swap (links c).next (length (links c).home + c.args.h) c.args.x; home = set (links c).home c.args.x c.args.h; heads = (links c).heads }

left_is : (c : goal.After-self-3-1) → left c ≡ made c
left_is c = ap (λ ns. record { next = ns; home = set c.self.inside.home.items c.args.x c.args.h; heads = c.self.inside.heads })
    (with_items_is c.self.inside.next c.trade.new.next (omega (arith, nexts c, c.self.inside.next.ok.0)) ∙ next_is c)

standing : (c : goal.After-self-3-1) → IsStanding (left c)
standing c = subst IsStanding (sym (left_is c)) (IsStanding-attached (links c) c.self.invariant.standing (prev c) c.self.invariant.inverse c.args.x (x_in c) (loose c) (free c) c.args.h (h_in c))

pub returns-clause-standing : goal.returns-clause-standing
returns-clause-standing c = standing c

pub invariant_of-self : goal.invariant_of-self
invariant_of-self c =
    let i = c.self.invariant.inverse in
    let ns = with_items_is c.self.inside.next c.trade.new.next (omega (arith, nexts c, c.self.inside.next.ok.0)) in
    let ps = with_items_is c.self.inside.prev c.trade.new.prev (omega (arith, prevs c, c.self.inside.prev.ok.0)) in
    let homes = length-set c.self.inside.home.items c.args.x c.args.h in
    record {
      inverse = subst (λ xs. IsInverse xs (with_items c.self.inside.prev c.trade.new.prev).items (length (set c.self.inside.home.items c.args.x c.args.h) + c.self.inside.heads)) (sym ns)
          (subst (λ xs. IsInverse c.trade.new.next xs (length (set c.self.inside.home.items c.args.x c.args.h) + c.self.inside.heads)) (sym ps)
          (subst (IsInverse c.trade.new.next c.trade.new.prev) (omega (arith, size c, i.nexts, homes)) c.trade.ensures.inverse));
      small = omega (arith, c.self.invariant.small, homes);
      standing = standing c;
    }
