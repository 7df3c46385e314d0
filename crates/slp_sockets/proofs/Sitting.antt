-- What is known of streams that sit there.
use Rattle.std.proofs.Common.{◌≡◌, ◌≢◌, ℕ, ◌+◌, ◌<◌, ◌≤◌, nat_lt, Bool, true, false, if◌then◌else◌, List, Option, Some, None, length, refl, sym, ap, ◌∙◌, inl, inr, arith}
use Rattle.std.specs.Prelude.{◌⊎◌, IfNone, IsSome, OnSome}
use Rattle.std.specs.Option.{option_map}
use Rattle.std.proofs.Math.ListN.{get_or-map}
use Rattle.std.proofs.lemmas.Bool.{cases_eq, ltb-true, ltb-false}
use Rattle.std.proofs.lemmas.Option.{none-some, same_Some}
use Rattle.slab.specs.Slab.{Slab, Updates, get, slab_len, with_value}
use Rattle.slab.proofs.SlabLemmas.{ContainsKey-within, Updates-with_value}
use Rattle.slp_sockets.specs.Holding.{Seat, HasNoOther, IsStillest, KeepsOthers, NoneSits, moment_of, seat_at, stiller}
use Rattle.slp_sockets.specs.Sitting.{seat, seats}
use Rattle.slp_sockets.specs.Turning.{ComeOrGo, Keeps}
use Rattle.slp_sockets.specs.declared.peer.Peer.{Peer}

abbrev pub moment_in : Option Seat → Option ℕ
moment_in = option_map (λ (s : Seat). s.moved)

-- whose moment it is
pub seat_of : (o : Option Seat) (at : ℕ) → moment_in o ≡ Some at → (s : Seat) × (o ≡ Some s) × (s.moved ≡ at)
seat_of None at is = absurd (none-some at is)
seat_of (Some s) at is = (s, refl, same_Some s.moved at is)

-- those that are there were there at the same moment
pub same_moment : (before after : List (Option Seat)) → HasNoOther before after → (key at : ℕ) → moment_of after key ≡ Some at → moment_of before key ≡ Some at
same_moment before after only key at is =
    let f = seat_of (seat_at after key) at is in
    ap moment_in (only key f.0 f.1) ∙ ap (λ (n : ℕ). Some n) f.2

module _ {T : Type 0} where
  abbrev seat_in : Option (Peer T) → Option Seat
  seat_in = option_map seat

  pub seat_is : (peers : Slab (Peer T)) (key : ℕ) → seat_at (seats peers) key ≡ seat_in (get peers key)
  seat_is peers key = get_or-map seat_in peers.slots key None

  moments_are : (o : Option (Peer T)) → moment_in (seat_in o) ≡ option_map (λ (p : Peer T). p.moved) o
  moments_are None = refl
  moments_are (Some p) = refl

  pub moment_is : (peers : Slab (Peer T)) (key : ℕ) → moment_of (seats peers) key ≡ option_map (λ (p : Peer T). p.moved) (get peers key)
  moment_is peers key = ap moment_in (seat_is peers key) ∙ moments_are (get peers key)

  is_some : (o : Option (Peer T)) (at : ℕ) → option_map (λ (p : Peer T). p.moved) o ≡ Some at → IsSome o
  is_some None at is = absurd (none-some at is)
  is_some (Some p) at is = refl

  -- no key past the end has a stream
  pub within_slots : (peers : Slab (Peer T)) (key at : ℕ) → moment_of (seats peers) key ≡ Some at → key < length peers.slots
  within_slots peers key at is = ContainsKey-within peers key (is_some (get peers key) at (sym (moment_is peers key) ∙ is))

module _ {T : Type 0} (old new : Slab (Peer T)) (key : ℕ) where
  pub beside : (slot : Option (Peer T)) (other : ℕ) → Updates old new key slot → other ≢ key → seat_at (seats new) other ≡ seat_at (seats old) other
  beside slot other u differs = seat_is new other ∙ (ap seat_in (u.others other differs) ∙ sym (seat_is old other))

  pub there : (slot : Option (Peer T)) (other : ℕ) → Updates old new key slot → other ≡ key → seat_at (seats new) other ≡ seat_in slot
  there slot other u same = ap (seat_at (seats new)) same ∙ (seat_is new key ∙ ap seat_in u.changed)

  -- where one goes, none comes
  pub removal_only : Updates old new key None → HasNoOther (seats old) (seats new)
  removal_only u k s is = elim (cases_eq k key) [
    | inl same ↦ absurd (none-some s (sym (there None k u same) ∙ is))
    | inr differs ↦ sym (beside None k u differs) ∙ is
  ]

  -- where one goes that sat there, the others stay
  pub removal_keeps : (stay now since : ℕ) → Updates old new key None → moment_of (seats old) key ≡ Some since → since + stay ≤ now → KeepsOthers stay now (seats old) (seats new)
  removal_keeps stay now since u held stale k s is fresh = elim (cases_eq k key) [
    | inl same ↦
        let one : since ≡ s.moved = same_Some since s.moved (sym held ∙ (sym (ap (moment_of (seats old)) same) ∙ ap moment_in is)) in
        absurd (omega (arith, one, fresh, stale))
    | inr differs ↦ beside None k u differs ∙ is
  ]

  -- one that comes has not sat there
  pub insertion_sits : (stay now : ℕ) (peer : Peer T) → 0 < stay → now ≤ peer.moved → Updates old new key (Some peer) → NoneSits stay now (seats old) → NoneSits stay now (seats new)
  insertion_sits stay now peer some late u none k at is = elim (cases_eq k key) [
    | inl same ↦
        let one : peer.moved ≡ at = same_Some peer.moved at (sym (ap moment_in (there (Some peer) k u same)) ∙ is) in
        omega (arith, one, late, some)
    | inr differs ↦ none k at (sym (ap moment_in (beside (Some peer) k u differs)) ∙ is)
  ]

-- where one comes to a key that was free
module _ {T : Type 0} (old new : Slab (Peer T)) (key : ℕ) (peer : Peer T) (before : List (Option Seat)) where
  -- no other comes
  pub insertion_only : Updates old new key (Some peer) → HasNoOther before (seats old) → Keeps (seat peer) before (seats new)
  insertion_only u only k s is = elim (cases_eq k key) [
    | inl same ↦ inr (sym (same_Some (seat peer) s (sym (there old new key (Some peer) k u same) ∙ is)))
    | inr differs ↦ inl (only k s (sym (beside old new key (Some peer) k u differs) ∙ is))
  ]

  -- and the others stay
  pub insertion_keeps : (stay now : ℕ) → Updates old new key (Some peer) → get old key ≡ None → KeepsOthers stay now before (seats old) → KeepsOthers stay now before (seats new)
  insertion_keeps stay now u free kept k s is fresh = elim (cases_eq k key) [
    | inl same ↦ absurd (none-some s (sym (ap (seat_at (seats old)) same ∙ (seat_is old key ∙ ap (option_map seat) free)) ∙ kept k s is fresh))
    | inr differs ↦ beside old new key (Some peer) k u differs ∙ kept k s is fresh
  ]

-- no other came, step after step
pub only_again : (before between after : List (Option Seat)) → HasNoOther before between → HasNoOther between after → HasNoOther before after
only_again before between after first next key s is = first key s (next key s is)

-- streams come, and then some go
pub come_then_go : (before between after : List (Option Seat)) → ComeOrGo before between → HasNoOther between after → ComeOrGo before after
come_then_go before between after come only key s is = come key s (only key s is)

-- those that only go
pub only_gone : (before after : List (Option Seat)) → HasNoOther before after → ComeOrGo before after
only_gone before after only = λ key s is. inl (only key s is)

-- where one goes, if it was there, there are no more than before
pub removal_len : {T : Type 0} (old new : Slab T) (o : Option T) → OnSome o (slab_len new + 1 ≡ slab_len old) → IfNone o (new ≡ old) → slab_len new ≤ slab_len old
removal_len old new (Some p) one none = omega (arith, one)
removal_len old new None one none = rw none (omega arith)

is_there : {T : Type 0} (o : Option T) (p : T) → o ≡ Some p → IsSome o
is_there o p is = rw is refl

-- where one stream is written, the others stay as they are
pub updated : {T : Type 0} (peers : Slab (Peer T)) (key : ℕ) (p q : Peer T) → get peers key ≡ Some p → Updates peers (with_value peers key q) key (Some q)
updated peers key p q held = Updates-with_value peers key q (is_there (get peers key) p held)

-- of fewer streams none sits there either
pub sits_less : (stay now : ℕ) (before after : List (Option Seat)) → HasNoOther before after → NoneSits stay now before → NoneSits stay now after
sits_less stay now before after only none key at is = none key at (same_moment before after only key at is)

-- where some moved now, none sits there that did not
pub moved_sits : (stay now looked : ℕ) (before after : List (Option Seat)) → ((key at : ℕ) → moment_of after key ≡ Some at → (moment_of before key ≡ Some at) ⊎ (at ≡ now)) → 0 < stay → looked ≤ now
    → NoneSits stay looked before → NoneSits stay looked after
moved_sits stay now looked before after moved some late none key at is = elim (moved key at is) [
  | inl was ↦ none key at was
  | inr here ↦ omega (arith, here, late, some)
]

-- what was found among the keys below one
pub record Found (moved : List (Option Seat)) (below : ℕ) (found : ℕ × Option ℕ) : Type 0 where
  pub none : (key at : ℕ) → key < below → moment_of moved key ≡ Some at → (first : ℕ) × (found.1 ≡ Some first) × (first ≤ at)
  pub is : (first : ℕ) → found.1 ≡ Some first → moment_of moved found.0 ≡ Some first

module _ (moved : List (Option Seat)) (key : ℕ) where
  -- a key below the next one
  last : (k : ℕ) → k < key + 1 → (k < key) ⊎ (k ≡ key)
  last k lt = elim (cases_eq k key) [
    | inl same ↦ inr same
    | inr differs ↦ inl (omega (arith, lt, differs))
  ]

  at_last : (k n at : ℕ) → k ≡ key → moment_of moved key ≡ Some n → moment_of moved k ≡ Some at → n ≡ at
  at_last k n at same is at_is = same_Some n at (sym is ∙ (ap (moment_of moved) (sym same) ∙ at_is))

  -- one with a key is stiller, or not
  one_of : (found n m : ℕ) (b : Bool) → nat_lt n m ≡ b → moment_of moved key ≡ Some n → Found moved key (found, Some m) → Found moved (key + 1) (if b then (key, Some n) else (found, Some m))
  one_of found n m true less is before = record {
    none = λ k at lt at_is. elim (last k lt) [
      | inl lower ↦
          let f = before.none k at lower at_is in
          (n, refl, omega (arith, ltb-true n m less, same_Some m f.0 f.1, f.2))
      | inr same ↦ (n, refl, omega (arith, at_last k n at same is at_is))
    ];
    is = λ first f. is ∙ f;
  }
  one_of found n m false less is before = record {
    none = λ k at lt at_is. elim (last k lt) [
      | inl lower ↦ before.none k at lower at_is
      | inr same ↦ (m, refl, omega (arith, ltb-false n m less, at_last k n at same is at_is))
    ];
    is = before.is;
  }

  more : (o : Option ℕ) (found : ℕ) (least : Option ℕ) → moment_of moved key ≡ o → Found moved key (found, least) → Found moved (key + 1) (stiller (found, least) key o)
  more None found least is before = record {
    none = λ k at lt at_is. elim (last k lt) [
      | inl lower ↦ before.none k at lower at_is
      | inr same ↦ absurd (none-some at (sym is ∙ (ap (moment_of moved) (sym same) ∙ at_is)))
    ];
    is = before.is;
  }
  more (Some n) found None is before = record {
    none = λ k at lt at_is. elim (last k lt) [
      | inl lower ↦ let f = before.none k at lower at_is in absurd (none-some f.0 f.1)
      | inr same ↦ (n, refl, omega (arith, at_last k n at same is at_is))
    ];
    is = λ first f. is ∙ f;
  }
  more (Some n) found (Some m) is before = one_of found n m (nat_lt n m) refl is before

  -- one key more
  pub found_more : (found : ℕ × Option ℕ) → Found moved key found → Found moved (key + 1) (stiller found key (moment_of moved key))
  found_more found before = more (moment_of moved key) found.0 found.1 refl before

-- no stream sits there longer than the stillest, so none sits there for as long where that does not
pub none_longer : (moved : List (Option Seat)) (found now stay : ℕ) → IsStillest found moved → ((at : ℕ) → moment_of moved found ≡ Some at → now < at + stay) → NoneSits stay now moved
none_longer moved found now stay stillest fresh = λ key at is. let f = stillest key at is in omega (arith, fresh f.0 f.1, f.2)
