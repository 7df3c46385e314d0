-- A stream that goes on, in its loop.
use Rattle.std.proofs.Common.{◌≡◌, ◌≢◌, ℕ, Bool, true, false, true≢false, if◌then◌else◌, List, Option, Some, None, Result, Ok, Err, refl, sym, ap, ◌∙◌, subst, inl, inr}
use Rattle.std.specs.Prelude.{◌⊎◌, IfSome, IsSomeAnd}
use Rattle.std.specs.Option.{option_map}
use Rattle.std.proofs.lemmas.Bool.{cases_eq}
use Rattle.std.proofs.lemmas.Option.{same_Some}
use Rattle.slab.specs.Slab.{Slab, Updates, get, with_value}
use Rattle.slp_sockets.specs.Holding.{Seat, moment_of, seat_at}
use Rattle.slp_sockets.specs.Linking.{Link}
use Rattle.slp_sockets.specs.Serving.{Manner}
use Rattle.slp_sockets.specs.Sitting.{seat, seats}
use Rattle.slp_sockets.specs.Streaming.{Advances}
use Rattle.slp_sockets.specs.Turning.{Tended, AdvancesAt, Remains, is_closed, ServesAt, TakesSteps, Tells, rested}
use Rattle.slp_sockets.specs.declared.connection.Next.{Next}
use Rattle.slp_sockets.specs.declared.connection.Next.TheVariants.{More, Blocked, Closed}
use Rattle.slp_sockets.specs.declared.fault.LoopFault.{LoopFault}
use Rattle.slp_sockets.specs.declared.fault.LoopFault.TheVariants.{Io}
use Rattle.slp_sockets.specs.declared.peer.Peer.{Peer}
use Rattle.slp_sockets.proofs.Sitting.{beside, moment_in, seat_is, there, updated}

one_of_two : (b : Bool) (now known knows : ℕ) → knows ≡ (if b then now else known) → (knows ≡ known) ⊎ (knows ≡ now)
one_of_two true now known knows is = inr is
one_of_two false now known knows is = inl is

remains : (was told : Result Next LoopFault) → is_closed told ≡ false → Tells was told → (slot : Option Seat) (end : Link) (s : Seat) → slot ≡ Some s → s.link ≡ record end { moved = false } → Remains end was slot
remains was (Ok More) not tells slot end s is same = subst (λ t. Remains end t slot) (sym tells) (subst (λ o. IfSome o (λ x. x.link ≡ record end { moved = false })) (sym is) same)
remains was (Ok Blocked) not tells slot end s is same = subst (λ t. Remains end t slot) (sym tells) (subst (λ o. IsSomeAnd o (λ x. x.link ≡ record end { moved = false })) (sym is) same)
remains was (Ok Closed) not tells slot end s is same = absurd cc
remains was (Err e) not tells slot end s is same = absurd cc

-- what is told of what the steps came to
pub tells_fault : (was told : Result Next LoopFault) (e : LoopFault) → was ≡ Err e → told ≡ Err e → Tells was told
tells_fault was told e is so = subst (Tells was) (sym so) (inl is)

pub tells_none : (was told : Result Next LoopFault) (e : LoopFault) → was ≡ Ok More → told ≡ Err e → e ≡ Io → Tells was told
tells_none was told e is so io = subst (Tells was) (sym so) (inr (is, io))

gone : (was told : Result Next LoopFault) → is_closed told ≡ true → Tells was told → (end : Link) (slot : Option Seat) → slot ≡ None → Remains end was slot
gone was (Ok More) is tells end slot none = absurd cc
gone was (Ok Blocked) is tells end slot none = absurd cc
gone was (Ok Closed) is tells end slot none = subst (λ t. Remains end t slot) (sym tells) none
gone was (Err e) is (inl failed) end slot none = subst (λ t. Remains end t slot) (sym failed) none
gone was (Err e) is (inr (more, io)) end slot none = subst (λ t. Remains end t slot) (sym more) (subst (λ o. IfSome o (λ s. s.link ≡ record end { moved = false })) (sym none) tt)

not_blocked : (told : Result Next LoopFault) → is_closed told ≡ true → told ≢ Ok Blocked
not_blocked told is blocked = absurd (true≢false (sym is ∙ ap is_closed blocked))

module _ {S : Type 0} (manner : Manner S) where
  -- a stream went on, and was waited for again or not
  pub gone_on : {T : Type 0} (p n q : Peer T) (now : ℕ) (a b : S) (r w x y : Option (List ℕ)) (was told : Result Next LoopFault)
      → Advances manner now (record { brings = r; taken = w; link = p.connection; server = a }) p.moved was (record { brings = x; taken = y; link = n.connection; server = b }) n.moved
      → seat q ≡ seat n → Tells was told
      → (was : Result Next LoopFault) × (end : Link) × TakesSteps manner p.connection a was end b × Tells was told × (seat q ≡ rested now end p.moved)
  gone_on p n q now a b r w x y was told on same tells = (
    was,
    on.end,
    record {
      begun = record { brings = r; taken = w; link = p.connection; server = a };
      ended = record { brings = x; taken = y; link = on.end; server = b };
      link = refl;
      from = refl;
      goes = on.goes;
      is = refl;
      to = refl;
    },
    tells,
    same ∙ (ap (λ (l : Link). record { link = l; moved = n.moved }) on.link ∙ ap (λ (m : ℕ). record { link = record on.end { moved = false }; moved = m }) on.moved),
  )

  module _ {T : Type 0} (peers : Slab (Peer T)) (key : ℕ) (p q : Peer T) (held : get peers key ≡ Some p) (now : ℕ) (a b : S) (told : Result Next LoopFault) where
    -- it is the one with a key
    pub advanced : (was : Result Next LoopFault) × (end : Link) × TakesSteps manner p.connection a was end b × Tells was told × (seat q ≡ rested now end p.moved)
        → AdvancesAt manner now key (record { seats = seats peers; server = a }) told (record { seats = seats (with_value peers key q); server = b })
    advanced (was, end, takes, tells, is) =
        let put = updated peers key p q held in
        inl (
          was,
          end,
          p.moved,
          record {
            link = p.connection;
            here = seat_is peers key ∙ ap (option_map seat) held;
            takes = takes;
            others = λ other differs. beside peers (with_value peers key q) key (Some q) other put differs;
          },
          tells,
          there peers (with_value peers key q) key (Some q) key put refl ∙ ap (λ s. Some s) is,
        )

  -- each stream is there since it moved, or it moved now
  pub advanced_moments : (now key : ℕ) (before after : Tended S) (told : Result Next LoopFault) → AdvancesAt manner now key before told after
      → (k at : ℕ) → moment_of after.seats k ≡ Some at → (moment_of before.seats k ≡ Some at) ⊎ (at ≡ now)
  advanced_moments now key before after told (inl (was, end, known, on, tells, there)) k at is = elim (cases_eq k key) [
    | inl same ↦
        let one = same_Some (rested now end known).moved at (sym (ap moment_in there) ∙ (ap (moment_of after.seats) (sym same) ∙ is)) in
        elim (one_of_two end.moved now known at (sym one)) [
          | inl still ↦ inl (ap (moment_of before.seats) same ∙ (ap moment_in on.here ∙ ap (λ (n : ℕ). Some n) (sym still)))
          | inr moved ↦ inr moved
        ]
    | inr differs ↦ inl (sym (ap moment_in (on.others k differs)) ∙ is)
  ]
  advanced_moments now key before after told (inr (none, same, is)) k at at_is = inl (subst (λ (s : Tended S). moment_of s.seats k ≡ Some at) same at_is)

  -- it stays
  pub stayed : (now key : ℕ) (before after : Tended S) (told : Result Next LoopFault) → is_closed told ≡ false → AdvancesAt manner now key before told after → ServesAt manner key before after
  stayed now key before after told not (inl (was, end, known, on, tells, there)) = inl (was, end, known, on, remains was told not tells (seat_at after.seats key) end (rested now end known) there refl)
  stayed now key before after told not (inr (none, same, is)) = inr (none, same)

  -- it is closed
  pub ended : {T : Type 0} (now key : ℕ) (before : Tended S) (old new : Slab (Peer T)) (server : S) (told : Result Next LoopFault) → is_closed told ≡ true → Updates old new key None
      → AdvancesAt manner now key before told (record { seats = seats old; server = server }) → ServesAt manner key before (record { seats = seats new; server = server })
  ended now key before old new server told over removed (inl (was, end, known, on, tells, here)) =
      inl (
        was,
        end,
        known,
        record {
          link = on.link;
          here = on.here;
          takes = on.takes;
          others = λ other differs. beside old new key None other removed differs ∙ on.others other differs;
        },
        gone was told over tells end (seat_at (seats new) key) (there old new key None key removed refl),
      )
  ended now key before old new server told over removed (inr (none, same, is)) = absurd (not_blocked told over is)
