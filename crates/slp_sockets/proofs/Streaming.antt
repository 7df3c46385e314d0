-- A stream's steps, one after the other.
use Rattle.std.proofs.Common.{◌≡◌, ◌≤◌, ◌<◌, ◌&&◌, ◌||◌, ℕ, ◌+◌, ◌-◌, suc, Bool, true, false, List, Option, Some, None, Result, Ok, Err, refl, sym, ap, ◌∙◌, subst, inl, inr, arith}
use Rattle.std.specs.Prelude.{◌⊎◌, IfSome, IfNone}
use Rattle.slp_sockets.specs.Linking.{Link, has_message, unread, unwritten}
use Rattle.slp_sockets.specs.Reading.{Reads}
use Rattle.slp_sockets.specs.Serving.{Manner}
use Rattle.slp_sockets.specs.Streaming.{Talk, end_of, IsRead, IsStep, Goes}
use Rattle.slp_sockets.specs.Writing.{Wrote, Writes}
use Rattle.slp_sockets.specs.declared.connection.Next.{Next}
use Rattle.slp_sockets.specs.declared.connection.Next.TheVariants.{More, Blocked}
use Rattle.slp_sockets.specs.declared.fault.LoopFault.{LoopFault}

-- one of the steps that are left
one_left : (i : ℕ) → i < 16 → suc (16 - (i + 1)) ≡ 16 - i
one_left i lt = omega (arith, lt)

ends_so : (Y : Type 0) (o : Option Next) (next : Next) → o ≡ Some next → (P : Next → Type 0) → P next → IfSome o P × IfNone o Y
ends_so Y None next is P p = absurd cc
ends_so Y (Some n) next is P p = let same : next ≡ n = cc in (subst P same p, tt)

goes_so : (Y : Type 0) (o : Option Next) → o ≡ None → (P : Next → Type 0) → Y → IfSome o P × IfNone o Y
goes_so Y None is P y = (tt, y)
goes_so Y (Some n) is P y = absurd cc

module _ {S : Type 0} (manner : Manner S) (i : ℕ) (served : Bool) where
  -- no step is left
  pub over : 16 ≤ i → (a : Talk S) → Goes manner (16 - i) served a (Ok More) a
  over past a = let none : 0 ≡ 16 - i = omega (arith, past) in subst (λ n. Goes manner n served a (Ok More) a) none (refl, refl)

module _ {S : Type 0} (manner : Manner S) (i : ℕ) (lt : i < 16) (served : Bool) (a : Talk S) (waits : Bool) (same : waits ≡ has_message a.link) where
  -- another message waits, where one was served
  pub next_waits : (waits && served) ≡ true → Goes manner (16 - i) served a (Ok More) a
  next_waits next = subst (λ n. Goes manner n served a (Ok More) a) (one_left i lt) (inl (inr (ap (λ b. b && served) (sym same) ∙ next, refl), refl))

  -- the message that waits is put aside
  pub left_aside : has_message a.link ≡ true → manner.may_wait a.link.unserved ⊎ manner.may_last a.link.unserved → Goes manner (16 - i) served a (Ok Blocked) a
  left_aside next may = subst (λ n. Goes manner n served a (Ok Blocked) a) (one_left i lt) (inl (inl (next, may, refl), refl))

  module _ (none : (waits && served) ≡ false) where
    free : (has_message a.link && served) ≡ false
    free = ap (λ b. b && served) (sym same) ∙ none

    -- the read failed
    pub read_failed : (e : LoopFault) (b : Talk S) → IsRead manner a (Err e) b → Goes manner (16 - i) served a (Err e) b
    read_failed e b read = subst (λ n. Goes manner n served a (Err e) b) (one_left i lt) (inr (free, inl (e, refl, read)))

    -- the write failed
    pub write_failed : (read : Next) (e : LoopFault) (b : Talk S) → IsStep manner a read (Err e) b → Goes manner (16 - i) served a (Err e) b
    write_failed read e b step = subst (λ n. Goes manner n served a (Err e) b) (one_left i lt) (inr (free, inr (inl (read, e, refl, step))))

    -- it ends there
    pub ended : (read written next : Next) (b : Talk S) → IsStep manner a read (Ok written) b → end_of read written ≡ Some next → Goes manner (16 - i) served a (Ok next) b
    ended read written next b step is =
        let over = ends_so _ (end_of read written) next is (λ n. (Ok next ≡ Ok n) × (b ≡ b)) (refl, refl) in
        subst (λ n. Goes manner n served a (Ok next) b) (one_left i lt) (inr (free, inr (inr (read, written, b, step, over.0, over.1))))

    -- it goes on
    pub went_on : (read written : Next) (c : Talk S) → IsStep manner a read (Ok written) c → end_of read written ≡ None
        → (told : Result Next LoopFault) (b : Talk S) → Goes manner (16 - (i + 1)) (waits || served) c told b → Goes manner (16 - i) served a told b
    went_on read written c step is told b rest =
        let on : Goes manner (16 - (i + 1)) (has_message a.link || served) c told b = subst (λ w. Goes manner (16 - (i + 1)) (w || served) c told b) same rest in
        let more = goes_so _ (end_of read written) is (λ n. (told ≡ Ok n) × (b ≡ c)) on in
        subst (λ n. Goes manner n served a told b) (one_left i lt) (inr (free, inr (inr (read, written, c, step, more.0, more.1))))

-- a stream of a type, its connection and its server
module _ {T S : Type 0} (brings taken : T → Option (List ℕ)) where
  abbrev pub talk : T → Link → S → Talk S
  talk r l a = record { brings = brings r; taken = taken r; link = l; server = a }

  same_talk : (r q : T) (l m : Link) (a b : S) → m ≡ l → q ≡ r → b ≡ a → talk q m b ≡ talk r l a
  same_talk r q l m a b link stream server = ap (λ x. talk q x b) link ∙ (ap (λ x. talk x l b) stream ∙ ap (λ x. talk r l x) server)

  unread_same : (r q : T) (l m : Link) (a b : S) (told : Result Next LoopFault) (o : Option Next) → IfSome o (λ next. (told ≡ Ok next) × (m ≡ l) × (q ≡ r) × (b ≡ a))
      → IfSome o (λ next. (told ≡ Ok next) × (talk q m b ≡ talk r l a))
  unread_same r q l m a b told None same = tt
  unread_same r q l m a b told (Some next) (is, link, stream, server) = (is, same_talk r q l m a b link stream server)

  unwritten_same : (r q : T) (l m : Link) (a : S) (told : Result Next LoopFault) (o : Option Next) → IfSome o (λ next. (told ≡ Ok next) × (m ≡ l) × (q ≡ r))
      → IfSome o (λ next. (told ≡ Ok next) × (talk q m a ≡ talk r l a))
  unwritten_same r q l m a told None same = tt
  unwritten_same r q l m a told (Some next) (is, link, stream) = (is, same_talk r q l m a a link stream refl)

  module _ (manner : Manner S) where
    -- read by a server that is as it was when it was asked
    pub is_read : (r q : T) (l m : Link) (a asked b : S) (told : Result Next LoopFault) → asked ≡ a → IfSome (unread l) (λ next. (told ≡ Ok next) × (m ≡ l) × (q ≡ r) × (b ≡ asked))
        → IfNone (unread l) (Reads manner (brings r) (brings q) l asked told m b) → IsRead manner (talk r l a) told (talk q m b)
    is_read r q l m a asked b told kept same reads = subst (λ s. IsRead manner (talk r l s) told (talk q m b)) kept (unread_same r q l m asked b told (unread l) same, reads)

    pub is_step : (r q w : T) (l m n : Link) (a b s : S) (read : Next) (told : Result Next LoopFault) → IsRead manner (talk r l a) (Ok read) (talk q m b) → manner.settles b s
        → IfSome (unwritten m) (λ next. (told ≡ Ok next) × (n ≡ m) × (w ≡ q)) → Wrote (taken q) (taken w) m.waiting n.waiting → IfNone (unwritten m) (Writes m told n)
        → IsStep manner (talk r l a) read told (talk w n s)
    is_step r q w l m n a b s read told reads settled same wrote writes = record {
      between = talk q m b;
      server = s;
      read_is = reads;
      settled = settled;
      written_is = (unwritten_same q w m n s told (unwritten m) same, wrote, writes, refl);
    }
