-- What is done by parts to the streams and the server of a loop.
use Rattle.std.specs.Prelude.{◌⊎◌}
use Rattle.std.proofs.Common.{◌≡◌, false, ℕ, List, [], ◌∷◌, ◌++◌, map, Option, refl, sym, ap, ◌∙◌, subst, inl, inr}
use Rattle.std.proofs.lemmas.Bool.{cases_eq}
use Rattle.std.proofs.lemmas.List.{append_assoc, map_push}
use Rattle.std.specs.Borrow.{Bor}
use Rattle.mio.specs.Event.{event_token}
use Rattle.mio.specs.declared.event.event.Event.{Event}
use Rattle.mio.specs.declared.token.Token.{Token}
use Rattle.slp_sockets.specs.Handing.{Joins}
use Rattle.slp_sockets.specs.Holding.{Seat}
use Rattle.slp_sockets.specs.Ports.{Datagram, Happening, IsTakenUp, Ports, Runs, ServesRound, TakesUp}
use Rattle.slp_sockets.specs.Readiness.{token_of}
use Rattle.slp_sockets.specs.Serving.{Manner}
use Rattle.slp_sockets.specs.Turning.{Tended, AreResumed, AreServedAt, ComeOrGo, IsBegun, IsByAside, IsByLane, IsByPeers, IsPart, IsServedAt, IsSettled, Passes, Reaches, ReceivesAgain, Resumes, ServesAt, SettlesFirst, SettlesLast, datagrams_token, listener_token}

module _ {S : Type 0} (manner : Manner S) where
  passes_on : (a : Tended S) (ss ts : List (Tended S)) (b c : Tended S) → Passes manner a ss b → Passes manner b ts c → Passes manner a (ss ++ ts) c
  passes_on a [] ts b c same next = subst (λ s. Passes manner s ts c) same next
  passes_on a (s ∷ ss) ts b c (one, rest) next = (one, passes_on s ss ts b c rest next)

  -- one part and then the next
  pub reach_on : (a b c : Tended S) → Reaches manner a b → Reaches manner b c → Reaches manner a c
  reach_on a b c (ss, first) (ts, next) = (ss ++ ts, passes_on a ss ts b c first next)

  reach_part : (a b : Tended S) → IsPart manner a b → Reaches manner a b
  reach_part a b one = (b ∷ [], (one, refl))

  -- it settles
  pub reach_settled : (a b : Tended S) → IsSettled manner a b → Reaches manner a b
  reach_settled a b one = reach_part a b (inl one)

  -- datagrams, if any are served
  reach_again : (a b : Tended S) → ReceivesAgain manner a b → Reaches manner a b
  reach_again a b (inl one) = reach_part a b (inr (inl one))
  reach_again a b (inr same) = ([], same)

  pub received_again : (seats : List (Option Seat)) (a b : S) → ServesRound manner a b ⊎ (b ≡ a)
      → ReceivesAgain manner (record { seats = seats; server = a }) (record { seats = seats; server = b })
  received_again seats a b (inl one) = inl (one, refl)
  received_again seats a b (inr same) = inr (ap (λ s. record { seats = seats; server = s }) same)

  -- the stream with a key, if there is one
  pub reach_stream : (key : ℕ) (a b : Tended S) → ServesAt manner key a b → Reaches manner a b
  reach_stream key a b (inl one) = reach_part a b (inr (inr (inl (key, one))))
  reach_stream key a b (inr (none, same)) = ([], same)

  -- streams come, or are closed
  pub reach_peers : (a b : Tended S) → IsByPeers manner a b → Reaches manner a b
  reach_peers a b one = reach_part a b (inr (inr (inr (inl one))))

  -- what was put aside
  reach_aside : (a b : Tended S) → IsByAside manner a b → Reaches manner a b
  reach_aside a b one = reach_part a b (inr (inr (inr (inr (inl one)))))

  -- streams that were handed over
  reach_lane : (a b : Tended S) → IsByLane manner a b → Reaches manner a b
  reach_lane a b one = reach_part a b (inr (inr (inr (inr (inr one)))))

  -- streams of which a message was
  reach_resumed : (a : Tended S) (keys : List ℕ) (b : Tended S) → AreResumed manner a keys b → Reaches manner a b
  reach_resumed a [] b same = ([], same)
  reach_resumed a (key ∷ keys) b (between, one, rest) = reach_on a between b (reach_stream key a between one) (reach_resumed between keys b rest)

  -- such parts, and then a turn
  pub reach_turn : (a b c : Tended S) → Reaches manner a b → SettlesFirst manner b c → Reaches manner a c
  reach_turn a b c before (s, one, rest) = reach_on a b c before (reach_on b s c (reach_settled b s one) rest)

  -- such parts were done, and it settled
  pub settled_last : (a b : Tended S) (seats : List (Option Seat)) (c d : S) → record { seats = seats; server = c } ≡ b → Reaches manner a b → manner.settles c d → SettlesLast manner a (record { seats = seats; server = d })
  settled_last a b seats c d is done one = (b, done, subst (λ s. IsSettled manner s (record { seats = seats; server = d })) is (one, refl))

  -- the socket with a token
  reach_token : (token : ℕ) (a b : Tended S) → IsServedAt manner token a b → Reaches manner a b
  reach_token token a b one = elim (cases_eq token datagrams_token) [
    | inl is ↦ reach_part a b (inr (inl (one.datagrams is)))
    | inr not ↦ elim (cases_eq token listener_token) [
      | inl is ↦ reach_peers a b (one.listener is)
      | inr nor ↦ let moved = one.stream not nor in reach_on a moved.0 b (reach_stream token a moved.0 moved.1) (reach_again moved.0 b moved.2)
    ]
  ]

  -- those with some tokens
  pub reach_tokens : (a : Tended S) (tokens : List ℕ) (b : Tended S) → AreServedAt manner a tokens b → Reaches manner a b
  reach_tokens a [] b same = ([], same)
  reach_tokens a (token ∷ tokens) b (between, one, rest) = reach_on a between b (reach_token token a between one) (reach_tokens between tokens b rest)

  -- one more
  served_more : (a : Tended S) (tokens : List ℕ) (token : ℕ) (b c : Tended S) → AreServedAt manner a tokens b → IsServedAt manner token b c → AreServedAt manner a (tokens ++ token ∷ []) c
  served_more a [] token b c same one = (c, subst (λ s. IsServedAt manner token s c) same one, refl)
  served_more a (t ∷ ts) token b c (between, first, rest) one = (between, first, served_more between ts token b c rest one)

  -- nothing is taken up
  pub takes_none : (a : S) → TakesUp manner a a
  takes_none a = ([], [], [], (false, (refl, refl, refl), tt))

  -- what was taken up of a mailbox
  pub taken_up : {P : Type 0} (may : Ports P) (p q : P) (a b : S) (aside asides : List Datagram) → (hs : List Happening) × Runs may p hs q × IsTakenUp manner a aside hs b asides → TakesUp manner a b
  taken_up may p q a b aside asides (hs, runs, taken) = (aside, asides, hs, taken)

  -- no stream goes on
  pub resumes_none : (a : Tended S) → Resumes manner a a
  resumes_none a = ([], refl)

  resumed_more : (a : Tended S) (keys : List ℕ) (key : ℕ) (b c : Tended S) → AreResumed manner a keys b → ServesAt manner key b c → AreResumed manner a (keys ++ key ∷ []) c
  resumed_more a [] key b c same one = (c, subst (λ s. ServesAt manner key s c) same one, refl)
  resumed_more a (k ∷ ks) key b c (between, first, rest) one = (between, first, resumed_more between ks key b c rest one)

  -- one more goes on
  pub resumes_next : (key : ℕ) (a b c : Tended S) → Resumes manner a b → ServesAt manner key b c → Resumes manner a c
  resumes_next key a b c (keys, before) one = (keys ++ key ∷ [], resumed_more a keys key b c before one)

  -- what begins a turn
  pub begins : (s : Tended S) (before between after joint went : List (Option Seat)) (a b t u c : S) → record { seats = before; server = a } ≡ s → manner.settles a b → between ≡ before → ComeOrGo between after → Joins after joint → TakesUp manner b t
      → Resumes manner (record { seats = joint; server = t }) (record { seats = went; server = u }) → ServesRound manner u c ⊎ (c ≡ u) → IsBegun manner s (record { seats = went; server = c })
  begins s before between after joint went a b t u c is settled same come joins takes resumes served = subst (λ x. IsBegun manner x (record { seats = went; server = c })) is (record {
    settled = record { seats = before; server = b };
    accepted = record { seats = after; server = b };
    joined = record { seats = joint; server = b };
    taken = record { seats = joint; server = t };
    resumed = record { seats = went; server = u };
    settles_first = (settled, refl);
    accepts = (subst (λ seats. ComeOrGo seats after) same come, refl);
    joins = (joins, refl);
    takes_up = (takes, refl);
    resumes = resumes;
    receives = received_again went u c served;
  })

  pub begun_first : (a b : Tended S) → IsBegun manner a b → SettlesFirst manner a b
  begun_first a b one = (
    one.settled,
    one.settles_first,
    reach_on one.settled one.accepted b (reach_peers one.settled one.accepted one.accepts)
        (reach_on one.accepted one.joined b (reach_lane one.accepted one.joined one.joins)
        (reach_on one.joined one.taken b (reach_aside one.joined one.taken one.takes_up) (reach_on one.taken one.resumed b (reach_resumed one.taken one.resumes.0 one.resumed one.resumes.1) (reach_again one.resumed b one.receives)))),
  )

  -- it settled first, and more was done
  pub first_on : (a b c : Tended S) → SettlesFirst manner a b → Reaches manner b c → SettlesFirst manner a c
  first_on a b c (s, one, rest) next = (s, one, reach_on s b c rest next)

  -- the socket of one more event
  pub served_next : (a b c : Tended S) (front : List (Bor Event)) (e : Bor Event) (token : Token) → token ≡ event_token e.now → AreServedAt manner a (map token_of (map (λ x. x.now) front)) b
      → IsServedAt manner token.0 b c → AreServedAt manner a (map token_of (map (λ x. x.now) (front ++ e ∷ []))) c
  served_next a b c front e token is before one =
      let tokens = ap (map token_of) (map_push (λ x. x.now) front e) ∙ map_push token_of (map (λ x. x.now) front) e.now in
      subst (λ ts. AreServedAt manner a ts c) (sym tokens) (served_more a (map token_of (map (λ x. x.now) front)) (token_of e.now) b c before (subst (λ (t : Token). IsServedAt manner t.0 b c) is one))

-- one more event
pub events_next : (front : List (Bor Event)) (e : Bor Event) (rest later all : List Event) → map (λ x. x.now) front ++ rest ≡ all → rest ≡ e.now ∷ later → map (λ x. x.now) (front ++ e ∷ []) ++ later ≡ all
events_next front e rest later all is next =
    ap (λ l. l ++ later) (map_push (λ x. x.now) front e) ∙ (append_assoc (map (λ x. x.now) front) (e.now ∷ []) later ∙ (ap (λ l. map (λ x. x.now) front ++ l) (sym next) ∙ is))
