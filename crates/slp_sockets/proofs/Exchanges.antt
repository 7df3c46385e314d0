-- The exchanges of a loop, one after the other.
use Rattle.std.specs.Prelude.{IsFalse}
use Rattle.std.proofs.Common.{Bool, false, ◌≡◌, ◌≤◌, ◌<◌, ℕ, ◌+◌, List, [], ◌∷◌, ◌++◌, map, take, drop, set, length, get_or, Option, Some, None, Result, Ok, refl, sym, ap, ◌∙◌, subst, arith, inl, inr, length-drop}
use Rattle.std.proofs.lemmas.List.{append-nil, append_assoc, map-append, length-map, map_more, take_more, take_more_set, take-set, take_all, length-take-le, drop_more, drop-set-lt}
use Rattle.std.proofs.lemmas.Grind.{flat_map-append}
use Rattle.std.specs.declared.io.Error.{Error}
use Rattle.slp_sockets.specs.Exchanging.{back, datagram, datagrams, dues, all_dues, Stopped}
use Rattle.slp_sockets.specs.Ports.{Datagram, Happening, Came, Paused, Left, Ports, Round, Runs, IsTimed, IsMet, MayBePut, AreMet, AreStillAside, AreTakenUp, IsTakenUp, IsRound, Says, IsThrough, owed, pausing}
use Rattle.slp_sockets.specs.Serving.{Manner}
use Rattle.slp_sockets.specs.declared.exchange.Exchange.{Exchange}
use Rattle.slp_sockets.specs.declared.exchange.Rest.{Rest}
use Rattle.slp_sockets.specs.declared.exchange.Rest.TheVariants.{More}
use Rattle.slp_sockets.specs.declared.fault.LoopFault.{LoopFault}
use Rattle.slp_sockets.proofs.Ports.{runs_on, runs_one, met_on, met_one, first_is, others_are, taken_next, taken_none, through}

module _ {P : Type 0} (may : Ports P) (es : List Exchange) (i : ℕ) (lt : i < length es) where
  came_more : (y : Exchange) → map Came (datagrams (take (i + 1) (set es i y))) ≡ map Came (datagrams (take i es)) ++ Came (datagram y) ∷ []
  came_more y =
      ap (λ xs. map Came (datagrams xs)) (take_more_set es i y lt) ∙ (ap (map Came) (map-append datagram (take i es) (y ∷ [])) ∙ map-append Came (datagrams (take i es)) (datagram y ∷ []))

  -- one more was received
  pub received_more : (y : Exchange) (a b c : P) → Runs may a (map Came (datagrams (take i es))) b → may b (Came (datagram y)) c → Runs may a (map Came (datagrams (take (i + 1) (set es i y)))) c
  received_more y a b c before one =
      subst (λ hs. Runs may a hs c) (sym (came_more y)) (runs_on may a (map Came (datagrams (take i es))) (Came (datagram y) ∷ []) b c before (runs_one may b (Came (datagram y)) c one))

  -- none was received
  received_none : (y : Exchange) (e : Error) (a b c : P) → Runs may a (map Came (datagrams (take i es))) b → may b (Paused e) c → Runs may a (map Came (datagrams (take i (set es i y))) ++ Paused e ∷ []) c
  received_none y e a b c before one =
      subst (λ xs. Runs may a (map Came (datagrams xs) ++ Paused e ∷ []) c) (sym (take-set es i y)) (runs_on may a (map Came (datagrams (take i es))) (Paused e ∷ []) b c before (runs_one may b (Paused e) c one))

  pub received_stop : (count : ℕ) (y : Exchange) (e : Error) (told : Result Rest LoopFault) (a b c : P) → count ≡ i → Says e told → Runs may a (map Came (datagrams (take i es))) b → may b (Paused e) c
      → (pause : Option Error) × Runs may a (map Came (datagrams (take count (set es i y))) ++ pausing pause) c × Stopped count (length (set es i y)) told pause
  received_stop count y e told a b c same says runs one = (
    Some e,
    subst (λ n. Runs may a (map Came (datagrams (take n (set es i y))) ++ Paused e ∷ []) c) (sym same) (received_none y e a b c runs one),
    says,
  )

  -- what goes back for one more was sent
  pub sent_more : (x : Exchange) (a b c : P) → x ≡ get_or es i x → Runs may a (map Left (all_dues (take i es))) b → Runs may b (map Left (dues x)) c → Runs may a (map Left (all_dues (take (i + 1) es))) c
  sent_more x a b c read before one =
      let ds : all_dues (take (i + 1) es) ≡ all_dues (take i es) ++ dues x =
      ap all_dues (take_more es i x lt) ∙ (flat_map-append dues (take i es) (get_or es i x ∷ []) ∙ ap (λ l. all_dues (take i es) ++ l) (append-nil (dues (get_or es i x)) ∙ ap dues (sym read))) in
      let is : map Left (all_dues (take (i + 1) es)) ≡ map Left (all_dues (take i es)) ++ map Left (dues x) =
      ap (map Left) ds ∙ map-append Left (all_dues (take i es)) (dues x) in
      subst (λ hs. Runs may a hs c) (sym is) (runs_on may a (map Left (all_dues (take i es))) (map Left (dues x)) b c before one)

-- lists that are the same from a place on
module _ (fs es : List Exchange) (i : ℕ) (x : Exchange) (lt : i < length es) (same : drop i es ≡ drop i fs) where
  pub within : i < length fs
  within = omega (arith, lt, length-drop i es, length-drop i fs, ap length same)

  parts : get_or es i x ∷ drop (i + 1) es ≡ get_or fs i x ∷ drop (i + 1) fs
  parts = sym (drop_more es i x lt) ∙ (same ∙ drop_more fs i x within)

  pub same_here : get_or es i x ≡ get_or fs i x
  same_here = first_is (get_or es i x) (get_or fs i x) (drop (i + 1) es) (drop (i + 1) fs) parts

  pub same_later : (y : Exchange) → drop (i + 1) (set es i y) ≡ drop (i + 1) fs
  same_later y = drop-set-lt (i + 1) es i y (omega arith) ∙ others_are (get_or es i x) (get_or fs i x) (drop (i + 1) es) (drop (i + 1) fs) parts

-- what a round came to so far: which were put aside behind those that were
abbrev pub Meets : {S : Type 0} → Manner S → Round S → List Datagram → List Datagram → List Datagram → List Datagram → Round S → Type 0
Meets manner a ds dues aside asides b = (put : List Datagram) × (asides ≡ aside ++ put) × AreMet manner a ds dues put b

-- one more was served, or put aside
pub met_more : {S : Type 0} (manner : Manner S) (fs es : List Exchange) (i : ℕ) (x y : Exchange) (a b c : Round S) (aside between asides : List Datagram) → i < length es → x ≡ get_or es i x → drop i es ≡ drop i fs
    → (bytes : List ℕ) × (put : List Datagram) × (dues y ≡ owed x.from bytes) × (asides ≡ between ++ put) × IsMet manner b (datagram x) bytes put c
    → Meets manner a (datagrams (take i fs)) (all_dues (take i es)) aside between b → Meets manner a (datagrams (take (i + 1) fs)) (all_dues (take (i + 1) (set es i y))) aside asides c
met_more manner fs es i x y a b c aside between asides lt read same (bytes, put, due, is, one) (puts, was, before) =
    let here : get_or fs i x ≡ x = sym (read ∙ same_here fs es i x lt same) in
    let cs : datagrams (take (i + 1) fs) ≡ datagrams (take i fs) ++ datagram x ∷ [] =
    map_more datagram fs i x (within fs es i x lt same) ∙ ap (λ e. datagrams (take i fs) ++ datagram e ∷ []) here in
    let ds : all_dues (take (i + 1) (set es i y)) ≡ all_dues (take i es) ++ owed x.from bytes =
    ap all_dues (take_more_set es i y lt) ∙ (flat_map-append dues (take i es) (y ∷ []) ∙ ap (λ l. all_dues (take i es) ++ l) (append-nil (dues y) ∙ due)) in
    let next = met_one manner b (datagram x) bytes put c one in
    let all = met_on manner a (datagrams (take i fs)) (datagram x ∷ []) (all_dues (take i es)) (owed x.from bytes) puts put b c before next in (
      puts ++ put,
      is ∙ (ap (λ xs. xs ++ put) was ∙ append_assoc aside puts put),
      subst (λ xs. AreMet manner a xs (all_dues (take (i + 1) (set es i y))) (puts ++ put) c) (sym cs) (subst (λ xs. AreMet manner a (datagrams (take i fs) ++ datagram x ∷ []) xs (puts ++ put) c) (sym ds) all),
    )

-- where all were gone through
pub met_end : {S : Type 0} (manner : Manner S) (fs es : List Exchange) (i : ℕ) (a b : Round S) (aside asides : List Datagram) → length fs ≤ i → length es ≤ i → Meets manner a (datagrams (take i fs)) (all_dues (take i es)) aside asides b
    → Meets manner a (datagrams fs) (all_dues es) aside asides b
met_end manner fs es i a b aside asides first second all =
    subst (λ xs. Meets manner a (datagrams xs) (all_dues es) aside asides b) (take_all i fs first) (subst (λ xs. Meets manner a (datagrams (take i fs)) (all_dues xs) aside asides b) (take_all i es second) all)

pub sent_end : {P : Type 0} (may : Ports P) (es : List Exchange) (i : ℕ) (a b : P) → length es ≤ i → Runs may a (map Left (all_dues (take i es))) b → Runs may a (map Left (all_dues es)) b
sent_end may es i a b all runs = subst (λ xs. Runs may a (map Left (all_dues xs)) b) (take_all i es all) runs

pub received_end : {P : Type 0} (may : Ports P) (es : List Exchange) (i count : ℕ) (a b : P) → count ≡ i → i ≡ length es → Runs may a (map Came (datagrams (take i es))) b
    → (pause : Option Error) × Runs may a (map Came (datagrams (take count es)) ++ pausing pause) b × Stopped count (length es) (Ok More) pause
received_end may es i count a b same all runs = (
  None,
  subst (λ hs. Runs may a hs b) (sym (append-nil (map Came (datagrams (take count es))))) (subst (λ n. Runs may a (map Came (datagrams (take n es))) b) (sym same) runs),
  (same ∙ all, refl),
)

-- what is owed for one that was served
served_dues : (e x : Exchange) → datagram x ≡ datagram e → dues x ≡ owed e.from (back x)
served_dues e x same = ap (λ (d : Datagram). owed d.peer (back x)) same

-- one is served, with no other put aside
pub met_served : {S : Type 0} (manner : Manner S) (x y : Exchange) (a b : Round S) (aside : List Datagram) → datagram y ≡ datagram x → IsTimed manner a.server (datagram x) (back y) b
    → (bytes : List ℕ) × (put : List Datagram) × (dues y ≡ owed x.from bytes) × (aside ≡ aside ++ put) × IsMet manner a (datagram x) bytes put b
met_served manner x y a b aside same one = (back y, [], served_dues x y same, sym (append-nil aside), inl (one, refl))

-- one is put aside behind others
pub met_aside : {S : Type 0} (manner : Manner S) (x y : Exchange) (a : Round S) (es fs : List Exchange) → fs ≡ es ++ x ∷ [] → dues y ≡ [] → MayBePut manner a.is_late (datagram x)
    → (bytes : List ℕ) × (put : List Datagram) × (dues y ≡ owed x.from bytes) × (datagrams fs ≡ datagrams es ++ put) × IsMet manner a (datagram x) bytes put a
met_aside manner x y a es fs is none may = ([], datagram x ∷ [], none, ap datagrams is ∙ map-append datagram es (x ∷ []), inr (may, refl, refl, refl))

-- a round
module _ {P S : Type 0} (may : Ports P) (manner : Manner S) where
  -- what was served of those that were aside
  abbrev pub TookUp : P → Round S → List Datagram → P → Round S → List Datagram → Type 0
  TookUp p a aside q b asides = (hs : List Happening) × Runs may p hs q × AreTakenUp manner a aside hs b asides

  pub took_none : (p : P) (a : Round S) (aside : List Datagram) → TookUp p a aside p a aside
  took_none p a aside = ([], refl, taken_none manner a aside)

  -- one more
  pub took_more : (p q r : P) (a b s : Round S) (t : S) (aside : List Datagram) (es rest : List Exchange) (e x : Exchange) → es ≡ e ∷ rest → datagram x ≡ datagram e → IsFalse b.is_late → IsTimed manner b.server (datagram e) (back x) s
      → manner.settles s.server t → Runs may q (map Left (dues x)) r → TookUp p a aside q b (datagrams es) → TookUp p a aside r (record s { server = t }) (datagrams rest)
  took_more p q r a b s t aside es rest e x is same free one then sent (hs, runs, taken) = (
    hs ++ map Left (owed e.from (back x)),
    runs_on may p hs (map Left (owed e.from (back x))) q r runs (subst (λ ds. Runs may q (map Left ds) r) (served_dues e x same) sent),
    taken_next manner a aside hs b (datagram e) (datagrams rest) (back x) s t (subst (λ xs. AreTakenUp manner a aside hs b xs) (ap datagrams is) taken) free one then,
  )

  -- no more is served
  pub took_up : (p q : P) (a b : S) (is_late : Bool) (aside asides : List Datagram) → TookUp p (record { server = a; is_late = false }) aside q (record { server = b; is_late = is_late }) asides → AreStillAside manner is_late asides
      → (hs : List Happening) × Runs may p hs q × IsTakenUp manner a aside hs b asides
  took_up p q a b is_late aside asides (hs, runs, taken) still = (hs, runs, (is_late, taken, still))

  pub round : (es front : List Exchange) (count : ℕ) (told : Result Rest LoopFault) (a b c : P) (s : S) (t : Round S) (u : S) (ds aside asides : List Datagram) → count ≤ length es → length es ≡ 16 → front ≡ take count es
      → (pause : Option Error) × Runs may a (map Came (datagrams (take count es)) ++ pausing pause) b × Stopped count (length es) told pause
      → Meets manner (record { server = s; is_late = false }) (datagrams front) ds aside asides t → manner.settles t.server u → Runs may b (map Left ds) c → (hs : List Happening) × Runs may a hs c × IsRound manner s aside hs u asides × IsThrough 16 told hs
  round es front count told a b c s t u ds aside asides most sixteen is (pause, received, stopped) (put, kept, met) settled sent = (
    (map Came (datagrams (take count es)) ++ pausing pause) ++ map Left ds,
    runs_on may a (map Came (datagrams (take count es)) ++ pausing pause) (map Left ds) b c received sent,
    record {
      came = datagrams (take count es);
      pause = pause;
      dues = ds;
      put = put;
      between = t;
      met = subst (λ xs. AreMet manner (record { server = s; is_late = false }) (datagrams xs) ds put t) is met;
      kept = kept;
      settled = settled;
      order = refl;
    },
    through (datagrams (take count es)) count (length es) told pause ds (length-map (take count es) datagram ∙ length-take-le count es most) sixteen stopped,
  )
