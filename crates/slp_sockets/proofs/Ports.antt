-- What happens at a port, one part after the other.
use Rattle.std.specs.Prelude.{IsFalse}
use Rattle.std.proofs.Common.{true, ◌≡◌, ◌≢◌, ◌≤◌, ℕ, ◌+◌, List, [], ◌∷◌, ◌++◌, map, length, Option, Some, None, Result, Ok, Err, refl, sym, ap, ◌∙◌, subst, arith, inl, inr}
use Rattle.std.proofs.lemmas.List.{append-nil, append_assoc}
use Rattle.std.specs.declared.io.Error.{Error}
use Rattle.slp_sockets.specs.Exchanging.{Stopped}
use Rattle.slp_sockets.specs.Ports.{Datagram, Happening, Came, Paused, Left, Ports, Round, Runs, IsTimed, IsMet, AreMet, AreStillAside, AreTakenUp, Says, GoOnTo, NoPause, IsEnough, IsThrough, owed, pausing, pause_after, effort}
use Rattle.slp_sockets.specs.Serving.{Manner}
use Rattle.slp_sockets.specs.declared.exchange.Rest.{Rest}
use Rattle.slp_sockets.specs.declared.exchange.Rest.TheVariants.{Nothing, More, Later}
use Rattle.slp_sockets.specs.declared.fault.LoopFault.{LoopFault}

-- one part and then the next
pub runs_on : {P : Type 0} (may : Ports P) (a : P) (hs gs : List Happening) (b c : P) → Runs may a hs b → Runs may b gs c → Runs may a (hs ++ gs) c
runs_on may a [] gs b c first next = subst (λ p. Runs may p gs c) first next
runs_on may a (h ∷ hs) gs b c (between, one, rest) next = (between, one, runs_on may between hs gs b c rest next)

-- one alone
pub runs_one : {P : Type 0} (may : Ports P) (a : P) (h : Happening) (b : P) → may a h b → Runs may a (h ∷ []) b
runs_one may a h b one = (b, one, refl)

module _ {S : Type 0} (manner : Manner S) where
  pub met_on : (a : Round S) (ds es : List Datagram) (first more put later : List Datagram) (b c : Round S) → AreMet manner a ds first put b → AreMet manner b es more later c → AreMet manner a (ds ++ es) (first ++ more) (put ++ later) c
  met_on a [] es first more put later b c (none, nothing, same) next =
      subst (λ xs. AreMet manner a es (xs ++ more) (put ++ later) c) (sym none) (subst (λ xs. AreMet manner a es more (xs ++ later) c) (sym nothing) (subst (λ s. AreMet manner s es more later c) same next))
  met_on a (d ∷ ds) es first more put later b c (back, here, between, owing, rest, one, others, is, puts) next = (
    back,
    here,
    between,
    owing ++ more,
    rest ++ later,
    one,
    met_on between ds es owing more rest later b c others next,
    ap (λ xs. xs ++ more) is ∙ append_assoc (owed d.peer back) owing more,
    ap (λ xs. xs ++ later) puts ∙ append_assoc here rest later,
  )

  -- one alone
  pub met_one : (a : Round S) (d : Datagram) (back : List ℕ) (put : List Datagram) (b : Round S) → IsMet manner a d back put b → AreMet manner a (d ∷ []) (owed d.peer back) put b
  met_one a d back put b one = (back, put, b, [], [], one, (refl, refl, refl), sym (append-nil (owed d.peer back)), sym (append-nil put))

-- the first of a list and the others
pub first_is : {X : Type 0} (a b : X) (xs ys : List X) → a ∷ xs ≡ b ∷ ys → a ≡ b
first_is a b xs ys is = cc

pub others_are : {X : Type 0} (a b : X) (xs ys : List X) → a ∷ xs ≡ b ∷ ys → xs ≡ ys
others_are a b xs ys is = cc

not_none : {X : Type 0} (a : X) (xs : List X) → a ∷ xs ≢ []
not_none a xs is = absurd cc

-- those that are aside, one after the other
module _ {S : Type 0} (manner : Manner S) where
  pub taken_none : (a : Round S) (ds : List Datagram) → AreTakenUp manner a ds [] a ds
  taken_none a [] = (refl, refl, refl)
  taken_none a (d ∷ ds) = inl (refl, refl, refl)

  -- one more
  pub taken_next : (a : Round S) (ds : List Datagram) (hs : List Happening) (b : Round S) (d : Datagram) (rest : List Datagram) (back : List ℕ) (served : Round S) (settled : S) → AreTakenUp manner a ds hs b (d ∷ rest)
      → IsFalse b.is_late → IsTimed manner b.server d back served → manner.settles served.server settled → AreTakenUp manner a ds (hs ++ map Left (owed d.peer back)) (record served { server = settled }) rest
  taken_next a [] hs b d rest back served settled (none, same, is) free one then = absurd (not_none d rest is)
  taken_next a (e ∷ es) hs b d rest back served settled (inl (none, same, is)) free one then =
      let here : d ≡ e = first_is d e rest es is in
      let others : rest ≡ es = others_are d e rest es is in
      let after : Round S = record served { server = settled } in
      inr (
        back,
        served,
        settled,
        [],
        subst (λ (r : Round S). IsFalse r.is_late) same free,
        subst (λ (r : Round S). IsTimed manner r.server e back served) same (subst (λ (x : Datagram). IsTimed manner b.server x back served) here one),
        then,
        subst (λ xs. AreTakenUp manner after es [] after xs) (sym others) (taken_none after es),
        ap (λ xs. xs ++ map Left (owed d.peer back)) none ∙ (ap (λ (x : Datagram). map Left (owed x.peer back)) here ∙ sym (append-nil (map Left (owed e.peer back)))),
      )
  taken_next a (e ∷ es) hs b d rest back served settled (inr (before, first, between, later, was, front, settles, more, is)) free one then =
      inr (
        before,
        first,
        between,
        later ++ map Left (owed d.peer back),
        was,
        front,
        settles,
        taken_next (record first { server = between }) es later b d rest back served settled more free one then,
        ap (λ xs. xs ++ map Left (owed d.peer back)) is ∙ append_assoc (map Left (owed e.peer before)) later (map Left (owed d.peer back)),
      )

  -- where one took long, those that are aside stay there
  pub still_late : (ds : List Datagram) → AreStillAside manner true ds
  still_late [] = tt
  still_late (d ∷ ds) = inl refl

-- how many came in both
pub effort_on : (hs gs : List Happening) → effort (hs ++ gs) ≡ effort hs + effort gs
effort_on [] gs = omega arith
effort_on (Came d ∷ hs) gs = omega (arith, effort_on hs gs)
effort_on (Paused e ∷ hs) gs = omega (arith, effort_on hs gs)
effort_on (Left d ∷ hs) gs = effort_on hs gs

effort_came : (ds : List Datagram) → effort (map Came ds) ≡ length ds
effort_came [] = refl
effort_came (d ∷ ds) = omega (arith, effort_came ds)

effort_left : (ds : List Datagram) → effort (map Left ds) ≡ 0
effort_left [] = refl
effort_left (d ∷ ds) = effort_left ds

pause_on : (before : Option Error) (hs gs : List Happening) → pause_after before (hs ++ gs) ≡ pause_after (pause_after before hs) gs
pause_on before [] gs = refl
pause_on before (Came d ∷ hs) gs = pause_on None hs gs
pause_on before (Paused e ∷ hs) gs = pause_on (Some e) hs gs
pause_on before (Left d ∷ hs) gs = pause_on before hs gs

pause_left : (before : Option Error) (ds : List Datagram) → pause_after before (map Left ds) ≡ before
pause_left before [] = refl
pause_left before (d ∷ ds) = pause_left before ds

-- a round, and what it answers
last_is : (hs : List Happening) (e : Error) (ds : List Datagram) → pause_after None ((hs ++ Paused e ∷ []) ++ map Left ds) ≡ Some e
last_is hs e ds = pause_on None (hs ++ Paused e ∷ []) (map Left ds) ∙ (pause_left (pause_after None (hs ++ Paused e ∷ [])) ds ∙ pause_on None hs (Paused e ∷ []))

effort_is : (cs : List Datagram) (pause : Option Error) (ds : List Datagram) → effort ((map Came cs ++ pausing pause) ++ map Left ds) ≡ length cs + effort (pausing pause)
effort_is cs pause ds = omega (arith, effort_on (map Came cs ++ pausing pause) (map Left ds), effort_on (map Came cs) (pausing pause), effort_came cs, effort_left ds)

-- parts of which the first went on
pub go_on : (told : Result Rest LoopFault) (hs gs : List Happening) → GoOnTo (Ok More) hs → GoOnTo told gs → GoOnTo told (hs ++ gs)
go_on told [] gs first next = next
go_on told (Came d ∷ hs) gs first next = go_on told hs gs first next
go_on told (Paused e ∷ hs) gs first next = (inl (elim first.0 [ inl more ↦ more | inr more ↦ more.0 ]), go_on told hs gs first.1 next)
go_on told (Left d ∷ hs) gs first next = go_on told hs gs first next

came_go_on : (told : Result Rest LoopFault) (cs : List Datagram) → GoOnTo told (map Came cs)
came_go_on told [] = tt
came_go_on told (c ∷ cs) = came_go_on told cs

left_go_on : (told : Result Rest LoopFault) (ds : List Datagram) → GoOnTo told (map Left ds)
left_go_on told [] = tt
left_go_on told (d ∷ ds) = left_go_on told ds

left_no_pause : (ds : List Datagram) → NoPause (map Left ds)
left_no_pause [] = tt
left_no_pause (d ∷ ds) = left_no_pause ds

-- the one pause of a round says what is answered
paused_goes_on : (cs : List Datagram) (told : Result Rest LoopFault) (e : Error) (ds : List Datagram) → Says e told → GoOnTo told ((map Came cs ++ Paused e ∷ []) ++ map Left ds)
paused_goes_on cs told e ds is =
    subst (GoOnTo told) (sym (append_assoc (map Came cs) (Paused e ∷ []) (map Left ds)))
    (go_on told (map Came cs) (Paused e ∷ map Left ds) (came_go_on (Ok More) cs) (inr (is, left_no_pause ds), left_go_on told ds))

paused_is : (cs : List Datagram) (told : Result Rest LoopFault) (e : Error) (ds : List Datagram) → Says e told → IsEnough 16 told ((map Came cs ++ Paused e ∷ []) ++ map Left ds)
paused_is cs (Ok More) e ds is = omega (arith, effort_is cs (Some e) ds)
paused_is cs (Ok Nothing) e ds is = record { error = e; last = last_is (map Came cs) e ds; says = is }
paused_is cs (Ok Later) e ds is = record { error = e; last = last_is (map Came cs) e ds; says = is }
paused_is cs (Err fault) e ds is = record { error = e; last = last_is (map Came cs) e ds; says = is }

pub through : (cs : List Datagram) (count all : ℕ) (told : Result Rest LoopFault) (pause : Option Error) (ds : List Datagram) → length cs ≡ count → all ≡ 16 → Stopped count all told pause
    → IsThrough 16 told ((map Came cs ++ pausing pause) ++ map Left ds)
through cs count all told None ds len sixteen (whole, is) =
    let most : 16 ≤ effort ((map Came cs ++ []) ++ map Left ds) = omega (arith, effort_is cs None ds, len, sixteen, whole) in
    let on : GoOnTo (Ok More) ((map Came cs ++ []) ++ map Left ds) =
    go_on (Ok More) (map Came cs ++ []) (map Left ds) (subst (GoOnTo (Ok More)) (sym (append-nil (map Came cs))) (came_go_on (Ok More) cs)) (left_go_on (Ok More) ds) in
    subst (λ t. IsThrough 16 t ((map Came cs ++ []) ++ map Left ds)) (sym is) (most, on)
through cs count all told (Some e) ds len sixteen is = (paused_is cs told e ds is, paused_goes_on cs told e ds is)
