-- What is done one after the other is done as a whole.
use Rattle.std.proofs.Common.{◌∷◌, ◌++◌, [], List, refl, subst}
use Rattle.agent_clients.specs.Runs.{Mays, Runs, Goes}

pub runs_on : {S D : Type 0} (may : Mays S D) (a b c : S) (ds es : List D) → Runs may a ds b → Runs may b es c → Runs may a (ds ++ es) c
runs_on may a b c [] es p q = subst (λ x. Runs may x es c) p q
runs_on may a b c (d ∷ ds) es p q = (p.0, p.1, runs_on may p.0 b c ds es p.2 q)

module _ {S T D : Type 0} (may : Mays S D) (does : Mays T D) where
  pub goes_none : (a : S) (s : T) → Goes may does a s a s
  goes_none a s = ([], refl, refl)

  pub goes_one : (a b : S) (s t : T) (d : D) → may a d b → does s d t → Goes may does a s b t
  goes_one a b s t d m x = (d ∷ [], (b, m, refl), (t, x, refl))

  pub goes_two : (a b c : S) (s t u : T) (d e : D) → may a d b → does s d t → may b e c → does t e u → Goes may does a s c u
  goes_two a b c s t u d e m x n y = (d ∷ e ∷ [], (b, m, (c, n, refl)), (t, x, (u, y, refl)))

  pub goes_on : (a b c : S) (s t u : T) → Goes may does a s b t → Goes may does b t c u → Goes may does a s c u
  goes_on a b c s t u p q = (p.0 ++ q.0, runs_on may a b c p.0 q.0 p.1 q.1, runs_on does s t u p.0 q.0 p.2 q.2)
