-- Lines, byte after byte.
use Rattle.std.proofs.Common.{◌≡◌, ◌<◌, ◌≤◌, ℕ, ◌+◌, Bool, true, false, List, [], ◌∷◌, ◌++◌, length, get_or, take, drop, set, Result, Ok, Err, refl, sym, ◌∙◌, subst, arith}
use Rattle.std.proofs.lemmas.List.{take_all, take_more_set, drop_more, drop_all, length-append, length-take-le, take_at}
use Rattle.agent_watch.specs.declared.words.End.{End}
use Rattle.agent_watch.specs.declared.words.End.TheVariants.{Well}
use Rattle.agent_watch.specs.Words.{Acts, Hears, Reading, TakesByte, Takes, TakesLast, kept, piece_of}

-- a byte more is kept where there is room, and none where there is none
pub kept_more : (bytes : List ℕ) (n byte : ℕ) → n < 16 → n < length bytes → take (n + 1) (set bytes n byte) ≡ kept (take n bytes ++ byte ∷ [])
kept_more bytes n byte room lt =
    take_more_set bytes n byte lt ∙ sym (take_all 16 (take n bytes ++ byte ∷ []) (omega (arith, length-append (take n bytes) (byte ∷ []), length-take-le n bytes (omega (arith, lt)), room)))

pub kept_full : (bytes : List ℕ) (n byte : ℕ) → n ≡ 16 → n ≤ length bytes → take n bytes ≡ kept (take n bytes ++ byte ∷ [])
kept_full bytes n byte full le = sym (take_at (take n bytes) (byte ∷ []) 16 (length-take-le n bytes le ∙ full))

module _ {A : Type 0} (acts : Acts A) (piece : List ℕ) (i x : ℕ) (lt : i < length piece) where
  -- one byte more, after which words are taken still
  pub takes_more : (a b : A) (line begun : List ℕ) → TakesByte acts a line (get_or piece i x) true begun b
      → (told : Bool) (rest : List ℕ) (c : A) → Takes acts b begun (drop (i + 1) piece) told rest c → Takes acts a line (drop i piece) told rest c
  takes_more a b line begun one told rest c more = subst (λ bs. Takes acts a line bs told rest c) (sym (drop_more piece i x lt)) (true, begun, b, one, more)

  -- one byte, after which none is
  pub takes_none : (a b : A) (line begun : List ℕ) (rest : List ℕ) → TakesByte acts a line (get_or piece i x) false begun b → Takes acts a line (drop i piece) false rest b
  takes_none a b line begun rest one = subst (λ bs. Takes acts a line bs false rest b) (sym (drop_more piece i x lt)) (false, begun, b, one, (refl, refl))

module _ {A : Type 0} (acts : Acts A) (piece : List ℕ) (i : ℕ) where
  -- none is left
  pub takes_end : (a : A) (line : List ℕ) → length piece ≤ i → Takes acts a line (drop i piece) true line a
  takes_end a line past = subst (λ bs. Takes acts a line bs true line a) (sym (drop_all i piece past)) (refl, refl, refl)

module _ {A : Type 0} (acts : Acts A) where
  -- what is heard by a reading that brings this
  abbrev heard : Result (List ℕ) End → A → List ℕ → List Reading → End → A → Type 0
  heard o before line rs end after = elim o [
    | Err ended ↦ (rs ≡ []) × (end ≡ ended) × TakesLast acts before line after
    | Ok piece ↦ (told : Bool) × (rest : List ℕ) × (between : A) × Takes acts before line piece told rest between × elim told [
      | true ↦ Hears acts between rest rs end after
      | false ↦ (rs ≡ []) × (end ≡ Well) × (after ≡ between)
    ]
  ]

  -- the input is over
  pub hears_last : (a b : A) (line : List ℕ) (r : Reading) (end : End) → piece_of r ≡ Err end → TakesLast acts a line b → Hears acts a line (r ∷ []) end b
  hears_last a b line r end over last = subst (λ o. heard o a line [] end b) (sym over) (refl, refl, last)

  -- the last word was heard
  pub hears_end : (a b : A) (line rest piece : List ℕ) (r : Reading) → piece_of r ≡ Ok piece → Takes acts a line piece false rest b → Hears acts a line (r ∷ []) Well b
  hears_end a b line rest piece r is takes = subst (λ o. heard o a line [] Well b) (sym is) (false, rest, b, takes, (refl, refl, refl))

  -- more is heard
  pub hears_more : (a b c : A) (line rest piece : List ℕ) (r : Reading) (rs : List Reading) (end : End) → piece_of r ≡ Ok piece → Takes acts a line piece true rest b → Hears acts b rest rs end c
      → Hears acts a line (r ∷ rs) end c
  hears_more a b c line rest piece r rs end is takes more = subst (λ o. heard o a line rs end c) (sym is) (true, rest, b, takes, more)
