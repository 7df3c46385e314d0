-- What is handed over and taken over, one after the other.
use Rattle.std.proofs.Common.{◌≡◌, true, ℕ, List, [], ◌∷◌, ◌++◌, Option, refl, sym, ap, ◌∙◌, subst, inl, inr}
use Rattle.std.proofs.lemmas.List.{append_assoc}
use Rattle.slp_sockets.specs.Handing.{Gift, Letter, Talker, AreGiven, AreMailed, Handing, IsGivenAt, Joins, TakesOver, letters_in}
use Rattle.slp_sockets.specs.Holding.{Seat}
use Rattle.slp_sockets.specs.Linking.{has_message}
use Rattle.slp_sockets.specs.Ports.{Datagram}
use Rattle.slp_sockets.specs.Serving.{Manner}
use Rattle.slp_sockets.specs.Turning.{Keeps}

module _ {S : Type 0} (manner : Manner S) where
  -- one more datagram
  pub mailed_more : (aside : List Datagram) (had : List Gift) (ds : List Datagram) (has : List Gift) (asides rest : List Datagram) (d : Datagram) → AreMailed manner aside had ds has asides → asides ≡ d ∷ rest → manner.may_last d.bytes
      → AreMailed manner aside had (ds ++ d ∷ []) (has ++ Letter d ∷ []) rest
  mailed_more aside had [] has asides rest d (same, kept) front may = (rest, sym kept ∙ front, may, (ap (λ gs. gs ++ Letter d ∷ []) same, refl))
  mailed_more aside had (e ∷ ds) has asides rest d (others, first, long, more) front may = (others, first, long, mailed_more others (had ++ Letter e ∷ []) ds has asides rest d more front may)

  -- one more stream
  pub given_more : (a : Handing) (keys : List ℕ) (key : ℕ) (b c : Handing) → AreGiven manner a keys b → IsGivenAt manner key b c → AreGiven manner a (keys ++ key ∷ []) c
  given_more a [] key b c same one = (c, subst (λ h. IsGivenAt manner key h c) same one, refl)
  given_more a (k ∷ ks) key b c (between, first, rest) one = (between, first, given_more between ks key b c rest one)

-- streams that come, step after step
pub join_again : (before between after : List (Option Seat)) → Joins before between → Joins between after → Joins before after
join_again before between after first next key s is = elim (next key s is) [
  | inl was ↦ first key s was
  | inr front ↦ inr front
]

-- one that comes has a message in front
pub kept_joins : (stream : Seat) (before after : List (Option Seat)) → has_message stream.link ≡ true → Keeps stream before after → Joins before after
kept_joins stream before after front keeps key s is = elim (keeps key s is) [
  | inl was ↦ inl was
  | inr same ↦ inr (ap (λ (x : Seat). has_message x.link) same ∙ front)
]

letters_on : (gs : List Gift) (g : Gift) → letters_in (gs ++ g ∷ []) ≡ letters_in gs ++ letters_in (g ∷ [])
letters_on [] g = refl
letters_on (Letter d ∷ gs) g = ap (λ ds. d ∷ ds) (letters_on gs g)
letters_on (Talker s ∷ gs) g = letters_on gs g

-- one more is taken over
pub taken_more : (aside : List Datagram) (had : List Gift) (between : List Datagram) (then : List Gift) (asides : List Datagram) (has : List Gift) (g : Gift) → TakesOver aside had between then → asides ≡ between ++ letters_in (g ∷ []) → has ≡ then ++ g ∷ []
    → TakesOver aside had asides has
taken_more aside had between then asides has g over put taken = record {
  gifts = over.gifts ++ g ∷ [];
  taken = taken ∙ (ap (λ gs. gs ++ g ∷ []) over.taken ∙ append_assoc had over.gifts (g ∷ []));
  put = put ∙ (ap (λ ds. ds ++ letters_in (g ∷ [])) over.put ∙ (append_assoc aside (letters_in over.gifts) (letters_in (g ∷ [])) ∙ ap (λ ds. aside ++ ds) (sym (letters_on over.gifts g))));
}
