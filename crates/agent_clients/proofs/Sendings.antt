-- What is sent, one registration after the other.
use Rattle.std.proofs.Common.{◌≡◌, ℕ, ◌+◌, ◌<◌, ◌≤◌, Bool, true, false, cond, List, [], ◌∷◌, ◌++◌, length, get_or, take, drop, refl, sym, ap, ◌∙◌, append_assoc, arith}
use Rattle.std.proofs.lemmas.List.{at_drop_more, length-take, take-take}
use Rattle.agent_clients.specs.Keeping.{Kept, is_due, next_xid, refreshed, sent, xid_after}

sent_first : (now xid : ℕ) (k : Kept) (ks : List Kept) → sent now xid (k ∷ ks) ≡ sent now xid (k ∷ []) ++ sent now (xid_after now xid (k ∷ [])) ks
sent_first now xid k ks =
    elim (is_due now k) as (λ (b : Bool). cond b (refreshed (next_xid xid) k.bytes ∷ sent now (next_xid xid) ks) (sent now xid ks) ≡ cond b (refreshed (next_xid xid) k.bytes ∷ []) [] ++ sent now (cond b (next_xid xid) xid) ks) [
      | true ↦ refl
      | false ↦ refl
    ]

xid_first : (now xid : ℕ) (k : Kept) (ks : List Kept) → xid_after now xid (k ∷ ks) ≡ xid_after now (xid_after now xid (k ∷ [])) ks
xid_first now xid k ks =
    elim (is_due now k) as (λ (b : Bool). cond b (xid_after now (next_xid xid) ks) (xid_after now xid ks) ≡ xid_after now (cond b (next_xid xid) xid) ks) [
      | true ↦ refl
      | false ↦ refl
    ]

module _ (now first last next i : ℕ) (ks : List Kept) (k : Kept) (within : i < length ks) (is : k ≡ get_or ks i k) (after : next ≡ xid_after now last (k ∷ [])) where
  -- one more message, where it is due
  pub sent_more : (begun olds news : List (List ℕ)) → olds ++ sent now last (drop i ks) ≡ begun ++ sent now first ks → news ≡ olds ++ sent now last (k ∷ [])
      → news ++ sent now next (drop (i + 1) ks) ≡ begun ++ sent now first ks
  sent_more begun olds news held grown =
      let rest = drop (i + 1) ks in
      let here : sent now last (drop i ks) ≡ sent now last (k ∷ rest) = at_drop_more (λ (xs : List Kept). sent now last xs) ks i k within ∙ ap (λ (x : Kept). sent now last (x ∷ rest)) (sym is) in
      let parted : sent now last (drop i ks) ≡ sent now last (k ∷ []) ++ sent now next rest = here ∙ sent_first now last k rest ∙ ap (λ (n : ℕ). sent now last (k ∷ []) ++ sent now n rest) (sym after) in
      ap (λ (x : List (List ℕ)). x ++ sent now next rest) grown ∙ append_assoc olds (sent now last (k ∷ [])) (sent now next rest) ∙ ap (λ (x : List (List ℕ)). olds ++ x) (sym parted) ∙ held

  pub xid_more : xid_after now last (drop i ks) ≡ xid_after now first ks → xid_after now next (drop (i + 1) ks) ≡ xid_after now first ks
  xid_more held =
      let rest = drop (i + 1) ks in
      let here : xid_after now last (drop i ks) ≡ xid_after now last (k ∷ rest) = at_drop_more (λ (xs : List Kept). xid_after now last xs) ks i k within ∙ ap (λ (x : Kept). xid_after now last (x ∷ rest)) (sym is) in
      ap (λ (n : ℕ). xid_after now n rest) after ∙ sym (xid_first now last k rest) ∙ sym here ∙ held

-- what stands in front stays there
pub front_stays : {A : Type 0} (a b c : List A) → take (length a) b ≡ a → take (length b) c ≡ b → take (length a) c ≡ a
front_stays a b c p q =
    let within : length a ≤ length b = omega (arith, ap length p, length-take (length a) b) in
    sym (take-take (length a) (length b) c within) ∙ ap (take (length a)) q ∙ p
