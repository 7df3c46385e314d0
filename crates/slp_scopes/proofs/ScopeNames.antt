-- What a scope list still gives.
use Rattle.std.proofs.Common.{◌≡◌, ℕ, List, [], ◌∷◌, ◌++◌, map, refl, sym, ap, ◌∙◌, append_assoc, append-nil, chars, encode_utf8_all}
use Rattle.std.specs.Prelude.{filter, IsUtf8}
use Rattle.std.proofs.lemmas.Str.{chars_from_encodes}
use Rattle.slp_text.specs.Keys.{key_of, folded_text}
use Rattle.slp_scopes.specs.ScopeNames.{keys_of, scope_names_of}
use Rattle.slp_text.specs.Reading.{read_map}
use Rattle.slp_text.specs.Lists.{is_comma, is_some_text}
use Rattle.slp_text.specs.declared.escapes.Place.TheVariants.{Scope}
use Rattle.slp_text.specs.declared.escapes.Stage.TheVariants.{Plain}
use Rattle.slp_text.proofs.Readers.{on_head, Follows, read_all-split}
use Rattle.slp_text.proofs.Lists.{characters_at, list_parts, kept}

-- the keys, where these are there and a part has begun
abbrev pub made : List (List ℕ) → List ℕ → List (List ℕ) → List (List ℕ)
made keys part [] = keys
made keys part (p ∷ ps) = keys ++ keys_of ((part ++ p) ∷ ps)

pub made-more : (keys : List (List ℕ)) (part : List ℕ) (d : ℕ) (ps : List (List ℕ)) → made keys (part ++ d ∷ []) ps ≡ made keys part (on_head (λ xs. d ∷ xs) ps)
made-more keys part d [] = refl
made-more keys part d (p ∷ ps) = ap (λ q. keys ++ keys_of (q ∷ ps)) (append_assoc part (d ∷ []) p)

key_of-folded_text : (part : List ℕ) (bytes : List ℕ) → IsUtf8 bytes → encode_utf8_all part ≡ bytes → key_of bytes ≡ folded_text part
unfolding key_of
key_of-folded_text part bytes utf8 is = ap folded_text (sym (chars_from_encodes part bytes utf8 is))

-- the keys once the part has ended
pub made-next : (keys after : List (List ℕ)) (part bytes : List ℕ) (ps : List (List ℕ)) → IsUtf8 bytes → encode_utf8_all part ≡ bytes → after ≡ keys ++ filter is_some_text (key_of bytes ∷ [])
    → made after [] ps ≡ made keys part ([] ∷ ps)
made-next keys after part bytes [] utf8 is more = more ∙ ap (λ k. keys ++ filter is_some_text (k ∷ [])) (key_of-folded_text part bytes utf8 is ∙ ap folded_text (sym (append-nil part)))
made-next keys after part bytes (p ∷ ps) utf8 is more =
    ap (λ ks. ks ++ keys_of (p ∷ ps)) (more ∙ ap (λ k. keys ++ filter is_some_text (k ∷ [])) (key_of-folded_text part bytes utf8 is ∙ ap folded_text (sym (append-nil part))))
    ∙ append_assoc keys (filter is_some_text (folded_text (part ++ []) ∷ [])) (keys_of (p ∷ ps))
    ∙ ap (λ ks. keys ++ ks) (sym (kept (folded_text (part ++ [])) (map folded_text (p ∷ ps))))

made-start : (keys : List (List ℕ)) (ps : List (List ℕ)) → keys ≡ [] → made keys [] ps ≡ keys_of ps
made-start keys [] none = none
made-start keys (p ∷ ps) none = ap (λ ks. ks ++ keys_of (p ∷ ps)) none

pub named-init : (text : List ℕ) (keys : List (List ℕ)) → keys ≡ [] → Follows (list_parts (characters_at Scope)) (made keys []) Plain (chars text) (scope_names_of text)
unfolding scope_names_of
named-init text keys none =
    ap (λ f. read_map f (list_parts (characters_at Scope) Plain (chars text))) (λ i ps. made-start keys ps none i) ∙ ap (read_map keys_of) (sym (read_all-split is_comma (characters_at Scope).reads (chars text)))
