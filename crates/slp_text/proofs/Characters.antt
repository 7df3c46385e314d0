-- Characters that are still to come.
use Rattle.std.proofs.Common.{◌≡◌, ℕ, ◌≤◌, List, [], ◌∷◌, ◌++◌, length, take, refl, sym, ap, subst, ◌∙◌, arith, length-append, append-nil, encode_utf8, encode_utf8_all}
use Rattle.std.specs.Prelude.{IsUtf8}
use Rattle.std.specs.Str.{IsCharBoundary}
use Rattle.std.proofs.Math.Seq.{take-append_seam}
use Rattle.std.proofs.lemmas.Str.{length-le-encodes, cons_from_encodes, encodes-append, IsCharBoundary-from_take}

pub no_more : (cs rest : List ℕ) → encode_utf8_all cs ≡ rest → length rest ≡ 0 → cs ≡ []
no_more [] rest e h = refl
no_more (c ∷ cs) rest e h = let k = length-le-encodes (c ∷ cs) in let l = ap length e in absurd (omega arith)

pub one_more : (cs rest after : List ℕ) (c : ℕ) → encode_utf8_all cs ≡ rest → rest ≡ encode_utf8 c ++ after → (es : List ℕ) × (cs ≡ c ∷ es) × (encode_utf8_all es ≡ after)
one_more cs rest after c e h = cons_from_encodes cs after c (e ∙ h)

-- a text may be cut where another that it begins with ends
pub start_ends : (all start added : List ℕ) → IsUtf8 all → IsUtf8 start → all ≡ start ++ added → IsCharBoundary all (length start)
start_ends all start added u v e =
    let le : length start ≤ length all = omega (arith, ap length e, length-append start added) in
    let same : take (length start) all ≡ start = ap (take (length start)) e ∙ take-append_seam start added in
    IsCharBoundary-from_take all (length start) u le (subst IsUtf8 (sym same) v)

pub encodes-more : (cs bytes more : List ℕ) (d : ℕ) → encode_utf8_all cs ≡ bytes → more ≡ bytes ++ encode_utf8 d → encode_utf8_all (cs ++ d ∷ []) ≡ more
encodes-more cs bytes more d is e =
    encodes-append cs (d ∷ []) ∙ ap (λ t. encode_utf8_all cs ++ t) (append-nil (encode_utf8 d)) ∙ ap (λ t. t ++ encode_utf8 d) is ∙ sym e
