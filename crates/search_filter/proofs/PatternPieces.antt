-- The pieces of a pattern are read from left to right.
use Rattle.std.proofs.Common.{◌≡◌, ◌<◌, ◌+◌, ℕ, ◌==◌, List, [], ◌∷◌, ◌++◌, length, map, Option, Some, None, Result, Ok, Err, refl, sym, ap, subst, ◌∙◌, append_assoc, arith, chars}
use Rattle.std.proofs.lemmas.List.{map-append}
use Rattle.std.specs.List.{onto_first, slice_split}
use Rattle.std.specs.Prelude.{string_bytes, String}
use Rattle.std.specs.declared.alloc.Global.{Global}
use Rattle.slp_text.specs.Ascii.{asterisk}
use Rattle.slp_text.specs.Reading.{read_all, read_map, read_then}
use Rattle.slp_tags.specs.Tags.{is_star}
use Rattle.attr_list.specs.Pieces.{part_after, part_before, IsShorter}
use Rattle.attr_list.proofs.CutTexts.{after-shorter, by_test}
use Rattle.search_filter.specs.Operands.{characters_in}
use Rattle.search_filter.specs.Outcomes.{IsFault}
use Rattle.search_filter.specs.declared.fault.FilterFault.{FilterFault}
use Rattle.search_filter.proofs.Faults.{fault-map, fault-same, fault-then}

-- how much is left
abbrev pub left : Option (List ℕ) → ℕ
left None = 0
left (Some cs) = length cs + 1

left-less : (o rest : Option (List ℕ)) (cs : List ℕ) → o ≡ Some cs → IsShorter rest cs → left rest < left o
left-less o None cs is h = subst (λ p. 0 < left p) (sym is) (omega arith)
left-less o (Some more) cs is h = subst (λ p. left (Some more) < left p) (sym is) (omega arith)

-- the characters of the pieces that were read
abbrev pub read_pieces : List (String Global) → List (List ℕ)
read_pieces = map (λ s. chars (string_bytes s))

-- the pieces that are left to be read
abbrev pub rest_pieces : Option (List ℕ) → List (List ℕ)
rest_pieces None = []
rest_pieces (Some more) = slice_split is_star more

-- those that were read, and those that are left, are all
abbrev pub ArePiecesSoFar : Result (List (List ℕ)) FilterFault → List (String Global) → Option (List ℕ) → Type 0
ArePiecesSoFar all done rest = all ≡ read_map (λ ps. read_pieces done ++ ps) (read_all characters_in (rest_pieces rest))

more_done : (done : List (List ℕ)) (x : List ℕ) (r : Result (List (List ℕ)) FilterFault) → read_map (λ xs. done ++ xs) (read_map (λ xs. x ∷ xs) r) ≡ read_map (λ xs. (done ++ x ∷ []) ++ xs) r
more_done done x (Ok xs) = ap Ok (sym (append_assoc done (x ∷ []) xs))
more_done done x (Err e) = refl

-- the first piece ends at the first `*`
split_pieces : (cs : List ℕ) → slice_split is_star cs ≡ part_before asterisk cs ∷ rest_pieces (part_after asterisk cs)
split_pieces [] = refl
split_pieces (c ∷ cs) = by_test (c == asterisk) (λ t. rw t refl) (λ f. rw f (ap (onto_first c) (split_pieces cs)))

abbrev first_then : Option (List ℕ) → Result (List ℕ) FilterFault → Result (List (List ℕ)) FilterFault
first_then rest r = read_then (λ v. read_map (λ vs. v ∷ vs) (read_all characters_in (rest_pieces rest))) r

first_reads : (o rest : Option (List ℕ)) (cs t : List ℕ) → o ≡ Some cs → t ≡ part_before asterisk cs → rest ≡ part_after asterisk cs → read_all characters_in (rest_pieces o) ≡ first_then rest (characters_in t)
first_reads o rest cs t is before after =
    ap (λ p. read_all characters_in (rest_pieces p)) is ∙ ap (read_all characters_in) (split_pieces cs) ∙ ap (λ u. first_then (part_after asterisk cs) (characters_in u)) (sym before)
    ∙ ap (λ p. first_then p (characters_in t)) (sym after)

-- the fault of a piece is that of all
pub piece-stops : (all : Result (List (List ℕ)) FilterFault) (done : List (String Global)) (o rest : Option (List ℕ)) (cs t : List ℕ) (e : FilterFault) → ArePiecesSoFar all done o → o ≡ Some cs
    → t ≡ part_before asterisk cs → rest ≡ part_after asterisk cs → IsFault e (characters_in t) → IsFault e all
piece-stops all done o rest cs t e h is before after f =
    fault-same e (read_map (λ vs. read_pieces done ++ vs) (first_then rest (characters_in t))) all (h ∙ ap (read_map (λ vs. read_pieces done ++ vs)) (first_reads o rest cs t is before after))
    (fault-map (λ vs. read_pieces done ++ vs) e (first_then rest (characters_in t)) (fault-then (λ v. read_map (λ vs. v ∷ vs) (read_all characters_in (rest_pieces rest))) e (characters_in t) f))

-- a piece that is read is one more
pub piece-added : (all : Result (List (List ℕ)) FilterFault) (done new : List (String Global)) (o rest : Option (List ℕ)) (cs t : List ℕ) (s : String Global) → ArePiecesSoFar all done o → o ≡ Some cs
    → t ≡ part_before asterisk cs → rest ≡ part_after asterisk cs → characters_in t ≡ Ok (chars (string_bytes s)) → new ≡ done ++ s ∷ [] → ArePiecesSoFar all new rest
piece-added all done new o rest cs t s h is before after ok more =
    h ∙ ap (read_map (λ vs. read_pieces done ++ vs)) (first_reads o rest cs t is before after ∙ ap (first_then rest) ok)
    ∙ more_done (read_pieces done) (chars (string_bytes s)) (read_all characters_in (rest_pieces rest))
    ∙ ap (λ ds. read_map (λ vs. ds ++ vs) (read_all characters_in (rest_pieces rest))) (sym (map-append (λ x. chars (string_bytes x)) done (s ∷ [])))
    ∙ ap (λ ds. read_map (λ vs. read_pieces ds ++ vs) (read_all characters_in (rest_pieces rest))) (sym more)

-- less is left after a piece
pub pieces-less : (o rest : Option (List ℕ)) (cs : List ℕ) → o ≡ Some cs → rest ≡ part_after asterisk cs → left rest < left o
pieces-less o rest cs is after = left-less o rest cs is (subst (λ p. IsShorter p cs) (sym after) (after-shorter asterisk cs))
