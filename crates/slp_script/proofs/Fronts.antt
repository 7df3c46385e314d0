-- Lines one by one, and commands one by one, from the front.
use Rattle.std.proofs.Common.{◌≡◌, ◌≢◌, ℕ, false, List, [], ◌∷◌, ◌++◌, refl, sym, ap, ◌∙◌, append_assoc}
use Rattle.std.specs.Prelude.{◌==◌}
use Rattle.std.specs.List.{AllByRecursion, flat_map}
use Rattle.slp_script.specs.Lines.{Line, before_first_line, lines_of, line_bytes, HasNoLf}
use Rattle.slp_script.specs.Commands.{Command, Spells, Reads}
use Rattle.std.proofs.lemmas.List.{append-nil}
use Rattle.std.proofs.lemmas.Bool.Decides.{eqb_tells}
use Rattle.std.proofs.Common.{inl, inr}
use Rattle.slp_text.specs.Ascii.{line_feed}

neqb_of : (a b : ℕ) → a ≢ b → (a == b) ≡ false
neqb_of a b h = elim (eqb_tells a b) [ inl t ↦ absurd (h t.1) | inr f ↦ f.0 ]

-- what is left of a text at its end is a line, unless it is empty
abbrev pub last_line : List ℕ → List Line
last_line [] = []
last_line (x ∷ xs) = (x ∷ xs) ∷ []

pub before_first_line-nil : (x : ℕ) (xs : List ℕ) → before_first_line x (last_line xs) ≡ (x ∷ xs) ∷ []
before_first_line-nil x [] = refl
before_first_line-nil x (y ∷ xs) = refl

pub lines_of-last : (l : List ℕ) → HasNoLf l → lines_of l ≡ last_line l
lines_of-last [] h = refl
lines_of-last (x ∷ xs) h =
    let no : (x == line_feed) ≡ false = neqb_of x line_feed h.0 in
    rw (no, lines_of-last xs h.1) (before_first_line-nil x xs)

pub lines_of-line_bytes : (l rest : List ℕ) → HasNoLf l → lines_of (l ++ line_feed ∷ rest) ≡ l ∷ lines_of rest
lines_of-line_bytes [] rest h = refl
lines_of-line_bytes (x ∷ xs) rest h =
    let no : (x == line_feed) ≡ false = neqb_of x line_feed h.0 in
    rw (no, lines_of-line_bytes xs rest h.1) refl

pub lines_of-append : (ls : List Line) (rest : List ℕ) → AllByRecursion HasNoLf ls → lines_of (flat_map line_bytes ls ++ rest) ≡ ls ++ lines_of rest
lines_of-append [] rest h = refl
lines_of-append (l ∷ ls) rest h =
    rw (append_assoc (line_bytes l) (flat_map line_bytes ls) rest, append_assoc l (line_feed ∷ []) (flat_map line_bytes ls ++ rest)) (lines_of-line_bytes l (flat_map line_bytes ls ++ rest) h.0 ∙ ap (λ t. l ∷ t) (lines_of-append ls rest h.1))

pub Reads-snoc : (ls : List Line) (cs : List Command) (front : List Line) (c : Command) → Reads ls cs → Spells front c → Reads (ls ++ front) (cs ++ c ∷ [])
Reads-snoc ls [] front c r s = (front, [], rw r (sym (append-nil front)), s, refl)
Reads-snoc ls (d ∷ cs) front c r s =
    (r.0, r.1 ++ front, rw (r.2) (append_assoc r.0 r.1 front), r.3, Reads-snoc r.1 cs front c r.4 s)

pub All-append : {X : Type 0} (P : X → Type 0) (xs ys : List X) → AllByRecursion P xs → AllByRecursion P ys → AllByRecursion P (xs ++ ys)
All-append P [] ys h k = k
All-append P (x ∷ xs) ys h k = (h.0, All-append P xs ys h.1 k)
