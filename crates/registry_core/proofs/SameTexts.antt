-- Texts, and lists of texts, that `==` finds equal.
use Rattle.std.proofs.Common.{◌≡◌, ℕ, true, List, refl}
use Rattle.std.proofs.lemmas.Slice.Eq.{bytes_eq-Decides, slice_eq-Decides}
use Rattle.slp_text.specs.Words.{bytes_eq, texts_eq}

pub texts_same : (xs ys : List (List ℕ)) → texts_eq xs ys ≡ true → xs ≡ ys
texts_same xs ys = (slice_eq-Decides bytes_eq-Decides xs ys (texts_eq xs ys) refl).0

pub texts_itself : (xs : List (List ℕ)) → texts_eq xs xs ≡ true
texts_itself xs = (slice_eq-Decides bytes_eq-Decides xs xs (texts_eq xs xs) refl).1 refl

pub bytes_itself : (xs : List ℕ) → bytes_eq xs xs ≡ true
bytes_itself xs = (bytes_eq-Decides xs xs).1 refl
