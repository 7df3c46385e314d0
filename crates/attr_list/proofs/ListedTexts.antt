-- Texts that are written one after the other, with a comma between each two.
use Rattle.std.proofs.Common.{◌≡◌, ℕ, ◌+◌, ◌<◌, Bool, true, false, List, [], ◌∷◌, ◌++◌, drop, length, get_or, sym, ap, ◌∙◌, append_assoc, append-nil, drop-cons, add-one}
use Rattle.slp_text.specs.Ascii.{comma}
use Rattle.slp_text.specs.Lists.{comma_list}
use Rattle.slp_text.specs.Steps.{BeginsWith}
use Rattle.attr_list.specs.Writing.{written_item}

-- each with a comma before it
abbrev pub with_commas : List (List ℕ) → List ℕ
with_commas [] = []
with_commas (t ∷ ts) = comma ∷ (t ++ with_commas ts)

-- what is still to come, after a comma where others have begun
abbrev pub listed_from : Bool → List (List ℕ) → List ℕ
listed_from false ts = comma_list ts
listed_from true ts = with_commas ts

comma_list-first : (t : List ℕ) (ts : List (List ℕ)) → comma_list (t ∷ ts) ≡ t ++ with_commas ts
comma_list-first t [] = sym (append-nil t)
comma_list-first t (u ∷ ts) = ap (λ x. t ++ comma ∷ x) (comma_list-first u ts)

-- the item at an index and those after it
pub item_at : {A : Type 0} (xs : List A) (i : ℕ) (d : A) → i < length xs → drop i xs ≡ get_or xs i d ∷ drop (i + 1) xs
item_at xs i d h = rw (add-one, drop-cons xs i d)

pub listed_from-more : (begun : Bool) (text t : List ℕ) (ts : List (List ℕ)) → (text ++ written_item begun t) ++ with_commas ts ≡ text ++ listed_from begun (t ∷ ts)
listed_from-more false text t ts = append_assoc text t (with_commas ts) ∙ ap (λ x. text ++ x) (sym (comma_list-first t ts))
listed_from-more true text t ts = append_assoc text (comma ∷ t) (with_commas ts)

pub begins-further : (a b c : List ℕ) → BeginsWith a b → BeginsWith b c → BeginsWith a c
begins-further a b c m n = (m.0 ++ n.0, n.1 ∙ ap (λ t. t ++ n.0) m.1 ∙ append_assoc a m.0 n.0)
