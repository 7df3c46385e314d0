-- What stands in a list between commas (RFC 2608, sections 5 and 6.4.1).
use Rattle.std.specs.Prelude.{ℕ, Bool, ◌==◌, nat_lt, List, [], ◌∷◌, ◌++◌, length}
use Rattle.slp_text.specs.Ascii.{comma}

-- the character is a comma
abbrev pub is_comma : ℕ → Bool
is_comma c = c == comma

-- it is not empty
abbrev pub is_some_text : {A : Type 0} → List A → Bool
is_some_text t = nat_lt 0 (length t)

-- texts with a comma between each two
abbrev pub comma_list : List (List ℕ) → List ℕ
comma_list [] = []
comma_list (t ∷ []) = t
comma_list (t ∷ u ∷ ts) = t ++ comma ∷ comma_list (u ∷ ts)
