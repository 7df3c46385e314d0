-- What stands at a place of a list, and in what is made of it.
use Rattle.std.proofs.Common.{ℕ, List, map, Option, Some, None, sym, subst}
use Rattle.std.specs.Prelude.{slice_get, IfSome}
use Rattle.std.specs.Option.{option_map}
use Rattle.std.proofs.lemmas.Option.{slice_get-map}

mapped : {A B : Type 0} (f : A → B) (P : B → Type 0) (o : Option A) → IfSome o (λ a. P (f a)) → IfSome (option_map f o) P
mapped f P None h = tt
mapped f P (Some a) h = h

pub at-mapped : {A B : Type 0} (f : A → B) (P : B → Type 0) (xs : List A) (place : ℕ) → IfSome (slice_get xs place) (λ a. P (f a)) → IfSome (slice_get (map f xs) place) P
at-mapped f P xs place h = subst (λ o. IfSome o P) (sym (slice_get-map f xs place)) (mapped f P (slice_get xs place) h)
