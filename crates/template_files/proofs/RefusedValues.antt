-- Whether a `=` stands in lines that list values.
use Rattle.std.proofs.Common.{◌≡◌, ℕ, true, false, cond, ◌==◌, List, [], ◌∷◌, Some, refl, ap}
use Rattle.std.specs.Prelude.{not, ◌&&◌, ◌||◌, is_some}
use Rattle.std.specs.List.{list_any}
use denote.Ref.{Bor}
use Rattle.attr_list.specs.Pieces.{part_after}
use Rattle.template_files.specs.Faults.{has_equals}
use Rattle.template_files.specs.Reading.{is_help, spoken}
use Rattle.template_files.specs.Stops.{texts_of}

-- something comes after a mark where one is there
pub some-after : (mark : ℕ) (cs : List ℕ) → is_some (part_after mark cs) ≡ list_any (λ c. c == mark) cs
some-after mark [] = refl
some-after mark (c ∷ cs) = elim (c == mark) as (λ b. is_some (cond b (Some cs) (part_after mark cs)) ≡ (b || list_any (λ d. d == mark) cs)) [ true ↦ refl | false ↦ some-after mark cs ]

-- help is not looked at
pub any-spoken : (ls : List (Bor (List ℕ))) → list_any (λ l. not (is_help l.now) && has_equals l.now) ls ≡ list_any has_equals (spoken (texts_of ls))
any-spoken [] = refl
any-spoken (l ∷ ls) =
    elim (is_help l.now) as (λ b. ((not b && has_equals l.now) || list_any (λ k. not (is_help k.now) && has_equals k.now) ls) ≡ list_any has_equals (cond (not b) (l.now ∷ spoken (texts_of ls)) (spoken (texts_of ls)))) [
      | true ↦ any-spoken ls
      | false ↦ ap (λ b. has_equals l.now || b) (any-spoken ls)
    ]
