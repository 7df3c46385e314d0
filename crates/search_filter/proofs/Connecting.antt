-- Filters are connected.
use Rattle.std.proofs.Common.{◌≡◌, false, List, [], ◌∷◌, length, Ok, Err, refl, arith}
use Rattle.std.specs.Prelude.{◌==◌}
use Rattle.search_filter.specs.Filters.{all, any}
use Rattle.search_filter.specs.Reading.{connected_or_fault, takes_another}
use Rattle.search_filter.specs.Trees.{filters_in}
use Rattle.search_filter.specs.declared.fault.FilterFault.TheVariants.{Syntax}
use Rattle.search_filter.specs.declared.parsing.Connective.TheVariants.{And, Or, Not}
use Rattle.search_filter.specs.declared.tree.Tree.{Tree}

pub takes-first : (ts : List Tree) → (length ts == 0) ≡ takes_another Not (filters_in ts)
takes-first [] = refl
takes-first (t ∷ ts) = grind arith

pub some-and : (ts : List Tree) → (length ts == 0) ≡ false → connected_or_fault And (filters_in ts) ≡ Ok (all (filters_in ts))
some-and [] h = cc
some-and (t ∷ ts) h = refl

pub some-or : (ts : List Tree) → (length ts == 0) ≡ false → connected_or_fault Or (filters_in ts) ≡ Ok (any (filters_in ts))
some-or [] h = cc
some-or (t ∷ ts) h = refl

pub not-one : (ts : List Tree) → (length ts ≡ 1 → ⊥) → connected_or_fault Not (filters_in ts) ≡ Err Syntax
not-one [] h = refl
not-one (t ∷ []) h = absurd (h (omega arith))
not-one (t ∷ u ∷ ts) h = refl
