use Rattle.std.proofs.Common.{◌≡◌, List, ℕ, take, true}
use Rattle.std.specs.List.{list_all, list_any}
use Rattle.slp_text.specs.Words.{bytes_eq}
use Rattle.site_check.proofs.hiding.has_all.Given as goal

-- each scope so far is one of the others
abbrev pub invariant-loop-i : goal.invariant-loop-i
invariant-loop-i l = list_all (λ (s : List ℕ). list_any (λ (k : List ℕ). bytes_eq k s) l.wide) (take l.i l.narrow) ≡ true
