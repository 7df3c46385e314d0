use Rattle.std.proofs.Common.{◌≡◌, [], All, vec_len}
use Rattle.published_view.specs.Traces.{Trace}
use Rattle.published_view.proofs.view.loops_of.Given as goal

abbrev pub invariant-loop-place : goal.invariant-loop-place
invariant-loop-place g l = (vec_len l.all ≡ l.place) × All (λ (h : Trace). h ≡ []) l.all.items
