use Rattle.std.proofs.Common.{◌≡◌, false, take}
use Rattle.std.specs.List.{list_any}
use Rattle.slp_text.specs.Words.{bytes_eq}
use Rattle.slp_scopes.proofs.scopes.ScopeList.has.Given as goal

-- none so far
abbrev pub invariant-loop-key : goal.invariant-loop-key
invariant-loop-key l = list_any (λ k. bytes_eq k l.scope) (take l.key-index l.self) ≡ false
