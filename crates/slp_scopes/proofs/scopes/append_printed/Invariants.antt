use Rattle.std.proofs.Common.{◌≡◌, ◌++◌, drop}
use Rattle.std.specs.Prelude.{string_bytes}
use Rattle.slp_scopes.specs.Scopes.{printed_scopes}
use Rattle.slp_text.specs.Steps.{BeginsWith}
use Rattle.slp_scopes.proofs.PrintedParts.{printed_from}
use Rattle.slp_scopes.proofs.scopes.append_printed.Given as goal

-- what is there and what is still to come are the scopes
abbrev pub invariant-loop-k : goal.invariant-loop-k
invariant-loop-k l = record {
  start : BeginsWith (string_bytes l.initial.out) (string_bytes l.out);
  text : string_bytes l.out ++ printed_from l.begun (drop l.k-index l.keys) ≡ string_bytes l.initial.out ++ printed_scopes l.keys;
}
