use Rattle.std.proofs.Common.{◌≡◌, ◌++◌, ◌≤◌, length}
use Rattle.std.specs.Prelude.{string_bytes}
use Rattle.slp_replies.specs.TextLists.{list_with}
use Rattle.slp_replies.proofs.texts.list.Given as goal

-- those so far, which fit
abbrev pub invariant-loop-place : goal.invariant-loop-place
invariant-loop-place g l = record {
  listed : string_bytes l.out ≡ string_bytes l.initial.out ++ list_with (g.T.Texts.texts l.texts) l.place;
  fits : length (string_bytes l.out) ≤ l.room;
}
