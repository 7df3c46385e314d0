use Rattle.std.proofs.Common.{◌≡◌, ℕ, List, ◌++◌, encode_utf8_all, chars}
use Rattle.std.specs.Prelude.{string_bytes}
use Rattle.std.specs.Str.Iter.{chars_rest}
use Rattle.slp_text.specs.Escapes.{escaped_text}
use Rattle.slp_text.specs.Steps.{BeginsWith}
use Rattle.slp_text.proofs.escapes.append_escaped.Given as goal

-- what is there and what is still to come are the text
abbrev pub invariant-loop-c : goal.invariant-loop-c
invariant-loop-c l = record {
  start : BeginsWith (string_bytes l.initial.out) (string_bytes l.out);
  text : (cs : List ℕ) × (encode_utf8_all cs ≡ chars_rest l.c-iterator)
      × (string_bytes l.out ++ encode_utf8_all (escaped_text l.place cs) ≡ string_bytes l.initial.out ++ encode_utf8_all (escaped_text l.place (chars l.fn.text)));
}
