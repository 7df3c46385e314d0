use Rattle.std.proofs.Common.{◌≡◌, ℕ, ◌+◌, ◌≤◌, List, ◌++◌, length, encode_utf8_all, chars}
use Rattle.std.specs.Str.Iter.{chars_rest}
use Rattle.slp_text.specs.Escapes.{escaped_text}
use Rattle.slp_text.specs.declared.escapes.Place.TheVariants.{Scope}
use Rattle.slp_replies.proofs.audit.put_escaped.Given as goal

-- what was written and what is still to come are the scope
abbrev pub invariant-loop-c : goal.invariant-loop-c
invariant-loop-c g l =
    (cs : List ℕ) × (encode_utf8_all cs ≡ chars_rest l.c-iterator)
    × (g.S.Sink.written l.sink ++ encode_utf8_all (escaped_text Scope cs) ≡ g.S.Sink.written l.initial.sink ++ encode_utf8_all (escaped_text Scope (chars l.fn.scope)))
    × (g.S.Sink.room l.initial.sink + length (encode_utf8_all (escaped_text Scope cs)) ≤ g.S.Sink.room l.sink + length (encode_utf8_all (escaped_text Scope (chars l.fn.scope))))
