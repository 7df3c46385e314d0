use Rattle.std.proofs.Common.{◌≡◌, ◌++◌, drop, map}
use Rattle.std.specs.Prelude.{string_bytes}
use Rattle.slp_text.specs.Steps.{BeginsWith}
use Rattle.attr_list.specs.Writing.{text_of, texts_of}
use Rattle.attr_list.proofs.ListedTexts.{listed_from}
use Rattle.attr_list.proofs.writing.append_all.Given as goal

-- what is there and what is still to come are the attributes
abbrev pub invariant-loop-entry : goal.invariant-loop-entry
invariant-loop-entry l = record {
  start : BeginsWith (string_bytes l.initial.out) (string_bytes l.out);
  text : string_bytes l.out ++ listed_from l.begun (map text_of (drop l.entry-index l.entries)) ≡ string_bytes l.initial.out ++ texts_of l.entries;
}
