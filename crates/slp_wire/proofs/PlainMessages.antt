-- What is written is a spelling.
use Rattle.std.proofs.Common.{◌≡◌, ℕ, ◌+◌, ◌^◌, ◌<◌, ◌≤◌, true, false, List, [], ◌++◌, length, refl, sym, ap, ◌∙◌, arith, lit<}
use Rattle.std.proofs.lemmas.List.{append-nil}
use Rattle.slp_headers.specs.Headers.{Heading, heading_bytes, flags_of, word_of}
use Rattle.slp_messages.specs.Messages.{header_of, function_of, IsMessage}
use Rattle.slp_wire.specs.Spelling.{body_of, body_end, heading_for, plain_bytes, longest, Spells}
use Rattle.slp_messages.specs.declared.message.Message.{Message}
use Rattle.slp_wire.proofs.Bodies.{body_is_spelled}

flags_are_kept : (o f m : _) → flags_of (word_of (record { overflow = o; fresh = f; multicast = m })) ≡ record { overflow = o; fresh = f; multicast = m }
flags_are_kept true true true = refl
flags_are_kept true true false = refl
flags_are_kept true false true = refl
flags_are_kept true false false = refl
flags_are_kept false true true = refl
flags_are_kept false true false = refl
flags_are_kept false false true = refl
flags_are_kept false false false = refl

word_is_short : (o f m : _) → word_of (record { overflow = o; fresh = f; multicast = m }) < 2 ^ 16
word_is_short true true true = lit< tt
word_is_short true true false = lit< tt
word_is_short true false true = lit< tt
word_is_short true false false = lit< tt
word_is_short false true true = lit< tt
word_is_short false true false = lit< tt
word_is_short false false true = lit< tt
word_is_short false false false = lit< tt

-- the header of a message without extensions
heading_alone : (m : Message) (word : ℕ) (body : List ℕ)
    → heading_for m word body [] ≡ record { version = 2; function = function_of m; length = body_end m body; flags = word; extension = 0; xid = (header_of m).xid; language = (header_of m).language }
heading_alone m word body =
    let whole : body_end m body + 0 ≡ body_end m body = omega arith in
    ap (λ (l : ℕ). record { version = 2; function = function_of m; length = l; flags = word; extension = 0; xid = (header_of m).xid; language = (header_of m).language }) whole

pub is_spelled : (m : Message) → IsMessage m → length (plain_bytes m) ≤ longest → Spells (plain_bytes m) m
is_spelled m sound short =
    let f = (header_of m).flags in
    record {
      sound = sound;
      word = word_of f;
      word_fits = word_is_short f.overflow f.fresh f.multicast;
      flags = flags_are_kept f.overflow f.fresh f.multicast;
      body = body_of m;
      extensions = [];
      skipped = tt;
      framing = ap (λ (h : Heading). heading_bytes h ++ body_of m) (sym (heading_alone m (word_of f) (body_of m))) ∙ ap (λ (t : List ℕ). heading_bytes (heading_for m (word_of f) (body_of m) []) ++ t) (sym (append-nil (body_of m)));
      short = omega (arith, short);
      spells = body_is_spelled m;
    }
