-- The laws of whole messages: what is spelled is read, and what is read is spelled.
use Rattle.std.proofs.Common.{◌≡◌, ℕ, ◌+◌, ◌-◌, ◌^◌, ◌<◌, ◌≤◌, Bool, true, false, cond, eqb, ltb, List, [], ◌∷◌, ◌++◌, length, take, drop, Option, Some, None, Result, Ok, Err, refl, sym, ap, subst, ◌∙◌, append_assoc, arith, lit<, inl, inr, eq-eqb}
use Rattle.std.specs.Prelude.{◌||◌, IfOk}
use Rattle.std.specs.List.{AllByRecursion}
use Rattle.std.proofs.lemmas.Bool.{eqb-true, ne_eqb, ltb-false, le-ltb, or_parts}
use Rattle.std.proofs.lemmas.List.{append-nil, append_cancel_left, length-append, length-take, nil_from_length, take_at, drop_at, take-append-drop, take-take}
use Rattle.byteorder.specs.Endian.{big_number}
use Rattle.slp_headers.specs.Headers.{Heading, heading_bytes, heading_of, is_readable, fields_of, tag_of}
use Rattle.slp_messages.specs.Messages.{header_of, function_of, IsHeader, IsMessage}
use Rattle.slp_wire.specs.Extensions.{Extension, IsSkipped, begins_at, chain_bytes, extensions_at}
use Rattle.slp_fields.specs.Steps.{◌>>=◌, Gives}
use Rattle.slp_wire.specs.Bodies.{body_at}
use Rattle.slp_wire.specs.Reading.{is_known, kept_header, body_part, tail_of, ends_at, reading_to_end, reading_after, reading, marked_bytes}
use Rattle.slp_wire.specs.Spelling.{body_end, heading_for, Spells, plain_bytes, longest}
use Rattle.slp_fields.specs.declared.fault.WireFault.{WireFault}
use Rattle.slp_fields.specs.declared.fault.WireFault.TheVariants.{NoHeader, Version, Parse, Unknown}
use Rattle.slp_messages.specs.declared.header.Flags.{Flags}
use Rattle.slp_messages.specs.declared.header.Header.{Header}
use Rattle.slp_messages.specs.declared.message.Message.{Message}
use Rattle.slp_messages.specs.declared.message.Message.TheVariants as message
use Rattle.slp_wire.proofs.Bodies.{Body, body_takes, body_again}
use Rattle.slp_wire.proofs.Chains.{chain_again, chain_takes}
use Rattle.slp_wire.proofs.Headers.{IsHeading, header_is_front, header_length, header_fits, header_again, made, same_made}
use Rattle.slp_wire.proofs.PlainMessages.{is_spelled}
use Rattle.slp_wire.proofs.Steps.{IsBytes, IsBytes-drop, IsBytes-take, bind_ok, chosen, unless_ok, if_ok, ok_is}

after : Option Heading → List ℕ → Result Message WireFault
after found bytes = elim found [ None ↦ Err NoHeader | Some h ↦ reading_after h bytes ]

abbrev result_of : Message → List ℕ → Result (Message × List ℕ) WireFault
result_of m rest = Ok (m, rest)

reading_is : (bytes : List ℕ) → reading bytes ≡ after (heading_of bytes) bytes
unfolding reading after
reading_is bytes = refl

functions_are_known : (m : Message) → is_known (function_of m) ≡ true
functions_are_known (message.ServiceRequest h q) = refl
functions_are_known (message.ServiceReply h r) = refl
functions_are_known (message.Registration h r) = refl
functions_are_known (message.Withdrawal h w) = refl
functions_are_known (message.Acknowledgement h code) = refl
functions_are_known (message.AttributeRequest h q) = refl
functions_are_known (message.AttributeReply h r) = refl
functions_are_known (message.DirectoryAdvert h a) = refl
functions_are_known (message.TypeRequest h q) = refl
functions_are_known (message.TypeReply h r) = refl
functions_are_known (message.ServiceAdvert h a) = refl

-- ---- what is spelled is read

-- where the extensions begin fits its place
extension_fits : (m : Message) (word : ℕ) (body : List ℕ) (xs : List Extension) → body_end m body < 2 ^ 24 → (heading_for m word body xs).extension < 2 ^ 24
extension_fits m word body [] short = lit< tt
extension_fits m word body (x ∷ xs) short = short

body_is_marked : (h : Heading) (part rest bytes : List ℕ) → h.length ≡ 14 + length h.language + length part → bytes ≡ heading_bytes h ++ (part ++ rest) → body_part h bytes ≡ part
body_is_marked h part rest bytes len front =
    let whole : bytes ≡ (heading_bytes h ++ part) ++ rest = front ∙ sym (append_assoc (heading_bytes h) part rest) in
    let size : length (heading_bytes h) ≡ 14 + length h.language = omega arith in
    let all : length (heading_bytes h ++ part) ≡ h.length = omega (arith, length-append (heading_bytes h) part, size, len) in
    ap (drop (14 + length h.language)) (ap (take h.length) whole ∙ take_at (heading_bytes h ++ part) rest h.length all)
    ∙ drop_at (heading_bytes h) part (14 + length h.language) size

-- the extensions of a message are so many bytes
tail_is_chain : (m : Message) (word : ℕ) (body : List ℕ) (xs : List Extension) → tail_of (heading_for m word body xs) ≡ length (chain_bytes (body_end m body) xs)
tail_is_chain m word body [] = refl
tail_is_chain m word body (x ∷ xs) =
    let at = body_end m body in
    let chain = chain_bytes at (x ∷ xs) in
    let some : eqb at 0 ≡ false = ne_eqb at 0 (λ (e : at ≡ 0). absurd (omega arith)) in
    let size : (at + length chain) - at ≡ length chain = omega arith in
    ap (λ (b : Bool). cond b 0 ((at + length chain) - at)) some ∙ size

abbrev no_more : List ℕ → Result (Unit {0}) WireFault
no_more rest = cond (eqb (length rest) 0) (Ok tt) (Err Parse)

abbrev some_more : ℕ → ℕ → List ℕ → Result (Unit {0}) WireFault
some_more extension total rest = cond (eqb (extension + length rest) total) (extensions_at (length rest) extension rest) (Err Parse)

-- a body and its extensions end the message
ends_again : (m : Message) (word : ℕ) (body : List ℕ) (xs : List Extension) → body_end m body + length (chain_bytes (body_end m body) xs) < 2 ^ 24 → AllByRecursion IsSkipped xs
    → ends_at (heading_for m word body xs).extension (heading_for m word body xs).length (chain_bytes (body_end m body) xs) ≡ Ok tt
unfolding ends_at
ends_again m word body [] short skipped = refl
ends_again m word body (x ∷ xs) short skipped =
    let at = body_end m body in
    let chain = chain_bytes at (x ∷ xs) in
    let some : eqb at 0 ≡ false = ne_eqb at 0 (λ (e : at ≡ 0). absurd (omega arith)) in
    let all : eqb (at + length chain) (at + length chain) ≡ true = eq-eqb (at + length chain) (at + length chain) refl in
    ap (λ (b : Bool). cond b (no_more chain) (some_more at (at + length chain) chain)) some
    ∙ ap (λ (b : Bool). cond b (extensions_at (length chain) at chain) (Err Parse)) all
    ∙ chain_again (length chain) at x xs (omega arith) short skipped

ended_again : (h : Heading) (m : Message) (rest : List ℕ) (read : Result (Message × List ℕ) WireFault) → read ≡ Ok (m, rest) → ends_at h.extension h.length rest ≡ Ok tt → reading_to_end h read ≡ Ok m
unfolding reading_to_end
ended_again h m rest read is ends = rw (is, ends) refl

pub is_read : (bytes rest : List ℕ) (m : Message) → Spells bytes m → reading (bytes ++ rest) ≡ Ok m
unfolding reading_after after
is_read bytes rest m s =
    let k = header_of m in
    let body = s.body in
    let at = body_end m body in
    let chain = chain_bytes at s.extensions in
    let h : Heading = heading_for m s.word body s.extensions in
    let x = bytes ++ rest in
    let front : x ≡ heading_bytes h ++ ((body ++ chain) ++ rest) = ap (λ (b : List ℕ). b ++ rest) s.framing ∙ append_assoc (heading_bytes h) (body ++ chain) rest in
    let part_size : length (body ++ chain) ≡ length body + length chain = length-append body chain in
    let head_size : length (heading_bytes h) ≡ 14 + length k.language = omega arith in
    let size : length bytes ≡ at + length chain = omega (arith, ap length s.framing, length-append (heading_bytes h) (body ++ chain), head_size, part_size) in
    let begins : h.extension < 2 ^ 24 = extension_fits m s.word body s.extensions (omega (arith, size, s.short)) in
    let fits : IsHeading h = record { length = omega (arith, size, s.short); flags = s.word_fits; extension = begins; xid = s.sound.header.xid; language = s.sound.header.language } in
    let head : heading_of x ≡ Some h = ap heading_of front ∙ header_again h ((body ++ chain) ++ rest) fits in
    let known = functions_are_known m in
    let room : ltb h.length (14 + length k.language) ≡ false = le-ltb h.length (14 + length k.language) (omega arith) in
    let there : ltb (length x) h.length ≡ false = le-ltb (length x) h.length (omega (arith, size, length-append bytes rest)) in
    let kept : kept_header h ≡ k = ap (λ (f : Flags). record { flags = f; xid = k.xid; language = k.language }) s.flags in
    let part : body_part h x ≡ body ++ chain = body_is_marked h (body ++ chain) rest x (omega (arith, part_size)) front in
    let read : body_at (function_of m) (tail_of h) (kept_header h) (body_part h x) ≡ Ok (m, chain) =
    ap (λ (a : Header). body_at (function_of m) (tail_of h) a (body_part h x)) kept ∙ ap (body_at (function_of m) (tail_of h) k) part
    ∙ body_again m body chain (tail_of h) (tail_is_chain m s.word body s.extensions) s.spells s.sound.body in
    let done : reading_to_end h (body_at (function_of m) (tail_of h) (kept_header h) (body_part h x)) ≡ Ok m =
    ended_again h m chain (body_at (function_of m) (tail_of h) (kept_header h) (body_part h x)) read (ends_again m s.word body s.extensions (omega (arith, size, s.short)) s.skipped) in
    reading_is x ∙ ap (λ (o : Option Heading). after o x) head ∙ rw (known, room, there) done

-- ---- what is read is spelled

-- what the tests of a header leave, where a message was read
record Passes (h : Heading) (bytes : List ℕ) (m : Message) : Type 0 where
  version : h.version ≡ 2
  room : 14 + length h.language ≤ h.length
  there : h.length ≤ length bytes
  ends : reading_to_end h (body_at h.function (tail_of h) (kept_header h) (body_part h bytes)) ≡ Ok m

abbrev sized : Heading → List ℕ → Result Message WireFault
sized h bytes = cond (ltb h.length (14 + length h.language) || ltb (length bytes) h.length) (Err Parse) (reading_to_end h (body_at h.function (tail_of h) (kept_header h) (body_part h bytes)))

passes : (h : Heading) (bytes : List ℕ) (m : Message) → reading_after h bytes ≡ Ok m → Passes h bytes m
unfolding reading_after
passes h bytes m e =
    let a = if_ok (is_known h.function) Unknown (cond (eqb h.version 2) (sized h bytes) (Err Version)) m e in
    let b = if_ok (eqb h.version 2) Version (sized h bytes) m a.1 in
    let c = unless_ok (ltb h.length (14 + length h.language) || ltb (length bytes) h.length) Parse (reading_to_end h (body_at h.function (tail_of h) (kept_header h) (body_part h bytes))) m b.1 in
    let sizes = or_parts (ltb h.length (14 + length h.language)) (ltb (length bytes) h.length) c.0 in
    record { version = eqb-true _ _ b.0; room = ltb-false _ _ sizes.0; there = ltb-false _ _ sizes.1; ends = c.1 }

-- what stands after a body that ends a message: extensions, where the header says that they begin
record Ends (h : Heading) (read : Result (Message × List ℕ) WireFault) (m : Message) : Type 0 where
  rest : List ℕ
  body : read ≡ Ok (m, rest)
  extensions : List Extension
  skipped : AllByRecursion IsSkipped extensions
  begins : h.extension ≡ begins_at (h.length - length rest) extensions
  chain : (at : ℕ) → at + length rest ≡ h.length → rest ≡ chain_bytes at extensions

unit_is : (u : Unit {0}) → u ≡ tt
unit_is tt = refl

-- what is known of bytes that end a message
record Tail (extension total : ℕ) (rest : List ℕ) : Type 0 where
  extensions : List Extension
  skipped : AllByRecursion IsSkipped extensions
  begins : extension ≡ begins_at (total - length rest) extensions
  chain : (at : ℕ) → at + length rest ≡ total → rest ≡ chain_bytes at extensions

tail_takes : (extension total : ℕ) (rest : List ℕ) → IsBytes rest → ends_at extension total rest ≡ Ok tt → Tail extension total rest
unfolding ends_at
tail_takes extension total rest fits e =
    elim (chosen (eqb extension 0) (no_more rest) (some_more extension total rest) (Ok tt) e) [
      | inl is ↦
          let g = if_ok (eqb (length rest) 0) Parse (Ok tt) (tt {0}) is.1 in
          let none : rest ≡ [] = nil_from_length rest (eqb-true _ _ g.0) in
          record {
            extensions = [];
            skipped = tt;
            begins = eqb-true _ _ is.0;
            chain = λ at _. none;
          }
      | inr is ↦
          let g = if_ok (eqb (extension + length rest) total) Parse (extensions_at (length rest) extension rest) (tt {0}) is.1 in
          let size : extension + length rest ≡ total = eqb-true _ _ g.0 in
          let c = chain_takes (length rest) extension rest fits g.1 in
          record {
            extensions = c.first ∷ c.others;
            skipped = c.skipped;
            begins = omega (arith, size);
            chain = λ at placed. let there : extension ≡ at = omega (arith, placed, size) in c.bytes_are ∙ ap (λ (k : ℕ). chain_bytes k (c.first ∷ c.others)) there;
          }
    ]

abbrev ending : Heading → Message × List ℕ → Result Message WireFault
ending h x = ends_at h.extension h.length x.1 >>= λ _. Ok x.0

ends : (h : Heading) (read : Result (Message × List ℕ) WireFault) (m : Message) → ((x : Message × List ℕ) → read ≡ Ok x → IsBytes x.1) → reading_to_end h read ≡ Ok m → Ends h read m
unfolding reading_to_end
ends h read m fits e =
    let d = bind_ok read (ending h) m e in
    let x : Message × List ℕ = d.0 in
    let f = bind_ok (ends_at h.extension h.length x.1) (λ _. Ok x.0) m d.2 in
    let same : x.0 ≡ m = ok_is x.0 m f.2 in
    let t = tail_takes h.extension h.length x.1 (fits x d.1) (f.1 ∙ ap Ok (unit_is f.0)) in
    record {
      rest = x.1;
      body = d.1 ∙ ap (λ (k : Message). result_of k x.1) same;
      extensions = t.extensions;
      skipped = t.skipped;
      begins = t.begins;
      chain = t.chain;
    }

readable_first : (b : Bool) (h : Heading) (bytes : List ℕ) (m : Message) → after (cond b (Some h) None) bytes ≡ Ok m → (b ≡ true) × (reading_after h bytes ≡ Ok m)
unfolding after
readable_first true h bytes m e = (refl, e)
readable_first false h bytes m e = absurd cc

-- the marked bytes are the header and what stands after it
marked_parts : (bytes : List ℕ) → IsBytes bytes → is_readable bytes ≡ true → 14 + length (tag_of bytes) ≤ (fields_of bytes).length → marked_bytes bytes ≡ heading_bytes (fields_of bytes) ++ body_part (fields_of bytes) bytes
marked_parts bytes fits readable room =
    let h = fields_of bytes in
    let n : ℕ = 14 + length h.language in
    let front : take n bytes ≡ heading_bytes h = ap (take n) (header_is_front bytes fits readable) ∙ take_at (heading_bytes h) (drop (big_number 2 (drop 12 bytes)) (drop 14 bytes)) n (header_length bytes readable) in
    sym (take-append-drop n (marked_bytes bytes)) ∙ ap (λ (x : List ℕ). x ++ body_part h bytes) (take-take n h.length bytes room ∙ front)

pub is_found : (bytes : List ℕ) (m : Message) → IsBytes bytes → reading bytes ≡ Ok m → Spells (marked_bytes bytes) m
unfolding made
is_found bytes m fits e =
    let r = readable_first (is_readable bytes) (fields_of bytes) bytes m (sym (reading_is bytes) ∙ e) in
    let h = fields_of bytes in
    let p = passes h bytes m r.1 in
    let sound = header_fits bytes fits r.0 in
    let part = body_part h bytes in
    let part_fits : IsBytes part = IsBytes-drop (14 + length h.language) (take h.length bytes) (IsBytes-take h.length bytes fits) in
    let takes = λ (x : Message × List ℕ). body_takes h.function (tail_of h) (kept_header h) part x part_fits in
    let d = ends h (body_at h.function (tail_of h) (kept_header h) part) m (λ x is. (takes x is).takes.rest_fits) p.ends in
    let b : Body h.function (kept_header h) part m d.rest = takes (m, d.rest) d.body in
    let parts = marked_parts bytes fits r.0 p.room in
    let length_is : length (marked_bytes bytes) ≡ h.length = omega (arith, length-take h.length bytes, p.there) in
    let head_size = header_length bytes r.0 in
    let part_size : length part ≡ length b.text + length d.rest = ap length b.takes.parts ∙ length-append b.text d.rest in
    let size : h.length ≡ 14 + length h.language + length b.text + length d.rest = omega (arith, length_is, ap length parts, length-append (heading_bytes h) part, head_size, part_size) in
    let k = header_of m in
    let xid : h.xid ≡ k.xid = ap (λ (a : Header). a.xid) (sym b.header) in
    let language : h.language ≡ k.language = ap (λ (a : Header). a.language) (sym b.header) in
    let at = body_end m b.text in
    let size_again : at + length d.rest ≡ h.length = sym (subst (λ (t : List ℕ). h.length ≡ 14 + length t + length b.text + length d.rest) language size) in
    let chain : d.rest ≡ chain_bytes at d.extensions = d.chain at size_again in
    let length_again : h.length ≡ at + length (chain_bytes at d.extensions) = omega (arith, size_again, ap length chain) in
    let begins : h.extension ≡ begins_at at d.extensions = d.begins ∙ ap (λ (k : ℕ). begins_at k d.extensions) (let f : h.length - length d.rest ≡ at = omega (arith, size_again) in f) in
    let same = same_made h.version 2 h.function (function_of m) h.length (at + length (chain_bytes at d.extensions)) h.flags h.extension (begins_at at d.extensions) h.xid k.xid h.language k.language p.version (sym b.of) length_again begins xid language in
    record {
      sound = record { header = subst (λ (a : Header). IsHeader a) (sym b.header) (record { xid = sound.xid; language = sound.language }); body = b.sound };
      word = h.flags;
      word_fits = sound.flags;
      flags = ap (λ (a : Header). a.flags) (sym b.header);
      body = b.text;
      spells = b.spells;
      extensions = d.extensions;
      skipped = d.skipped;
      framing = parts ∙ ap (λ (a : Heading). heading_bytes a ++ part) same ∙ ap (λ (t : List ℕ). heading_bytes (heading_for m h.flags b.text d.extensions) ++ t) (b.takes.parts ∙ ap (λ (t : List ℕ). b.text ++ t) chain);
      short = omega (arith, length_is, sound.length);
    }

-- ---- for what a reader answers

pub answer_is_found : {A : Type 0} (said : A → Message) (bytes : List ℕ) (r : Result A WireFault) → IsBytes bytes → Gives said r (reading bytes) → IfOk r (λ a. Spells (marked_bytes bytes) (said a))
answer_is_found said bytes (Ok a) fits e = is_found bytes (said a) fits e
answer_is_found said bytes (Err d) fits e = tt

pub marked_is_read : (bytes : List ℕ) (m : Message) → Spells (marked_bytes bytes) m → reading bytes ≡ Ok m
marked_is_read bytes m s =
    let n = big_number 3 (drop 2 bytes) in
    ap reading (sym (take-append-drop n bytes)) ∙ is_read (marked_bytes bytes) (drop n bytes) m s

pub is_read_back : (m : Message) (rest : List ℕ) → IsMessage m → length (plain_bytes m) ≤ longest → reading (plain_bytes m ++ rest) ≡ Ok m
is_read_back m rest sound short = is_read (plain_bytes m) rest m (is_spelled m sound short)

pub begins_no_other : (m n : Message) (rest : List ℕ) → IsMessage m → IsMessage n → length (plain_bytes m) ≤ longest → length (plain_bytes n) ≤ longest → plain_bytes m ++ rest ≡ plain_bytes n → (m ≡ n) × (rest ≡ [])
begins_no_other m n rest sound_m sound_n short_m short_n e =
    let alone = e ∙ sym (append-nil (plain_bytes n)) in
    let same : m ≡ n = ok_is m n (sym (is_read_back m rest sound_m short_m) ∙ ap reading alone ∙ is_read_back n [] sound_n short_n) in
    (same, append_cancel_left (plain_bytes m) rest [] (e ∙ ap plain_bytes (sym same) ∙ sym (append-nil (plain_bytes m))))
