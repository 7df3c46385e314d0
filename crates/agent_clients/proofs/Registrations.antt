-- What is known of bytes that are read as a registration.
use Rattle.std.proofs.Common.{◌≡◌, ℕ, ◌+◌, ◌≤◌, Bool, true, false, cond, List, [], ◌∷◌, ◌++◌, length, take, drop, Option, Some, None, Result, Ok, sym, ap, ◌∙◌, arith}
use Rattle.std.proofs.lemmas.List.{length-append, length-take}
use Rattle.byteorder.specs.Endian.{big_number}
use Rattle.slp_headers.specs.Headers.{Heading, heading_of, heading_bytes, is_readable, fields_of, string}
use Rattle.slp_fields.specs.Spelling.{SpellsLayout, entry_bytes}
use Rattle.slp_messages.specs.Layouts.{registration}
use Rattle.slp_messages.specs.Tags.{IsTag}
use Rattle.slp_messages.specs.Views.{header_in, registration_in}
use Rattle.slp_messages.specs.declared.header.Header.{Header}
use Rattle.slp_messages.specs.declared.message.Message.{Message}
use Rattle.slp_messages.specs.declared.message.Message.TheVariants as message
use Rattle.slp_messages.specs.declared.message.Registration.{Registration}
use Rattle.slp_messages.specs.declared.message.UrlEntry.{UrlEntry}
use Rattle.slp_messages.specs.declared.views.KeptHeader.{KeptHeader}
use Rattle.slp_messages.specs.declared.views.RegistrationView.{RegistrationView}
use Rattle.slp_fields.specs.declared.fault.WireFault.{WireFault}
use Rattle.slp_wire.specs.Reading.{reading, marked_bytes}
use Rattle.slp_wire.specs.Spelling.{Spells}
use Rattle.slp_wire.proofs.Functions.{message_function}
use Rattle.slp_wire.proofs.Messages.{is_found}
use Rattle.slp_wire.proofs.Steps.{IsBytes}
use Rattle.agent_clients.specs.Keeping.{IsRead, parts_in}

-- ---- the header

-- where no header is readable, no message is read
pub no_header : (bytes : List ℕ) (m : Message) → heading_of bytes ≡ None → reading bytes ≡ Ok m → ⊥
unfolding reading
no_header bytes m none e = let k = rw (none, reading) at e in cc

abbrev found_if : Bool → Heading → Option Heading
found_if b h = cond b (Some h) None

fields_are : (b : Bool) (f h : Heading) → found_if b f ≡ Some h → f ≡ h
fields_are true f h e = cc
fields_are false f h e = absurd cc

-- the header says how many bytes are marked
pub marks : (bytes : List ℕ) (h : Heading) → heading_of bytes ≡ Some h → take h.length bytes ≡ marked_bytes bytes
marks bytes h e = ap (λ (k : Heading). take k.length bytes) (sym (fields_are (is_readable bytes) (fields_of bytes) h e))

pub is_function : (bytes : List ℕ) (h : Heading) (k : Header) (r : Registration) → heading_of bytes ≡ Some h → reading bytes ≡ Ok (message.Registration k r) → h.function ≡ 3
is_function bytes h k r head e = sym (message_function bytes h (message.Registration k r) head e)

-- ---- the message

pub is_tag : (bytes : List ℕ) (m : Message) (h : Header) (r : Registration) → IsBytes bytes → reading bytes ≡ Ok m → m ≡ message.Registration h r → IsTag h.language
is_tag bytes m h r fits e is =
    let s : Spells (marked_bytes bytes) (message.Registration h r) = is_found bytes (message.Registration h r) fits (e ∙ ap Ok is) in
    s.sound.header.language

same_registration : (read : Result Message WireFault) (m : Message) (h k : Header) (r g : Registration) → read ≡ Ok m → m ≡ message.Registration k g → read ≡ Ok (message.Registration h r) → (k ≡ h) × (g ≡ r)
same_registration read m h k r g a is b = (cc, cc)

-- the parts that are copied are those that are read
pub parts_are : (bytes : List ℕ) (m : Message) (k : KeptHeader) (g : RegistrationView) (marked : ℕ) (h : Header) (r : Registration) → reading bytes ≡ Ok m → m ≡ message.Registration (header_in k) (registration_in g) → reading bytes ≡ Ok (message.Registration h r)
    → take marked bytes ≡ marked_bytes bytes → IsRead h r bytes (parts_in k g marked)
parts_are bytes m k g marked h r a is b marks =
    let same = same_registration (reading bytes) m h (header_in k) r (registration_in g) a is b in
    record {
      url = ap (λ (x : Registration). x.entry.url) same.1;
      language = ap (λ (x : Header). x.language) same.0;
      scopes = ap (λ (x : Registration). x.scopes) same.1;
      lifetime = ap (λ (x : Registration). x.entry.lifetime) same.1;
      marked = marks;
    }

-- ---- sizes

entry_size : (reserved : ℕ) (e : UrlEntry) → length (entry_bytes reserved e) ≡ length e.url + 6
entry_size reserved e = omega (arith, length-append e.url (0 ∷ []))

string_size : (text : List ℕ) → length (string text) ≡ length text + 2
string_size text = omega arith

-- a registration has its URL, its scopes and ten bytes more
body_size : (body : List ℕ) (r : Registration) → SpellsLayout registration body r → length r.entry.url + length r.scopes + 10 ≤ length body
body_size body r s =
    let entry : length s.0 ≡ length r.entry.url + 6 = ap length s.3.2 ∙ entry_size s.3.0 r.entry in
    let kind = s.4 in
    let kind_is : length kind.0 ≡ length r.kind + 2 = ap length kind.3 ∙ string_size r.kind in
    let scopes = kind.4 in
    let scopes_are : length scopes.0 ≡ length r.scopes + 2 = ap length scopes.3 ∙ string_size r.scopes in
    let one : length body ≡ length s.0 + length s.1 = ap length s.2 ∙ length-append s.0 s.1 in
    let two : length s.1 ≡ length kind.0 + length kind.1 = ap length kind.2 ∙ length-append kind.0 kind.1 in
    let three : length kind.1 ≡ length scopes.0 + length scopes.1 = ap length scopes.2 ∙ length-append scopes.0 scopes.1 in
    omega (arith, entry, kind_is, scopes_are, one, two, three)

header_size : (h : Heading) → length (heading_bytes h) ≡ 14 + length h.language
header_size h = omega arith

framed_size : (bytes : List ℕ) (h : Heading) (body chain : List ℕ) → bytes ≡ heading_bytes h ++ (body ++ chain) → 14 + length h.language + length body ≤ length bytes
framed_size bytes h body chain is =
    let whole : length bytes ≡ length (heading_bytes h) + length (body ++ chain) = ap length is ∙ length-append (heading_bytes h) (body ++ chain) in
    omega (arith, whole, header_size h, length-append body chain)

pub has_header : (bytes : List ℕ) (h : Header) (r : Registration) → IsBytes bytes → reading bytes ≡ Ok (message.Registration h r) → 14 ≤ length (marked_bytes bytes)
has_header bytes h r fits e =
    let s : Spells (marked_bytes bytes) (message.Registration h r) = is_found bytes (message.Registration h r) fits e in
    omega (arith, framed_size (marked_bytes bytes) _ s.body _ s.framing)

-- its withdrawal is no longer than it
pub withdrawal_fits : (bytes : List ℕ) (m : Message) (h : Header) (r : Registration) → IsBytes bytes → reading bytes ≡ Ok m → m ≡ message.Registration h r → length h.language + (length r.scopes + length r.entry.url) + 24 ≤ length bytes
withdrawal_fits bytes m h r fits e is =
    let s : Spells (marked_bytes bytes) (message.Registration h r) = is_found bytes (message.Registration h r) fits (e ∙ ap Ok is) in
    let framed : 14 + length h.language + length s.body ≤ length (marked_bytes bytes) = framed_size (marked_bytes bytes) _ s.body _ s.framing in
    let size = body_size s.body r s.spells in
    omega (arith, framed, size, length-take (big_number 3 (drop 2 bytes)) bytes)
