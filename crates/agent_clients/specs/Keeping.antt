-- What a service agent keeps registered, and what it sends for it (RFC 2608, section 8.3 and 10.6).
use Rattle.std.specs.Prelude.{◌≡◌, ℕ, ◌+◌, ◌/◌, ◌==◌, ◌&&◌, Bool, false, nat_le, bit_or, List, [], ◌∷◌, ◌++◌, length, take, drop, position, remove, slice_get, slice_set, Option, None, MatchOption, Ok, if◌then◌else◌}
use Rattle.std.specs.Option.{option_map, option_map_or}
use Rattle.byteorder.specs.Endian.{big_bytes, big_number}
use Rattle.slp_text.specs.Keys.{key_of}
use Rattle.slp_text.specs.Words.{bytes_eq}
use Rattle.slp_headers.specs.declared.flag.TheConstants.{FRESH}
use Rattle.slp_headers.specs.declared.offset.TheConstants.{FLAGS, XID}
use Rattle.slp_messages.specs.declared.header.Header.{Header}
use Rattle.slp_messages.specs.declared.message.Message.{Message}
use Rattle.slp_messages.specs.declared.message.Message.TheVariants as message
use Rattle.slp_messages.specs.declared.message.Registration.{Registration}
use Rattle.slp_messages.specs.declared.views.KeptHeader.{KeptHeader}
use Rattle.slp_messages.specs.declared.views.RegistrationView.{RegistrationView}
use Rattle.slp_wire.specs.Reading.{reading, marked_bytes}
use Rattle.slp_wire.specs.Spelling.{plain_bytes}
use Rattle.agent_clients.specs.declared.leases.Parts.{Parts}

-- A registration that is kept: its bytes, the URL and the language by whose key it is known, its scope list and its lifetime, and the moment at which it is due.
pub record Kept : Type 0 where
  pub bytes : List ℕ
  pub url : List ℕ
  pub language : List ℕ
  pub scopes : List ℕ
  pub lifetime : ℕ
  pub due : ℕ

-- the registrations that are kept, and the last number that was given to a message, 0 where none was
pub record Keeping : Type 0 where
  pub kept : List Kept
  pub xid : ℕ

-- ---- which registration

-- a URL and the key of a language name it
abbrev pub is_named : List ℕ → List ℕ → Kept → Bool
is_named url key k = bytes_eq k.url url && bytes_eq (key_of k.language) key

-- the place of the first that is named so
abbrev pub place_of : List ℕ → List ℕ → List Kept → Option ℕ
place_of url key ks = position (is_named url key) ks

-- ---- keeping

-- a registration stands in front of these bytes
abbrev pub IsRegistration : List ℕ → Type 0
IsRegistration bytes = (h : Header) × (r : Registration) × (reading bytes ≡ Ok (message.Registration h r))

-- it is due at once; of bytes that stand after it nothing is kept
abbrev pub kept_of : Header → Registration → List ℕ → Kept
kept_of h r bytes = record { bytes = marked_bytes bytes; url = r.entry.url; language = h.language; scopes = r.scopes; lifetime = r.entry.lifetime; due = 0 }

-- it takes the place of the one that is named like it, or stands after all others
abbrev pub with_kept : Kept → List Kept → List Kept
with_kept k ks = option_map_or (λ n. slice_set ks n k) (place_of k.url (key_of k.language) ks) (ks ++ k ∷ [])

-- what is read of a registration: the parts by which it is kept, and how many of its bytes are its message
pub record IsRead (h : Header) (r : Registration) (bytes : List ℕ) (parts : Parts) : Type 0 where
  pub url : parts.url ≡ r.entry.url
  pub language : parts.language ≡ h.language
  pub scopes : parts.scopes ≡ r.scopes
  pub lifetime : parts.lifetime ≡ r.entry.lifetime
  pub marked : take parts.length bytes ≡ marked_bytes bytes

-- the parts of what was read as one, whose message has so many bytes
abbrev pub parts_in : KeptHeader → RegistrationView → ℕ → Parts
parts_in h r marked = record { url = r.entry.url.now; language = h.language.now; key = key_of h.language.now; scopes = r.scopes.now; lifetime = r.entry.lifetime; length = marked }

-- ---- what is sent

-- the numbers of messages, one after the other: 0 is none
abbrev pub next_xid : ℕ → ℕ
next_xid xid = if xid == 65535 then 1 else xid + 1

-- bytes with a part put in the place of as many others
abbrev pub put_at : ℕ → List ℕ → List ℕ → List ℕ
put_at place part bytes = take place bytes ++ part ++ drop (place + length part) bytes

-- a registration with FRESH among its flags, and this number
abbrev pub refreshed : ℕ → List ℕ → List ℕ
refreshed xid bytes = put_at XID (big_bytes 2 xid) (put_at FLAGS (big_bytes 2 (bit_or (big_number 2 (drop FLAGS bytes)) FRESH)) bytes)

abbrev pub is_due : ℕ → Kept → Bool
is_due now k = nat_le k.due now

-- the messages of those that are due, and the number that was given last
abbrev pub sent : ℕ → ℕ → List Kept → List (List ℕ)
sent now xid [] = []
sent now xid (k ∷ ks) = if is_due now k then refreshed (next_xid xid) k.bytes ∷ sent now (next_xid xid) ks else sent now xid ks

abbrev pub xid_after : ℕ → ℕ → List Kept → ℕ
xid_after now xid [] = xid
xid_after now xid (k ∷ ks) = if is_due now k then xid_after now (next_xid xid) ks else xid_after now xid ks

-- one that was due is due again after half its lifetime
abbrev pub renewed : ℕ → Kept → Kept
renewed now k = if is_due now k then record k { due = now + k.lifetime / 2 } else k

-- ---- forgetting

-- the withdrawal of a registration, with all its attributes
abbrev pub withdrawal_of : ℕ → Kept → Message
withdrawal_of xid k = message.Withdrawal (record { flags = record { overflow = false; fresh = false; multicast = false }; xid = xid; language = k.language }) (record { scopes = k.scopes; entry = record { lifetime = 0; url = k.url }; tags = [] })

-- What is told of one that is to be forgotten, and what is kept then: it is withdrawn, or there is none.
abbrev pub Forgets : Keeping → List ℕ → List ℕ → Option (List ℕ) → Keeping → Type 0
Forgets a url language told b = MatchOption (place_of url (key_of language) a.kept)
    ((told ≡ None) × (b ≡ a))
    (λ n. (told ≡ option_map (λ k. plain_bytes (withdrawal_of (next_xid a.xid) k)) (slice_get a.kept n)) × (b ≡ record { kept = remove a.kept n; xid = next_xid a.xid }))
