-- The bytes of fields (RFC 2608, sections 4.3, 8 and 9): which spell them, and which are written.
use Rattle.std.specs.List.{flat_map}
use Rattle.std.specs.Prelude.{ℕ, ◌^◌, ◌<◌, List, length, ◌≡◌, [], ◌∷◌, ◌++◌}
use Rattle.byteorder.specs.Endian.{big_bytes}
use Rattle.slp_headers.specs.Headers.{string}
use Rattle.slp_messages.specs.Fields.{Value, Values}
use Rattle.slp_messages.specs.Layouts.{Layout}
use Rattle.slp_messages.specs.declared.kind.Kind.TheVariants.{Number, Long, Text, Entry, Entries, Authority, NoBlock, NoIndex}
use Rattle.slp_messages.specs.declared.kind.Kind.{Kind}
use Rattle.slp_messages.specs.declared.message.Authority.TheVariants.{All, Named}
use Rattle.slp_messages.specs.declared.message.Authority as code
use Rattle.slp_messages.specs.declared.message.UrlEntry.{UrlEntry}

-- ---- what is written: 0 in the reserved byte of a URL entry

-- a URL entry, whose reserved byte is this
abbrev pub entry_bytes : ℕ → UrlEntry → List ℕ
entry_bytes reserved e = reserved ∷ big_bytes 2 e.lifetime ++ string e.url ++ 0 ∷ []

-- a count, and that many entries
abbrev pub listing : List UrlEntry → List ℕ
listing es = big_bytes 2 (length es) ++ flat_map (entry_bytes 0) es

-- a naming authority; all are the length 65535
abbrev pub authority_bytes : code.Authority → List ℕ
authority_bytes All = big_bytes 2 65535
authority_bytes (Named text) = string text

-- the bytes of a field
abbrev pub value_bytes : (k : Kind) → Value k → List ℕ
value_bytes Number n = big_bytes 2 n
value_bytes Long n = big_bytes 4 n
value_bytes Text text = string text
value_bytes Entry e = entry_bytes 0 e
value_bytes Entries es = listing es
value_bytes Authority a = authority_bytes a
value_bytes NoBlock none = 0 ∷ []
value_bytes NoIndex none = string []

-- the bytes of fields, one after the other
abbrev pub values_bytes : (ks : List Kind) → Values ks → List ℕ
values_bytes [] none = []
values_bytes (k ∷ ks) values = value_bytes k values.0 ++ values_bytes ks values.1

-- the bytes of what a layout lays out
abbrev pub layout_bytes : {A : Type 0} → Layout A → A → List ℕ
layout_bytes layout a = values_bytes layout.kinds (layout.held a)

-- ---- what spells it: the reserved bytes of URL entries may be any

abbrev pub SpellsEntry : List ℕ → UrlEntry → Type 0
SpellsEntry bytes e = (reserved : ℕ) × (reserved < 2 ^ 8) × (bytes ≡ entry_bytes reserved e)

-- these entries, one after the other
abbrev pub SpellsEntries : List ℕ → List UrlEntry → Type 0
SpellsEntries bytes [] = bytes ≡ []
SpellsEntries bytes (e ∷ es) = (front rest : List ℕ) × (bytes ≡ front ++ rest) × SpellsEntry front e × SpellsEntries rest es

-- a count, and that many entries
abbrev pub SpellsListing : List ℕ → List UrlEntry → Type 0
SpellsListing bytes es = (entries : List ℕ) × (bytes ≡ big_bytes 2 (length es) ++ entries) × SpellsEntries entries es

abbrev pub SpellsValue : (k : Kind) → List ℕ → Value k → Type 0
SpellsValue Number bytes n = bytes ≡ big_bytes 2 n
SpellsValue Long bytes n = bytes ≡ big_bytes 4 n
SpellsValue Text bytes text = bytes ≡ string text
SpellsValue Entry bytes e = SpellsEntry bytes e
SpellsValue Entries bytes es = SpellsListing bytes es
SpellsValue Authority bytes a = bytes ≡ authority_bytes a
SpellsValue NoBlock bytes none = bytes ≡ 0 ∷ []
SpellsValue NoIndex bytes none = bytes ≡ string []

abbrev pub SpellsValues : (ks : List Kind) → List ℕ → Values ks → Type 0
SpellsValues [] bytes none = bytes ≡ []
SpellsValues (k ∷ ks) bytes values = (front rest : List ℕ) × (bytes ≡ front ++ rest) × SpellsValue k front values.0 × SpellsValues ks rest values.1

abbrev pub SpellsLayout : {A : Type 0} → Layout A → List ℕ → A → Type 0
SpellsLayout layout bytes a = SpellsValues layout.kinds bytes (layout.held a)
