-- The fields of a body, by their kinds, and what each can hold (RFC 2608, sections 4, 8 and 9).
use Rattle.std.specs.List.{AllByRecursion}
use Rattle.std.specs.Prelude.{ℕ, ◌^◌, ◌<◌, List, length, IsUtf8, [], ◌∷◌}
use Rattle.slp_messages.specs.declared.kind.Kind.TheVariants.{Number, Long, Text, Entry, Entries, Authority, NoBlock, NoIndex}
use Rattle.slp_messages.specs.declared.kind.Kind.{Kind}
use Rattle.slp_messages.specs.declared.message.Authority.TheVariants.{All, Named}
use Rattle.slp_messages.specs.declared.message.Authority as code
use Rattle.slp_messages.specs.declared.message.UrlEntry.{UrlEntry}

-- ---- what fields hold

-- what a field of a kind holds
abbrev pub Value : Kind → Type 0
Value Number = ℕ
Value Long = ℕ
Value Text = List ℕ
Value Entry = UrlEntry
Value Entries = List UrlEntry
Value Authority = code.Authority
Value NoBlock = Unit {0}
Value NoIndex = Unit {0}

-- what fields of these kinds hold, one after the other
abbrev pub Values : List Kind → Type 0
Values [] = Unit {0}
Values (k ∷ ks) = Value k × Values ks

-- ---- what has a place on the wire

-- a text whose length fits two bytes
pub record IsString (text : List ℕ) : Type 0 where
  pub utf8 : IsUtf8 text
  pub short : length text < 2 ^ 16

-- a URL entry has values that fit
pub record IsEntry (e : UrlEntry) : Type 0 where
  pub lifetime : e.lifetime < 2 ^ 16
  pub url : IsString e.url

-- URL entries have values that fit, and their number does
pub record AreEntries (es : List UrlEntry) : Type 0 where
  pub each : AllByRecursion IsEntry es
  pub few : length es < 2 ^ 16

-- the greatest length stands for all authorities, so no name has it
pub record IsAuthorityName (text : List ℕ) : Type 0 where
  pub utf8 : IsUtf8 text
  pub short : length text < 65535

-- a naming authority, where one is named, fits
abbrev pub IsAuthority : code.Authority → Type 0
IsAuthority All = Unit {0}
IsAuthority (Named text) = IsAuthorityName text

-- what a field of a kind can hold
abbrev pub IsFit : (k : Kind) → Value k → Type 0
IsFit Number n = n < 2 ^ 16
IsFit Long n = n < 2 ^ 32
IsFit Text text = IsString text
IsFit Entry e = IsEntry e
IsFit Entries es = AreEntries es
IsFit Authority a = IsAuthority a
IsFit NoBlock none = Unit {0}
IsFit NoIndex none = Unit {0}

-- values of these kinds fit, each of them
abbrev pub AreFit : (ks : List Kind) → Values ks → Type 0
AreFit [] none = Unit {0}
AreFit (k ∷ ks) values = IsFit k values.0 × AreFit ks values.1

-- a code that is not 0
pub record IsRefusal (code : ℕ) : Type 0 where
  pub nonzero : 0 < code
  pub short : code < 2 ^ 16
