-- Bodies of replies (RFC 2608, section 7): a code, and after the code 0 what was found. After another code nothing need stand: what does is a lawful rest, and means nothing.
use Rattle.std.specs.Prelude.{ℕ, List, length, ◌≡◌, ◌⊎◌, ◌==◌, [], ◌++◌, if◌then◌else◌, Result, Ok}
use Rattle.byteorder.specs.Endian.{big_bytes}
use Rattle.slp_messages.specs.Fields.{Values, AreFit}
use Rattle.slp_messages.specs.Layouts.{Layout, ReplyBody, Found, Refused}
use Rattle.slp_messages.specs.declared.kind.Kind.{Kind}
use Rattle.slp_fields.specs.Reading.{number_at, layout_at, rest_of_fields_at}
use Rattle.slp_fields.specs.Spelling.{SpellsValues, SpellsLayout, layout_bytes}
use Rattle.slp_fields.specs.Steps.{◌>>=◌}
use Rattle.slp_fields.specs.declared.fault.WireFault.{WireFault}

-- what is written
abbrev pub reply_bytes : {A : Type 0} → Layout A → ReplyBody A → List ℕ
reply_bytes layout (Found a) = big_bytes 2 0 ++ layout_bytes layout a
reply_bytes layout (Refused code) = big_bytes 2 code

-- what may stand after a code that is not 0
abbrev pub IsRest : List Kind → List ℕ → Type 0
IsRest kinds rest = (rest ≡ []) ⊎ ((values : Values kinds) × AreFit kinds values × SpellsValues kinds rest values)

-- what spells it
abbrev pub SpellsReply : {A : Type 0} → Layout A → List ℕ → ReplyBody A → Type 0
SpellsReply layout body (Found a) = (rest : List ℕ) × (body ≡ big_bytes 2 0 ++ rest) × SpellsLayout layout rest a
SpellsReply layout body (Refused code) = (rest : List ℕ) × (body ≡ big_bytes 2 code ++ rest) × IsRest layout.kinds rest

-- what stands after a nonzero code, up to the end of the body, which so many bytes follow: it is read for its faults alone
unfoldable pub rest_at : List Kind → ℕ → List ℕ → Result (List ℕ) WireFault
rest_at kinds tail bytes = if length bytes == tail then Ok bytes else rest_of_fields_at kinds bytes

-- a reply as it is read, of which so many bytes at the end are not part
abbrev pub reply_at : {A B : Type 0} → Layout A → (A → B) → (ℕ → B) → ℕ → List ℕ → Result (B × List ℕ) WireFault
reply_at layout found refused tail bytes = do
  code ← number_at bytes
  if code.0 == 0 then (layout_at layout code.1 >>= λ a. Ok (found a.0, a.1))
      else (rest_at layout.kinds tail code.1 >>= λ rest. Ok (refused code.0, rest))
