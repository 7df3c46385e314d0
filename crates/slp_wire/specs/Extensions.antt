-- Extensions after a body (RFC 2608, section 9.1).
use Rattle.std.specs.Prelude.{ℕ, ◌^◌, ◌<◌, List, length, ◌+◌, Bool, not, ◌==◌, ◌&&◌, nat_le, [], ◌∷◌, ◌++◌, IsTrue, if◌then◌else◌, zero, suc, ◌-◌, ◌||◌, nat_lt, drop, Option, Some, None, Result, Ok, Err}
use Rattle.byteorder.specs.Endian.{big_bytes, big_number}
use Rattle.slp_fields.specs.Steps.{◌>>=◌}
use Rattle.slp_fields.specs.declared.fault.WireFault.TheVariants as fault
use Rattle.slp_fields.specs.declared.fault.WireFault.TheVariants.{Parse}
use Rattle.slp_fields.specs.declared.fault.WireFault.{WireFault}

pub record Extension : Type 0 where
  pub id : ℕ
  pub content : List ℕ

-- one that has to be understood, and none is
abbrev pub is_required : ℕ → Bool
is_required id = nat_le 0x4000 id && nat_le id 0x7fff

-- one that is skipped
pub record IsSkipped (x : Extension) : Type 0 where
  pub id : x.id < 2 ^ 16
  pub optional : IsTrue (not (is_required x.id))

-- where an extension ends that begins at this offset
abbrev pub end_of : ℕ → Extension → ℕ
end_of at x = at + 5 + length x.content

-- the bytes of extensions from this offset of the message on: each says at which offset the next begins, and the last says 0
abbrev pub chain_bytes : ℕ → List Extension → List ℕ
chain_bytes at [] = []
chain_bytes at (x ∷ []) = big_bytes 2 x.id ++ big_bytes 3 0 ++ x.content
chain_bytes at (x ∷ y ∷ more) = big_bytes 2 x.id ++ big_bytes 3 (end_of at x) ++ x.content ++ chain_bytes (end_of at x) (y ∷ more)

-- what a header says of where extensions begin that stand from this offset on: 0 where there is none
abbrev pub begins_at : ℕ → List Extension → ℕ
begins_at at [] = 0
begins_at at (x ∷ xs) = at

-- The offset of the next extension, if one follows that which begins at this offset: the id is looked at first. Both have at
-- least five bytes.
abbrev pub next_at : ℕ → List ℕ → Result (Option ℕ) WireFault
next_at at bytes =
    if nat_lt (length bytes) 5 then Err Parse
    else (if is_required (big_number 2 bytes) then Err fault.Option
    else (if big_number 3 (drop 2 bytes) == 0 then Ok None
    else (if nat_lt (big_number 3 (drop 2 bytes)) (at + 5)
    || nat_lt (at + length bytes) (big_number 3 (drop 2 bytes) + 5) then Err Parse
    else Ok (Some (big_number 3 (drop 2 bytes))))))

-- extensions, at most `most` of them, from this offset of the message to its end
unfoldable pub extensions_at : ℕ → ℕ → List ℕ → Result (Unit {0}) WireFault
extensions_at zero at bytes = Err Parse
extensions_at (suc most) at bytes = do
  next ← next_at at bytes
  elim next [ None ↦ Ok tt | Some n ↦ extensions_at most n (drop (n - at) bytes) ]
