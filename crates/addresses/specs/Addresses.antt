-- Decimal numbers, and addresses of IPv4 as they are written.
use Rattle.std.specs.Prelude.{ℕ, ◌+◌, ◌-◌, ◌*◌, ◌/◌, ◌%◌, ◌^◌, ◌++◌, nat_lt, nat_le, Bool, ◌==◌, ◌&&◌, if◌then◌else◌, List, [], ◌∷◌, map, Option, Some, None}
use Rattle.std.specs.Fmt.{decimal}
use Rattle.std.specs.Option.{option_and_then, option_map}
use Rattle.std.specs.List.{slice_split}
use Rattle.slp_text.specs.Ascii.{colon, digit_zero, dot, is_digit}
use Rattle.addresses.specs.declared.prefix.Prefix.{Prefix}

-- digits after the value v, below 2^32
abbrev pub number_from : ℕ → List ℕ → Option ℕ
number_from v [] = Some v
number_from v (x ∷ xs) =
    if is_digit x && nat_lt (v * 10 + (x - digit_zero)) (2 ^ 32) then number_from (v * 10 + (x - digit_zero)) xs else None

-- decimal digits, at least one; leading zeros are allowed
abbrev pub number_of : List ℕ → Option ℕ
number_of [] = None
number_of (x ∷ xs) = number_from 0 (x ∷ xs)

abbrev pub within_octet : ℕ → Option ℕ
within_octet n = if nat_le n 255 then Some n else None

-- a number of at most 255
abbrev pub octet_of : List ℕ → Option ℕ
octet_of digits = option_and_then within_octet (number_of digits)

-- the address of four octets, the first of them the highest
abbrev pub address_in : List (Option ℕ) → Option ℕ
address_in (Some a ∷ Some b ∷ Some c ∷ Some d ∷ []) = Some (((a * 256 + b) * 256 + c) * 256 + d)
address_in _ = None

abbrev pub is_dot : ℕ → Bool
is_dot b = b == dot

-- four octets with a dot between each two
abbrev pub address_of : List ℕ → Option ℕ
address_of text = address_in (map octet_of (slice_split is_dot text))

-- a port: 1 to 65535
abbrev pub within_port : ℕ → Option ℕ
within_port n = if nat_le 1 n && nat_le n 65535 then Some n else None

abbrev pub is_colon : ℕ → Bool
is_colon b = b == colon

abbrev pub both_of : {A B : Type 0} → Option A → Option B → Option (A × B)
both_of (Some a) (Some b) = Some (a, b)
both_of (Some a) None = None
both_of None o = None

-- an address, and what is read of the part after it
abbrev pub address_and : (List ℕ → Option ℕ) → List (List ℕ) → Option (ℕ × ℕ)
address_and second (a ∷ p ∷ []) = both_of (address_of a) (second p)
address_and second _ = None

abbrev pub port_of : List ℕ → Option ℕ
port_of digits = option_and_then within_port (number_of digits)

-- an address and a port, with a colon between them
abbrev pub socket_of : List ℕ → Option (ℕ × ℕ)
socket_of text = address_and port_of (slice_split is_colon text)

-- `b'/'`
abbrev pub slash : ℕ
slash = 47

abbrev pub is_slash : ℕ → Bool
is_slash b = b == slash

abbrev pub within_bits : ℕ → Option ℕ
within_bits n = if nat_le n 32 then Some n else None

-- how many bits of an address count: at most 32
abbrev pub bits_of : List ℕ → Option ℕ
bits_of digits = option_and_then within_bits (number_of digits)

abbrev pub prefix_with : ℕ × ℕ → Prefix
prefix_with p = record { addr = p.0; bits = p.1 }

-- an address and how many of its bits count, with a slash between them
abbrev pub prefix_of : List ℕ → Option Prefix
prefix_of text = option_map prefix_with (address_and bits_of (slice_split is_slash text))

-- ---- as it is printed

-- four decimal numbers with a dot between each two
abbrev pub address_text : ℕ → List ℕ
address_text a =
    decimal (a / 16777216) ++ dot ∷ decimal (a / 65536 % 256) ++ dot ∷ decimal (a / 256 % 256) ++ dot ∷ decimal (a % 256)

-- the first bits of a prefix are those of the address; bits after them are ignored
abbrev pub has_address : Prefix → ℕ → Bool
has_address p addr = nat_le p.bits 32 && (p.addr / 2 ^ (32 - p.bits) == addr / 2 ^ (32 - p.bits))
