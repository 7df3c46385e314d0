-- Keys of small texts, by computation.
use Rattle.std.proofs.Common.{◌≡◌, [], ◌∷◌, ◌++◌, refl}
use Rattle.std.specs.Prelude.{codes}
use Rattle.std.specs.Str.{chars}
use Rattle.caseless.proofs.Computing.{caseless}
use Rattle.slp_text.specs.Keys.{key_of}

-- white space at the ends, and a run of it inside
default_key : key_of (codes "  DEFAULT " ++ 9 ∷ codes " x ") ≡ codes "default x"
unfolding key_of caseless chars lib.Utf8.encode
default_key = refl

-- `LUČIĆ`
folded_key : key_of (0x4C ∷ 0x55 ∷ 0xC4 ∷ 0x8C ∷ 0x49 ∷ 0xC4 ∷ 0x86 ∷ codes "")
    ≡ 0x6C ∷ 0x75 ∷ 0xC4 ∷ 0x8D ∷ 0x69 ∷ 0xC4 ∷ 0x87 ∷ codes ""
unfolding key_of caseless chars lib.Utf8.encode
folded_key = refl
