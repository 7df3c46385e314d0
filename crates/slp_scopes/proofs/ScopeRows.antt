-- Lists of small scopes, by computation.
use Rattle.std.proofs.Common.{◌≡◌, [], ◌∷◌, Ok, length, refl}
use Rattle.std.specs.Prelude.{codes}
use Rattle.std.specs.Str.{chars}
use Rattle.caseless.proofs.Computing.{caseless}
use Rattle.slp_text.specs.Keys.{key_of}
use Rattle.slp_scopes.specs.Scopes.{printed_scopes, scopes_of}

-- `DEFAULT` alone is one scope
pub default_scopes : scopes_of (codes "DEFAULT") ≡ Ok (key_of (codes "DEFAULT") ∷ [])
unfolding scopes_of key_of caseless chars lib.Utf8.encode
default_scopes = refl

-- it has the bytes of `default` where it is written
pub default_length : length (printed_scopes (key_of (codes "DEFAULT") ∷ [])) ≡ 7
unfolding key_of caseless chars lib.Utf8.encode
default_length = refl
