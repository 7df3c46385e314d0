-- Printable characters of ASCII are UTF-8.
use Rattle.std.proofs.Common.{◌≡◌, ℕ, ◌<◌, true, List, [], ◌∷◌, arith}
use Rattle.std.specs.List.{list_all}
use Rattle.std.specs.Str.{IsUtf8, IsAscii}
use Rattle.std.proofs.lemmas.Bool.{and_parts}
use Rattle.std.proofs.lemmas.Bool.Decides.{nat_tests}
use Rattle.std.proofs.lemmas.Str.{IsUtf8-from_ascii}
use Rattle.std.proofs.lemmas.Str.Ascii.{IsAscii-nil, IsAscii-cons}
use Rattle.slp_messages.specs.Tags.{is_tag_byte}

is_tag_byte_ascii : (b : ℕ) → is_tag_byte b ≡ true → b < 128
is_tag_byte_ascii b h = grind (arith, nat_tests)

is_ascii_tag : (tag : List ℕ) → list_all is_tag_byte tag ≡ true → IsAscii tag
is_ascii_tag [] h = IsAscii-nil
is_ascii_tag (b ∷ bs) h =
    let both = and_parts (is_tag_byte b) (list_all is_tag_byte bs) h in
    IsAscii-cons b bs (is_tag_byte_ascii b both.0) (is_ascii_tag bs both.1)

pub is_utf8_tag : (tag : List ℕ) → list_all is_tag_byte tag ≡ true → IsUtf8 tag
is_utf8_tag tag h = IsUtf8-from_ascii tag (is_ascii_tag tag h)
