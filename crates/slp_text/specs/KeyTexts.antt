-- The bytes of the text of a key, wherever it lies.
use Rattle.std.specs.Prelude.{ℕ, List, string_bytes}
use Rattle.slp_text.specs.declared.keys.KeyText.{KeyText}
use Rattle.slp_text.specs.declared.keys.KeyText.TheVariants.{Short, Long}

abbrev pub key_bytes : KeyText → List ℕ
key_bytes (Short text) = text.bytes
key_bytes (Long text) = string_bytes text
