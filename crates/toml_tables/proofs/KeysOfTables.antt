-- The keys of a table.
use Rattle.std.proofs.Common.{◌≡◌, ℕ, Bool, ◌&&◌, List, [], ◌∷◌, map, String, string_bytes, refl, ap}
use Rattle.std.specs.declared.alloc.Global.{Global}
use Rattle.std.specs.List.{list_all}
use Rattle.toml.specs.View.{members_view}
use Rattle.toml.specs.declared.value.Value.{Value}
use Rattle.toml_tables.specs.Tables.{keys_of}

-- a test of the keys of a table is one of the keys of its map
pub test_keys : (p : List ℕ → Bool) (es : List (String Global × Value)) → list_all p (keys_of (members_view es)) ≡ list_all (λ k. p (string_bytes k)) (map (λ e. e.0) es)
test_keys p [] = refl
test_keys p (e ∷ es) = ap (λ b. p (string_bytes e.0) && b) (test_keys p es)
