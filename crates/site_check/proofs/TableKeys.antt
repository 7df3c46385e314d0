-- What is written of the keys of a table, key by key.
use Rattle.std.proofs.Common.{◌≡◌, ◌++◌, [], ◌∷◌, ℕ, List, String, string_bytes, map, Bor, refl, sym, ap, ◌∙◌}
use Rattle.std.specs.Prelude.{flat_map}
use Rattle.std.specs.BTreeMap.{BTreeMap, keys}
use Rattle.std.specs.declared.alloc.Global.{Global}
use Rattle.std.proofs.lemmas.List.{flat_map_more}
use Rattle.toml.specs.View.{members_view, table_view}
use Rattle.toml.specs.declared.value.Value.{Value}
use Rattle.toml_tables.specs.Tables.{keys_of}

-- the texts of keys that were met
abbrev pub texts : List (Bor (String Global)) → List (List ℕ)
texts [] = []
texts (k ∷ ks) = string_bytes k.now ∷ texts ks

texts-more : (ks : List (Bor (String Global))) (k : Bor (String Global)) → texts (ks ++ k ∷ []) ≡ texts ks ++ string_bytes k.now ∷ []
texts-more [] k = refl
texts-more (l ∷ ks) k = ap (λ ts. string_bytes l.now ∷ ts) (texts-more ks k)

-- what is written of one key more
pub written_more : (line : List ℕ → List ℕ) (ks : List (Bor (String Global))) (k : Bor (String Global)) → flat_map line (texts ks) ++ line (string_bytes k.now) ≡ flat_map line (texts (ks ++ k ∷ []))
written_more line ks k = flat_map_more line [] (texts ks) (string_bytes k.now) ∙ ap (flat_map line) (sym (texts-more ks k))

of_keys : (ks : List (Bor (String Global))) → texts ks ≡ map string_bytes (map (λ k. k.now) ks)
of_keys [] = refl
of_keys (k ∷ ks) = ap (λ ts. string_bytes k.now ∷ ts) (of_keys ks)

of_members : (es : List (String Global × Value)) → map string_bytes (map (λ e. e.0) es) ≡ keys_of (members_view es)
of_members [] = refl
of_members (e ∷ es) = ap (λ ts. string_bytes e.0 ∷ ts) (of_members es)

-- all keys of a table were met
pub texts-all : (ks : List (Bor (String Global))) (m : BTreeMap (String Global) Value) → map (λ k. k.now) ks ≡ keys m → texts ks ≡ keys_of (table_view m)
texts-all ks m all = of_keys ks ∙ ap (map string_bytes) all ∙ of_members m.entries
