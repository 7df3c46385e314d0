-- What is wrong with a table as a rule or a hide table, key by key.
use Rattle.std.specs.Prelude.{ℕ, Bool, List, [], ◌∷◌, ◌++◌, codes, Option, Some, None, is_some, if◌then◌else◌}
use Rattle.std.specs.List.{flat_map, list_any}
use Rattle.std.specs.Option.{option_map_or}
use Rattle.toml.specs.Data.{Data, as_table, Members, get_member}
use Rattle.slp_text.specs.Words.{bytes_eq}
use Rattle.rule_files.specs.RuleFiles.{action_in, action_key, from_in, from_key, kind_in, name_in, name_key, owner_in, owner_key, scopes_in, scopes_key, spare_owner_in, spare_owner_key, tags_in, tags_key, type_key, verdict_in, verdict_key}
use Rattle.toml_tables.specs.Tables.{keys_of}
use Rattle.rule_files.specs.declared.version.Version.{Version}
use Rattle.rule_files.specs.declared.version.Version.TheVariants.{One, Two, Three}
use Rattle.site_check.specs.Elements.{elements_at, prefix_lines}
use Rattle.site_check.specs.Lines.{EarlyKey, Missing, NotTable, Place, Problem, UnknownKey, Value, problem_line}
use Rattle.site_check.specs.declared.rule_keys.Keys as lent
use Rattle.site_check.specs.declared.rule_keys.RuleKey.{RuleKey}
use Rattle.site_check.specs.declared.rule_keys.RuleKey.TheVariants.{Name, From, Action, Kind, Scopes, Verdict, Owner, Tags, SpareOwner}

-- ---- a key of a rule or of a hide table

abbrev pub key_text : RuleKey → List ℕ
key_text Name = name_key
key_text From = from_key
key_text Action = action_key
key_text Kind = type_key
key_text Scopes = scopes_key
key_text Verdict = verdict_key
key_text Owner = owner_key
key_text Tags = tags_key
key_text SpareOwner = spare_owner_key

-- what a value that is refused is not
abbrev pub key_refusal : RuleKey → List ℕ
key_refusal Name = codes "not 1 to 32 small letters, digits and \"-\""
key_refusal From = codes "not an array of one or more prefixes \"a.b.c.d/n\""
key_refusal Action = codes "neither \"register\", \"withdraw\" nor \"see\""
key_refusal Kind = codes "neither \"*\" nor a service type"
key_refusal Scopes = codes "neither [\"*\"] nor an array of one or more scopes"
key_refusal Verdict = codes "neither \"allow\" nor \"deny\""
key_refusal Owner = codes "neither true nor false"
key_refusal Tags = codes "not a tag list with one tag at least"
key_refusal SpareOwner = codes "neither true nor false"

-- what stands at the key is taken
abbrev pub stands : RuleKey → Members → Bool
stands Name table = is_some (name_in table)
stands From table = is_some (from_in table)
stands Action table = is_some (action_in table)
stands Kind table = is_some (kind_in table)
stands Scopes table = is_some (scopes_in table)
stands Verdict table = is_some (verdict_in table)
stands Owner table = is_some (owner_in table)
stands Tags table = is_some (tags_in table)
stands SpareOwner table = is_some (spare_owner_in table)

abbrev pub key_problem : Members → RuleKey → Problem
key_problem table key = option_map_or (λ d. Value (key_text key) (key_refusal key)) (get_member (key_text key) table) (Missing (key_text key))

-- which elements of what stands at the key are wrong
abbrev pub part_lines : Place → Members → RuleKey → List ℕ
part_lines place table From = prefix_lines place (elements_at from_key table)
part_lines place table Name = []
part_lines place table Action = []
part_lines place table Kind = []
part_lines place table Scopes = []
part_lines place table Verdict = []
part_lines place table Owner = []
part_lines place table Tags = []
part_lines place table SpareOwner = []

abbrev pub key_line : Place → Members → RuleKey → List ℕ
key_line place table key = if stands key table then [] else problem_line place (key_problem table key) ++ part_lines place table key

-- ---- the keys of a rule or of a hide table

-- those that it may have, and those that it may have in a later version alone
pub record Keys : Type 0 where
  pub known : List RuleKey
  pub later : List RuleKey

-- the same, wherever they lie
abbrev pub keys_in : lent.Keys → Keys
keys_in keys = record { known = keys.known.now; later = keys.later.now }

-- that a rule is about owners comes with version 2
abbrev pub rule_keys : Option Version → Keys
rule_keys (Some One) = record { known = Name ∷ From ∷ Action ∷ Kind ∷ Scopes ∷ Verdict ∷ []; later = Owner ∷ [] }
rule_keys (Some Two) = record { known = Name ∷ From ∷ Action ∷ Kind ∷ Scopes ∷ Verdict ∷ Owner ∷ []; later = [] }
rule_keys (Some Three) = record { known = Name ∷ From ∷ Action ∷ Kind ∷ Scopes ∷ Verdict ∷ Owner ∷ []; later = [] }
rule_keys None = record { known = Name ∷ From ∷ Action ∷ Kind ∷ Scopes ∷ Verdict ∷ Owner ∷ []; later = [] }

abbrev pub hide_keys : Keys
hide_keys = record { known = Name ∷ From ∷ Kind ∷ Scopes ∷ Tags ∷ SpareOwner ∷ []; later = [] }

abbrev pub is_one_of : List RuleKey → List ℕ → Bool
is_one_of keys key = list_any (λ k. bytes_eq (key_text k) key) keys

-- what is wrong with a key of a table, if anything is
abbrev pub fault_of : Keys → List ℕ → Option Problem
fault_of keys key =
    if is_one_of keys.known key then None
    else (if is_one_of keys.later key then Some (EarlyKey key) else Some (UnknownKey key))

abbrev pub other_line : Keys → Place → List ℕ → List ℕ
other_line keys place key = option_map_or (problem_line place) (fault_of keys key) []

-- each key that it may have, in their order, then each other key, in the order of the table
abbrev pub table_lines : Keys → Place → Members → List ℕ
table_lines keys place table = flat_map (key_line place table) keys.known ++ flat_map (other_line keys place) (keys_of table)

abbrev pub value_lines : Keys → Place → Data → List ℕ
value_lines keys place d = option_map_or (table_lines keys place) (as_table d) (problem_line place NotTable)
