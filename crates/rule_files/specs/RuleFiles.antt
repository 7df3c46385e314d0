-- What a rule file says, from the table that its text is.
use Rattle.std.specs.Prelude.{◌≡◌, ℕ, ◌+◌, Bool, true, false, not, ◌==◌, ◌&&◌, ◌||◌, nat_le, nat_lt, List, [], ◌∷◌, ◌++◌, length, codes, Option, Some, None, Result, Ok, Err, if◌then◌else◌, option_and_then}
use Rattle.std.specs.List.{flat_map, list_all, list_any}
use Rattle.std.specs.Option.{option_map, option_map_or}
use Rattle.std.specs.Result.{result_ok}
use Rattle.toml.specs.Data.{Data, as_bool, as_integer, as_str, as_table, Members, get_member}
use Rattle.toml.specs.Parse.{parse_document}
use Rattle.slp_text.specs.Ascii.{comma, hyphen, is_digit, is_lower}
use Rattle.slp_text.specs.Reading.{read_map, read_then}
use Rattle.slp_scopes.specs.Scopes.{scopes_of}
use Rattle.slp_tags.specs.Tags.{Part, tags_of}
use Rattle.slp_text.specs.Words.{bytes_eq}
use Rattle.service_url.specs.Types.{type_of}
use Rattle.addresses.specs.Addresses.{prefix_of}
use Rattle.access_rules.specs.Deciding.{SiteRules}
use Rattle.toml_tables.specs.Tables.{if_where, is_some_list, natural, each_in, array_values, text_at, values_at, keys_of}
use Rattle.rule_files.specs.declared.fault.RuleFault.{RuleFault}
use Rattle.rule_files.specs.declared.version.Version.{Version}
use Rattle.access_rules.specs.declared.hide.Hide.{Hide}
use Rattle.rule_files.specs.declared.version.Version.TheVariants.{One, Two, Three}
use Rattle.rule_files.specs.declared.fault.RuleFault.TheVariants.{Shape, TwiceName, NoMemory, Toml}
use Rattle.access_rules.specs.declared.rule.Action.{Action}
use Rattle.access_rules.specs.declared.rule.Action.TheVariants.{Register, Withdraw, See}
use Rattle.addresses.specs.declared.prefix.Prefix.{Prefix}
use Rattle.access_rules.specs.declared.rule.Rule.{Rule}

-- the bytes of the longest rule file
abbrev pub longest_text : ℕ
longest_text = 1048576

-- ---- the keys

abbrev pub version_key : List ℕ
version_key = codes "version"

abbrev pub rule_key : List ℕ
rule_key = codes "rule"

abbrev pub name_key : List ℕ
name_key = codes "name"

abbrev pub from_key : List ℕ
from_key = codes "from"

abbrev pub action_key : List ℕ
action_key = codes "action"

abbrev pub type_key : List ℕ
type_key = codes "type"

abbrev pub scopes_key : List ℕ
scopes_key = codes "scopes"

abbrev pub verdict_key : List ℕ
verdict_key = codes "verdict"

abbrev pub owner_key : List ℕ
owner_key = codes "owner"

abbrev pub hide_key : List ℕ
hide_key = codes "hide"

abbrev pub tags_key : List ℕ
tags_key = codes "tags"

abbrev pub spare_owner_key : List ℕ
spare_owner_key = codes "spare-owner"

-- ---- versions

abbrev pub version_numbered : ℕ → Option Version
version_numbered n = if n == 1 then Some One else (if n == 2 then Some Two else (if n == 3 then Some Three else None))

-- the version that a table names
abbrev pub version_in : Members → Option Version
version_in table = option_and_then version_numbered (option_and_then natural (option_and_then as_integer (get_member version_key table)))

-- ---- what stands at each key of a rule or of a hide table

-- `*`, which stands for every type and for every scope
abbrev pub every_word : List ℕ
every_word = codes "*"

-- small letters, digits and `-`
abbrev pub is_name_byte : ℕ → Bool
is_name_byte b = is_lower b || is_digit b || b == hyphen

-- 1 to 32 of these
abbrev pub is_rule_name : List ℕ → Bool
is_rule_name text = nat_le 1 (length text) && nat_le (length text) 32 && list_all is_name_byte text

abbrev pub name_in : Members → Option (List ℕ)
name_in table = option_and_then (if_where is_rule_name) (text_at name_key table)

abbrev pub prefix_in : Data → Option Prefix
prefix_in d = option_and_then prefix_of (as_str d)

-- at least one prefix
abbrev pub prefixes_listed : List Data → Option (List Prefix)
prefixes_listed ds = if is_some_list ds then each_in prefix_in ds else None

abbrev pub from_in : Members → Option (List Prefix)
from_in table = option_and_then prefixes_listed (values_at from_key table)

abbrev pub action_named : List ℕ → Option Action
action_named word =
    if bytes_eq word (codes "register") then Some Register
    else (if bytes_eq word (codes "withdraw") then Some Withdraw
    else (if bytes_eq word (codes "see") then Some See else None))

abbrev pub action_in : Members → Option Action
action_in table = option_and_then action_named (text_at action_key table)

-- every type, or the one that is named
abbrev pub kind_named : List ℕ → Option (Option (List ℕ))
kind_named text = if bytes_eq text every_word then Some None else option_map Some (result_ok (type_of text))

abbrev pub kind_in : Members → Option (Option (List ℕ))
kind_in table = option_and_then kind_named (text_at type_key table)

-- a scope list of one scope
abbrev pub is_scope_name : List ℕ → Bool
is_scope_name text = option_map_or (λ scopes. length scopes == 1) (result_ok (scopes_of text)) false

abbrev pub scope_name_in : Data → Option (List ℕ)
scope_name_in d = option_and_then (if_where is_scope_name) (as_str d)

-- names with a comma after each
abbrev pub comma_ended : List (List ℕ) → List ℕ
comma_ended names = flat_map (λ name. name ++ comma ∷ []) names

-- the scopes that some names are together
abbrev pub scopes_named : List (List ℕ) → Option (List (List ℕ))
scopes_named names = result_ok (scopes_of (comma_ended names))

-- `*` alone
abbrev pub is_every_scope : List Data → Bool
is_every_scope [] = false
is_every_scope (d ∷ []) = option_map_or (bytes_eq every_word) (as_str d) false
is_every_scope (d ∷ e ∷ ds) = false

-- at least one name of a scope
abbrev pub listed_scopes : List Data → Option (List (List ℕ))
listed_scopes ds = if is_some_list ds then option_and_then scopes_named (each_in scope_name_in ds) else None

-- every scope, or those that are named
abbrev pub scopes_listed : List Data → Option (Option (List (List ℕ)))
scopes_listed ds = if is_every_scope ds then Some None else option_map Some (listed_scopes ds)

abbrev pub scopes_in : Members → Option (Option (List (List ℕ)))
scopes_in table = option_and_then scopes_listed (values_at scopes_key table)

abbrev pub verdict_named : List ℕ → Option Bool
verdict_named word =
    if bytes_eq word (codes "allow") then Some true else (if bytes_eq word (codes "deny") then Some false else None)

abbrev pub verdict_in : Members → Option Bool
verdict_in table = option_and_then verdict_named (text_at verdict_key table)

-- whether it is about owners alone: it is not where nothing says so
abbrev pub owner_in : Members → Option Bool
owner_in table = option_map_or as_bool (get_member owner_key table) (Some false)

-- a list of tags with one part at least
abbrev pub tags_named : List ℕ → Option (List Part)
tags_named text = option_and_then (if_where is_some_list) (result_ok (tags_of text))

abbrev pub tags_in : Members → Option (List Part)
tags_in table = option_and_then tags_named (text_at tags_key table)

-- whether owners are spared: they are not where nothing says so
abbrev pub spare_owner_in : Members → Option Bool
spare_owner_in table = option_map_or as_bool (get_member spare_owner_key table) (Some false)

-- ---- values that are read one by one

-- what values are, the first of which has this number; at fault is the first that is none
abbrev pub each_from : {A : Type 0} → (Data → Option A) → ℕ → List Data → Result (List A) RuleFault
each_from f n [] = Ok []
each_from f n (d ∷ ds) = option_map_or (λ x. read_map (λ xs. x ∷ xs) (each_from f (n + 1) ds)) (f d) (Err (Shape n))

-- ---- rules

-- a key that a rule has in every version
abbrev pub is_common_key : List ℕ → Bool
is_common_key key =
    list_any (bytes_eq key) (name_key ∷ from_key ∷ action_key ∷ type_key ∷ scopes_key ∷ verdict_key ∷ [])

-- a key that a rule may have
abbrev pub is_rule_key : Version → List ℕ → Bool
is_rule_key One key = is_common_key key
is_rule_key Two key = is_common_key key || bytes_eq key owner_key
is_rule_key Three key = is_common_key key || bytes_eq key owner_key

-- what it is about that is done, and whether it is allowed
abbrev pub deed_in : Members → Option (Action × Bool)
deed_in table =
    option_and_then (λ action. option_and_then (λ allow. Some (action, allow))
    (verdict_in table))
    (action_in table)

-- the types and the scopes that it is about
abbrev pub matter_in : Members → Option (Option (List ℕ) × Option (List (List ℕ)))
matter_in table =
    option_and_then (λ kind. option_and_then (λ scopes. Some (kind, scopes))
    (scopes_in table))
    (kind_in table)

-- the rule of what stands at the keys of a table
abbrev pub rule_with : Members → Option Rule
rule_with table =
    option_and_then (λ deed. option_and_then (λ matter. option_and_then (λ owner. option_and_then (λ name. option_and_then (λ from.
    Some (record { name = name; from = from; action = deed.0; kind = matter.0; scopes = matter.1; allow = deed.1; owner = owner }))
    (from_in table))
    (name_in table))
    (owner_in table))
    (matter_in table))
    (deed_in table)

-- the rule that a table is: it has no other key than those of its version
abbrev pub rule_of_table : Version → Members → Option Rule
rule_of_table version table = if list_all (is_rule_key version) (keys_of table) then rule_with table else None

abbrev pub rule_in : Version → Data → Option Rule
rule_in version d = option_and_then (rule_of_table version) (as_table d)

-- the rules that values are, the first of which has this number
abbrev pub rules_from : Version → ℕ → List Data → Result (List Rule) RuleFault
rules_from version = each_from (rule_in version)

-- ---- hide tables

-- a key that a hide table may have
abbrev pub is_hide_key : List ℕ → Bool
is_hide_key key =
    list_any (bytes_eq key) (name_key ∷ from_key ∷ type_key ∷ scopes_key ∷ tags_key ∷ spare_owner_key ∷ [])

-- which tags it hides, and whether owners are spared
abbrev pub hidden_in : Members → Option (List Part × Bool)
hidden_in table =
    option_and_then (λ tags. option_and_then (λ spared. Some (tags, spared))
    (spare_owner_in table))
    (tags_in table)

-- the hide table of what stands at the keys of a table
abbrev pub hide_with : Members → Option Hide
hide_with table =
    option_and_then (λ hidden. option_and_then (λ matter. option_and_then (λ name. option_and_then (λ from.
    Some (record { name = name; from = from; kind = matter.0; scopes = matter.1; tags = hidden.0; spares_owner = hidden.1 }))
    (from_in table))
    (name_in table))
    (matter_in table))
    (hidden_in table)

-- the hide table that a table is: it has no other key
abbrev pub hide_of_table : Members → Option Hide
hide_of_table table = if list_all is_hide_key (keys_of table) then hide_with table else None

abbrev pub hide_in : Data → Option Hide
hide_in d = option_and_then hide_of_table (as_table d)

-- the hide tables that values are, the first of which has this number
abbrev pub hides_from : ℕ → List Data → Result (List Hide) RuleFault
hides_from = each_from hide_in

-- ---- the file

abbrev pub is_plain_file_key : List ℕ → Bool
is_plain_file_key key = list_any (bytes_eq key) (version_key ∷ rule_key ∷ [])

-- a key that a file may have
abbrev pub is_file_key : Version → List ℕ → Bool
is_file_key One key = is_plain_file_key key
is_file_key Two key = is_plain_file_key key
is_file_key Three key = is_plain_file_key key || bytes_eq key hide_key

-- the version of a file: it has no other key
abbrev pub file_version : Members → Option Version
file_version table = option_and_then (if_where (λ version. list_all (is_file_key version) (keys_of table))) (version_in table)

-- the values of the array at a key, none where the key is missing
abbrev pub all_values_in : List ℕ → Members → Option (List Data)
all_values_in key table = option_map_or array_values (get_member key table) (Some [])

-- the values of its rules, and of its hide tables: at most 1,024 together
abbrev pub file_values_in : Members → Option (List Data × List Data)
file_values_in table =
    option_and_then (λ rules. option_and_then (λ hides. if_where (λ both. nat_le (length both.0 + length both.1) 1024) (rules, hides))
    (all_values_in hide_key table))
    (all_values_in rule_key table)

-- no two hide tables have one name
abbrev pub are_hides_named_once : List Hide → Bool
are_hides_named_once [] = true
are_hides_named_once (h ∷ hs) = not (list_any (λ g. bytes_eq h.name g.name) hs) && are_hides_named_once hs

-- no two have one name of these hide tables and of rules
abbrev pub are_named_once : List Hide → List Rule → Bool
are_named_once hides [] = are_hides_named_once hides
are_named_once hides (r ∷ rs) =
    not (list_any (λ s. bytes_eq r.name s.name) rs || list_any (λ h. bytes_eq r.name h.name) hides) && are_named_once hides rs

abbrev pub named_once : List Rule → List Hide → Result SiteRules RuleFault
named_once rules hides = if are_named_once hides rules then Ok (record { rules = rules; hides = hides }) else Err TwiceName

-- the rules and the hide tables that values are: rule after rule, then table after table, last that no two have one name
abbrev pub rules_of_values : Version → List Data × List Data → Result SiteRules RuleFault
rules_of_values version values =
    read_then (λ rules. read_then (named_once rules) (hides_from (length values.0 + 1) values.1)) (rules_from version 1 values.0)

-- What a table says: first the file itself is asked for.
unfoldable pub rules_in_table : Members → Result SiteRules RuleFault
rules_in_table table =
    option_map_or (λ version. option_map_or (rules_of_values version) (file_values_in table) (Err (Shape 0))) (file_version table) (Err (Shape 0))

abbrev pub rules_in_document : Option Members → Result SiteRules RuleFault
rules_in_document None = Err Toml
rules_in_document (Some table) = rules_in_table table

-- what a text says
unfoldable pub rules_in_text : List ℕ → Result SiteRules RuleFault
rules_in_text text = if nat_lt longest_text (length text) then Err (Shape 0) else rules_in_document (parse_document text)

-- ---- readings

-- the fault that reading gives, unless memory ran out
abbrev pub IsFault : {A : Type 0} → RuleFault → Result A RuleFault → Type 0
IsFault NoMemory read = Unit {0}
IsFault (Shape n) read = read ≡ Err (Shape n)
IsFault TwiceName read = read ≡ Err TwiceName
IsFault Toml read = read ≡ Err Toml

-- what reading gives, unless memory ran out
abbrev pub IsReading : {A : Type 0} → Result A RuleFault → Result A RuleFault → Type 0
IsReading (Ok x) read = read ≡ Ok x
IsReading (Err e) read = IsFault e read
