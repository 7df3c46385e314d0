-- What a configuration says, from the table that its text is.
use Rattle.std.specs.Prelude.{◌≡◌, ℕ, ◌≤◌, Bool, true, not, ◌==◌, ◌&&◌, nat_le, nat_lt, List, [], ◌∷◌, length, codes, Option, Some, None, Result, Ok, Err, if◌then◌else◌, option_and_then}
use Rattle.std.specs.List.{list_all, list_any}
use Rattle.std.specs.Option.{option_map_or}
use Rattle.std.specs.Result.{result_err}
use Rattle.toml.specs.Data.{Data, as_str, Members, get_member}
use Rattle.toml.specs.Parse.{parse_document}
use Rattle.slp_text.specs.Reading.{read_then}
use Rattle.slp_scopes.specs.Scopes.{scopes_of, printed_scopes}
use Rattle.slp_text.specs.Words.{bytes_eq}
use Rattle.slp_text.specs.declared.faults.TextFault.{TextFault}
use Rattle.addresses.specs.Addresses.{socket_of}
use Rattle.toml_tables.specs.Tables.{if_where, number_in, array_in, keys_of}
use Rattle.site_config.specs.declared.keys.ConfigKey.{ConfigKey}
use Rattle.site_config.specs.declared.keys.ConfigKey.TheVariants.{Scopes, Listen, Capacity, Connections, Sweep, Rules, Templates}
use Rattle.site_config.specs.declared.config.Config.{Config}
use Rattle.site_config.specs.declared.fault.ConfigFault.{ConfigFault}
use Rattle.site_config.specs.declared.fault.ConfigFault.TheVariants.{Toml, Missing, Range, NoMemory}

-- the bytes of the longest configuration
abbrev pub longest_text : ℕ
longest_text = 1048576

-- ---- the keys

abbrev pub scopes_key : List ℕ
scopes_key = codes "scopes"

abbrev pub listen_key : List ℕ
listen_key = codes "listen"

abbrev pub capacity_key : List ℕ
capacity_key = codes "capacity"

abbrev pub connections_key : List ℕ
connections_key = codes "connections"

abbrev pub sweep_key : List ℕ
sweep_key = codes "sweep"

abbrev pub rules_key : List ℕ
rules_key = codes "rules"

abbrev pub templates_key : List ℕ
templates_key = codes "templates"

-- ---- values, where they are of their kind and within their limits

-- 1 to 16 scopes, whose printed list has at most 1,024 bytes
abbrev pub are_site_scopes : List (List ℕ) → Bool
are_site_scopes scopes = nat_le 1 (length scopes) && nat_le (length scopes) 16 && nat_le (length (printed_scopes scopes)) 1024

abbrev pub site_scopes : Result (List (List ℕ)) TextFault → Option (List (List ℕ))
site_scopes (Ok scopes) = if_where are_site_scopes scopes
site_scopes (Err e) = None

-- a text that is such a scope list
abbrev pub scopes_in : Data → Option (List (List ℕ))
scopes_in d = option_and_then (λ text. site_scopes (scopes_of text)) (as_str d)

abbrev pub same_socket : ℕ × ℕ → ℕ × ℕ → Bool
same_socket a b = a.0 == b.0 && a.1 == b.1

-- no two are one address and port
abbrev pub are_distinct : List (ℕ × ℕ) → Bool
are_distinct [] = true
are_distinct (s ∷ ss) = not (list_any (same_socket s) ss) && are_distinct ss

-- 1 to 8 distinct addresses with ports
abbrev pub are_listening : List (ℕ × ℕ) → Bool
are_listening sockets = nat_le 1 (length sockets) && nat_le (length sockets) 8 && are_distinct sockets

abbrev pub listen_in : Data → Option (List (ℕ × ℕ))
listen_in d = option_and_then (if_where are_listening) (array_in (λ t. option_and_then socket_of (as_str t)) d)

-- a path, which may be any text
abbrev pub path_in : Data → Option (Option (List ℕ))
path_in d = option_and_then (λ text. Some (Some text)) (as_str d)

-- at most 256 paths
abbrev pub templates_in : Data → Option (List (List ℕ))
templates_in d = option_and_then (if_where (λ paths. nat_le (length paths) 256)) (array_in as_str d)

-- ---- the table

abbrev pub in_range : {A : Type 0} → Option A → Result A ConfigFault
in_range None = Err Range
in_range (Some x) = Ok x

-- the value at a key that has to be there
abbrev pub needed_value : {A : Type 0} → (Data → Option A) → List ℕ → Members → Result A ConfigFault
needed_value f key table = option_map_or (λ d. in_range (f d)) (get_member key table) (Err Missing)

-- the value at a key that need not be there
abbrev pub optional_value : {A : Type 0} → (Data → Option A) → List ℕ → A → Members → Result A ConfigFault
optional_value f key usual table = option_map_or (λ d. in_range (f d)) (get_member key table) (Ok usual)

abbrev pub is_known : List ℕ → Bool
is_known key =
    list_any (bytes_eq key) (scopes_key ∷ listen_key ∷ capacity_key ∷ connections_key ∷ sweep_key ∷ rules_key ∷ templates_key ∷ [])

-- the configuration, where the table has no key besides
abbrev pub config_alone : Members → Config → Result Config ConfigFault
config_alone table config = if list_all is_known (keys_of table) then Ok config else Err Range

abbrev pub capacity_in : Members → Result ℕ ConfigFault
capacity_in = needed_value (number_in 1 65536) capacity_key

abbrev pub connections_in : Members → Result ℕ ConfigFault
connections_in = optional_value (number_in 1 256) connections_key 64

abbrev pub sweep_in : Members → Result ℕ ConfigFault
sweep_in = optional_value (number_in 1 3600) sweep_key 60

-- the capacity, the connections and the sweep, asked in this order
abbrev pub numbers_in : Members → Result (ℕ × ℕ × ℕ) ConfigFault
numbers_in table =
    read_then (λ capacity. read_then (λ connections. read_then (λ sweep. Ok (capacity, connections, sweep))
    (sweep_in table))
    (connections_in table))
    (capacity_in table)

-- the rules and the templates, asked in this order
abbrev pub paths_in : Members → Result (Option (List ℕ) × List (List ℕ)) ConfigFault
paths_in table =
    read_then (λ rules. read_then (λ templates. Ok (rules, templates))
    (optional_value templates_in templates_key [] table))
    (optional_value path_in rules_key None table)

-- what a table says, its keys asked in this order
unfoldable pub config_in : Members → Result Config ConfigFault
config_in table =
    read_then (λ scopes. read_then (λ listen. read_then (λ numbers. read_then (λ paths.
    config_alone table (record { scopes = scopes; listen = listen; capacity = numbers.0; connections = numbers.1; sweep = numbers.2; rules = paths.0; templates = paths.1 }))
    (paths_in table))
    (numbers_in table))
    (needed_value listen_in listen_key table))
    (needed_value scopes_in scopes_key table)

abbrev pub config_of_document : Option Members → Result Config ConfigFault
config_of_document None = Err Toml
config_of_document (Some table) = config_in table

-- what a text says
unfoldable pub config_of : List ℕ → Result Config ConfigFault
config_of text = if nat_lt longest_text (length text) then Err Range else config_of_document (parse_document text)

-- the fault that reading gives, unless memory ran out
abbrev pub IsFault : {A : Type 0} → ConfigFault → Result A ConfigFault → Type 0
IsFault NoMemory read = Unit {0}
IsFault Toml read = read ≡ Err Toml
IsFault Missing read = read ≡ Err Missing
IsFault Range read = read ≡ Err Range

-- what reading gives, unless memory ran out
abbrev pub IsReading : {A : Type 0} → Result A ConfigFault → Result A ConfigFault → Type 0
IsReading (Ok x) read = read ≡ Ok x
IsReading (Err e) read = IsFault e read

-- a configuration is within the limits
pub record IsWithin (c : Config) : Type 0 where
  pub some_scope : 1 ≤ length c.scopes
  pub few_scopes : length c.scopes ≤ 16
  pub short_scopes : length (printed_scopes c.scopes) ≤ 1024
  pub some_address : 1 ≤ length c.listen
  pub few_addresses : length c.listen ≤ 8
  pub some_entry : 1 ≤ c.capacity
  pub few_entries : c.capacity ≤ 65536
  pub some_connection : 1 ≤ c.connections
  pub few_connections : c.connections ≤ 256
  pub some_second : 1 ≤ c.sweep
  pub few_seconds : c.sweep ≤ 3600
  pub few_templates : length c.templates ≤ 256

-- ---- a key by itself

-- all, in the order in which they are asked
abbrev pub config_keys : List ConfigKey
config_keys = Scopes ∷ Listen ∷ Capacity ∷ Connections ∷ Sweep ∷ Rules ∷ Templates ∷ []

-- what it is called
abbrev pub key_text : ConfigKey → List ℕ
key_text Scopes = scopes_key
key_text Listen = listen_key
key_text Capacity = capacity_key
key_text Connections = connections_key
key_text Sweep = sweep_key
key_text Rules = rules_key
key_text Templates = templates_key

-- what a value that is refused is not
abbrev pub key_refusal : ConfigKey → List ℕ
key_refusal Scopes = codes "not a list of 1 to 16 scopes in at most 1024 bytes"
key_refusal Listen = codes "not an array of 1 to 8 distinct texts \"a.b.c.d:port\""
key_refusal Capacity = codes "not within 1 to 65536"
key_refusal Connections = codes "not within 1 to 256"
key_refusal Sweep = codes "not within 1 to 3600"
key_refusal Rules = codes "not the path of a file"
key_refusal Templates = codes "not an array of at most 256 paths"

-- why what stands at the key is refused, if it is
abbrev pub key_fault : ConfigKey → Members → Option ConfigFault
key_fault Scopes table = result_err (needed_value scopes_in scopes_key table)
key_fault Listen table = result_err (needed_value listen_in listen_key table)
key_fault Capacity table = result_err (capacity_in table)
key_fault Connections table = result_err (connections_in table)
key_fault Sweep table = result_err (sweep_in table)
key_fault Rules table = result_err (optional_value path_in rules_key None table)
key_fault Templates table = result_err (optional_value templates_in templates_key [] table)

-- that fault, unless memory ran out
abbrev pub IsKeyFault : Option ConfigFault → Option ConfigFault → Type 0
IsKeyFault None told = told ≡ None
IsKeyFault (Some NoMemory) told = Unit {0}
IsKeyFault (Some Toml) told = told ≡ Some Toml
IsKeyFault (Some Missing) told = told ≡ Some Missing
IsKeyFault (Some Range) told = told ≡ Some Range
