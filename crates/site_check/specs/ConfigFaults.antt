-- What is wrong with a text as a configuration.
use Rattle.std.specs.Prelude.{ℕ, List, [], ◌++◌, if◌then◌else◌}
use Rattle.std.specs.List.{flat_map}
use Rattle.std.specs.Option.{option_map_or}
use Rattle.toml.specs.Data.{Members}
use Rattle.toml_tables.specs.Tables.{keys_of}
use Rattle.site_config.specs.Configurations.{config_keys, is_known, key_fault, key_refusal, key_text, listen_key}
use Rattle.site_config.specs.declared.fault.ConfigFault.{ConfigFault}
use Rattle.site_config.specs.declared.fault.ConfigFault.TheVariants as fault
use Rattle.site_check.specs.Elements.{elements_at, socket_lines}
use Rattle.site_check.specs.Lines.{File, Missing, Problem, UnknownKey, Value, problem_line}
use Rattle.site_check.specs.NotToml.{Stop, text_lines}
use Rattle.site_config.specs.declared.keys.ConfigKey.{ConfigKey}
use Rattle.site_config.specs.declared.keys.ConfigKey.TheVariants.{Scopes, Listen, Capacity, Connections, Sweep, Rules, Templates}

-- ---- a key

-- a key that has to be there is missing, or its value is refused
abbrev pub key_problem : ConfigKey → ConfigFault → Problem
key_problem key fault.Missing = Missing (key_text key)
key_problem key fault.Range = Value (key_text key) (key_refusal key)
key_problem key fault.Toml = Value (key_text key) (key_refusal key)
key_problem key fault.NoMemory = Value (key_text key) (key_refusal key)

-- which elements of what stands at the key are wrong
abbrev pub part_lines : List ℕ → Members → ConfigKey → List ℕ
part_lines file table Listen = socket_lines file (elements_at listen_key table)
part_lines file table Scopes = []
part_lines file table Capacity = []
part_lines file table Connections = []
part_lines file table Sweep = []
part_lines file table Rules = []
part_lines file table Templates = []

abbrev pub key_line : List ℕ → Members → ConfigKey → List ℕ
key_line file table key = option_map_or (λ e. problem_line (File file) (key_problem key e) ++ part_lines file table key) (key_fault key table) []

-- ---- a table

-- a key that no configuration has
abbrev pub unknown_line : List ℕ → List ℕ → List ℕ
unknown_line file key = if is_known key then [] else problem_line (File file) (UnknownKey key)

-- each key of a configuration, in their order, then each other key, in the order of the table
abbrev pub config_table_lines : List ℕ → Members → List ℕ
config_table_lines file table = flat_map (key_line file table) config_keys ++ flat_map (unknown_line file) (keys_of table)

-- what is wrong with a text as a configuration; where it is no TOML, reading it stops so
abbrev pub config_lines : List ℕ → List ℕ → Stop → List ℕ
config_lines file = text_lines (config_table_lines file) file
