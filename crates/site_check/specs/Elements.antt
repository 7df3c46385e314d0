-- Which elements of an array are wrong.
use Rattle.std.specs.Prelude.{ℕ, ◌+◌, Bool, false, List, [], codes, find, is_some, take, Option, if◌then◌else◌, option_and_then, unwrap_or}
use Rattle.std.specs.List.{enumerate_from, flat_map}
use Rattle.std.specs.Option.{option_map_or}
use Rattle.toml.specs.Data.{Data, as_str, Members}
use Rattle.addresses.specs.Addresses.{socket_of}
use Rattle.rule_files.specs.RuleFiles.{from_key, prefix_in}
use Rattle.site_config.specs.Configurations.{listen_key, same_socket}
use Rattle.toml_tables.specs.Tables.{values_at}
use Rattle.site_check.specs.Lines.{Again, Element, File, Place, problem_line}

-- the values of the array at a key; none where there is none
abbrev pub elements_at : List ℕ → Members → List Data
elements_at key table = unwrap_or (values_at key table) []

-- ---- of `from`

-- a value, with its index, that is no prefix
abbrev pub prefix_line : Place → ℕ × Data → List ℕ
prefix_line place indexed =
    if is_some (prefix_in indexed.1) then [] else problem_line place (Element (indexed.0 + 1) from_key (codes "not a prefix \"a.b.c.d/n\""))

abbrev pub prefix_lines : Place → List Data → List ℕ
prefix_lines place ds = flat_map (prefix_line place) (enumerate_from 0 ds)

-- ---- of `listen`

abbrev pub socket_in : Data → Option (ℕ × ℕ)
socket_in d = option_and_then socket_of (as_str d)

abbrev pub is_at : ℕ × ℕ → Data → Bool
is_at socket d = option_map_or (same_socket socket) (socket_in d) false

-- an address with a port, which is to be the element of this number, stands among these
abbrev pub again_line : List ℕ → ℕ → List Data → ℕ × ℕ → List ℕ
again_line file number earlier socket =
    option_map_or (λ other. problem_line (File file) (Again number listen_key other.0)) (find (λ other. is_at socket other.1) (enumerate_from 1 earlier)) []

-- a value, with its index among these, that is no address with a port, or one that stands there before
abbrev pub socket_line : List ℕ → List Data → ℕ × Data → List ℕ
socket_line file ds indexed =
    option_map_or (again_line file (indexed.0 + 1) (take indexed.0 ds)) (socket_in indexed.1)
    (problem_line (File file) (Element (indexed.0 + 1) listen_key (codes "not a text \"a.b.c.d:port\"")))

abbrev pub socket_lines : List ℕ → List Data → List ℕ
socket_lines file ds = flat_map (socket_line file ds) (enumerate_from 0 ds)
