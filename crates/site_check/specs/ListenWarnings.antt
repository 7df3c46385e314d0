-- What is surely not meant with the addresses of a configuration.
use Rattle.std.specs.Prelude.{ℕ, ◌+◌, ◌==◌, List, [], nat_le, if◌then◌else◌}
use Rattle.std.specs.List.{enumerate_from, flat_map}
use Rattle.site_check.specs.Lines.{AnyAddress, File, NoMachine, warning_line}

-- 224.0.0.0: from it on an address is one of a group, or of all machines of a network
abbrev pub first_group : ℕ
first_group = 3758096384

-- an address and its port, with their index
abbrev pub listen_line : List ℕ → ℕ × (ℕ × ℕ) → List ℕ
listen_line file indexed =
    if indexed.1.0 == 0 then warning_line (File file) (AnyAddress (indexed.0 + 1))
    else (if nat_le first_group indexed.1.0 then warning_line (File file) (NoMachine (indexed.0 + 1)) else [])

abbrev pub listen_lines : List ℕ → List (ℕ × ℕ) → List ℕ
listen_lines file places = flat_map (listen_line file) (enumerate_from 0 places)
