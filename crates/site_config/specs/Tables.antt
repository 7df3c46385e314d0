-- What stands in a value that is a table.
use Rattle.toml.specs.Data.{Data, table, Members, no_members}

abbrev pub members_in : Data → Members
members_in (table ms) = ms
members_in _ = no_members
