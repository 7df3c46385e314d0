use Rattle.toml.proofs.Views.{table_get}
use Rattle.toml_tables.proofs.tables.value_at.Goals as goal

-- what is found in the map is what stands at the key
pub returns : goal.returns
returns c = table_get c.get.result c.args.key.now c.args.table.now.entries c.get.ensures.value
