-- `composer::Setting::put_table` meets its contract: the flag says which of the two fills is the table's.
use Rattle.composer.proofs.Named.{table_here, table_away}
use Rattle.composer.proofs.Setting.put_table.Goals as goal

pub returns-then-self-table : goal.returns-then-self-table
returns-then-self-table c = table_here _ _ _ _ _ _ _ _ c.accesses-size.ensures c.if-self-table.true c.fill_here.ensures

pub returns-else-self-table : goal.returns-else-self-table
returns-else-self-table c = table_away _ _ _ _ _ c.args.self.now.grants _ _ c.accesses-size.ensures c.if-self-table.false c.fill_away.ensures
