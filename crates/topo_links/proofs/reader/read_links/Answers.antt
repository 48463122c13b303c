use Rattle.topo_links.proofs.TableSize.{table_size}
use Rattle.topo_links.proofs.reader.read_links.Goals as goal

pub returns-clause-names : goal.returns-clause-names
returns-clause-names c = table_size c.args.bytes.now c.in_ok-table.table c.in_ok-table.ensures
