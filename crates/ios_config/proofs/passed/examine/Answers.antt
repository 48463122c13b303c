use Rattle.ios_config.proofs.Passings.{counted_ok, fewer_ok}
use Rattle.ios_config.proofs.passed.examine.Goals as goal

pub returns-clause-count : goal.returns-clause-count
returns-clause-count c = counted_ok c.args.bytes.now c.examine_lines.result c.examine_lines.ensures.passed

pub returns-clause-interfaces : goal.returns-clause-interfaces
returns-clause-interfaces c = fewer_ok c.args.bytes.now c.examine_lines.result c.examine_lines.ensures.reading
