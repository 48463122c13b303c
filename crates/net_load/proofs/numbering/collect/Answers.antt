use Rattle.std.proofs.Common.{refl}
use Rattle.net_load.proofs.Collected.{all_collected, count_collected}
use Rattle.net_load.proofs.numbering.collect.Goals as goal

pub returns-clause-names : goal.returns-clause-names
returns-clause-names c = all_collected _ _ _ _ _ _ c.args.old.now c.args.new.now c.args.table.now c.args.extra.now c.new-names.ensures refl refl c.in_ok-add_networks.ensures refl c.in_ok-add_last.ensures

pub returns-clause-count : goal.returns-clause-count
returns-clause-count c = count_collected _ _ _ _ _ _ c.args.old.now c.args.new.now c.args.table.now c.args.extra.now c.new-names.ensures refl refl c.in_ok-add_networks.ensures refl c.in_ok-add_last.ensures
