use Rattle.net_forms.specs.Worlds.{world_in}
use Rattle.device_transfers.proofs.EntryLemmas.{entries_of_added, hold_every}
use Rattle.device_transfers.proofs.transfer.Transfer.of.Goals as goal

pub returns-clause-apart : goal.returns-clause-apart
returns-clause-apart c =
    (entries_of_added (world_in c.args.prepared.now c.args.version) c.args.place c.all.result _ c.add_entries.new.entries c.in_ok-add_entries.ensures c.empty-entries.ensures).apart

pub returns-clause-covers : goal.returns-clause-covers
returns-clause-covers c =
    let w = world_in c.args.prepared.now c.args.version in
    hold_every w c.args.place c.all.result c.add_entries.new.entries c.all.ensures (entries_of_added w c.args.place c.all.result _ c.add_entries.new.entries c.in_ok-add_entries.ensures c.empty-entries.ensures)

pub returns-clause-each : goal.returns-clause-each
returns-clause-each c =
    (entries_of_added (world_in c.args.prepared.now c.args.version) c.args.place c.all.result _ c.add_entries.new.entries c.in_ok-add_entries.ensures c.empty-entries.ensures).each
