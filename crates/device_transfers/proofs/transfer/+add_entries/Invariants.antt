use Rattle.std.proofs.Common.{◌-◌, ◌^◌}
use Rattle.device_transfers.proofs.transfer.+add_entries.Given as goal

abbrev pub decreases-add_entries : goal.decreases-add_entries
decreases-add_entries l = 2 ^ 112 - l.cube.now.fixed
