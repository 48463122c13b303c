use Rattle.std.proofs.Common.{length}
use Rattle.look_alikes.proofs.words.+begins.Given as goal

abbrev pub decreases-begins : goal.decreases-begins
decreases-begins l = length l.command.now
