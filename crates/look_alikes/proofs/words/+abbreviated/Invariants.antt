use Rattle.std.proofs.Common.{length}
use Rattle.look_alikes.proofs.words.+abbreviated.Given as goal

abbrev pub decreases-abbreviated : goal.decreases-abbreviated
decreases-abbreviated l = length l.command.now
