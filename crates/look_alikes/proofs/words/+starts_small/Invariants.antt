use Rattle.std.proofs.Common.{length}
use Rattle.look_alikes.proofs.words.+starts_small.Given as goal

abbrev pub decreases-starts_small : goal.decreases-starts_small
decreases-starts_small l = length l.word.now
