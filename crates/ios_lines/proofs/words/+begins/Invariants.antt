use Rattle.std.proofs.Common.{length}
use Rattle.ios_lines.proofs.words.+begins.Given as goal

abbrev pub decreases-begins : goal.decreases-begins
decreases-begins l = length l.words.now
