use Rattle.std.proofs.Common.{take}
use Rattle.hdr_bits.specs.Lists.{Extends}
use Rattle.device_fates.specs.Pieces.{AreNumbers}
use Rattle.device_fates.proofs.fates.Fates.numbers_of.Given as goal

abbrev pub invariant-loop-fate : goal.invariant-loop-fate
invariant-loop-fate l = Extends l.initial.self l.self × AreNumbers l.self l.numbers.items (take l.fate-index l.others)
