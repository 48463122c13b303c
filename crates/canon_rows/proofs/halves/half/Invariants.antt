use Rattle.std.proofs.Common.{take}
use Rattle.canon_rows.proofs.PieceParts.{ArePartsOf}
use Rattle.canon_rows.proofs.halves.half.Given as goal

abbrev pub invariant-loop-p : goal.invariant-loop-p
invariant-loop-p l = ArePartsOf l.high l.shift (take l.p-index l.pieces) l.kept.items
